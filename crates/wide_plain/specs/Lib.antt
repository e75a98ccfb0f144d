pub mod Emitted
pub mod Made
pub mod Sizes
