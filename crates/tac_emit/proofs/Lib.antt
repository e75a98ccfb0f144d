pub mod Counting
pub mod Emitting
pub mod Registers
pub mod Surveying
