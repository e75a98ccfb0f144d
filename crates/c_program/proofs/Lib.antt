pub mod Blocks
pub mod Calls
pub mod Sizes
mod Worked
