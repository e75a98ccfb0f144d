pub mod Found
pub mod Parts
pub mod Causes
mod Worked
pub mod Wrapping
