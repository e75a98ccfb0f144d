pub mod Blocks
pub mod Calls
pub mod Marking
pub mod Weights
