pub mod Acts
pub mod Agreeing
pub mod Calls
pub mod Found
pub mod Heads
pub mod Kept
pub mod Needs
pub mod Order
pub mod Steps
pub mod Straight
mod Worked
