pub mod Growing
pub mod Heads
