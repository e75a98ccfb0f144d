pub mod Alike
pub mod Level
pub mod Steady
mod Worked
