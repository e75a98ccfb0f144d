pub mod Closed
pub mod Programs
pub mod Steps
