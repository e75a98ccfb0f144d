pub mod Parses
pub mod Ran
