pub mod Statements
pub mod Keeping
