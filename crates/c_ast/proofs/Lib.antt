mod Worked
pub mod Rows
