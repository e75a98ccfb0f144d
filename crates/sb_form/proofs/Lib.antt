pub mod ByLabel
pub mod Copied
pub mod Growing
pub mod Whole
