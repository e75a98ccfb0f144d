pub mod Elements
pub mod Holding
pub mod Lists
pub mod Rows
