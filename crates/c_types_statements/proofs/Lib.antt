pub mod Behind
pub mod Lists
mod Declaring
pub mod Left
pub mod Rows
pub mod Typed
