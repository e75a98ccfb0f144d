pub mod Units
pub mod Typing
