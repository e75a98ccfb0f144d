pub mod Both
pub mod Cycles
pub mod Kept
pub mod Lists
pub mod Scans
