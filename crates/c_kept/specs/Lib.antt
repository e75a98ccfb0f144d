pub mod WellFormed
pub mod Kept
pub mod Numbered
pub mod Weights
