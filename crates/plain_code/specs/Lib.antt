pub mod Plain
pub mod Single
