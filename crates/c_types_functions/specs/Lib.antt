pub mod Functions
pub mod Finding
pub mod Views
