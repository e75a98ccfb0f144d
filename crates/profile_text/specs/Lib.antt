pub mod Grammar
pub mod Lines
pub mod Matching
pub mod Numbers
pub mod ProfileText
pub mod Reading
