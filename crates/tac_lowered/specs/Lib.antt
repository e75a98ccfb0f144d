pub mod Bytes
pub mod Code
pub mod Expressions
pub mod Items
pub mod Lowered
pub mod Operators
pub mod Slots
pub mod Statements
