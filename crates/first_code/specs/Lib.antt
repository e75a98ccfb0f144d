pub mod Code
pub mod Made
pub mod Operand
pub mod Plain
