pub mod First
pub mod Lexing
pub mod Lexed
