pub mod Kinds
pub mod Spelled
pub mod FirstForm
pub mod Reading
pub mod Gives
pub mod Left
pub mod Meaning
pub mod Places
