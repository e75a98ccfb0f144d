pub mod Chain
pub mod Facts
pub mod Meaning
pub mod Program
