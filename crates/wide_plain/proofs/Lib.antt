pub mod Emitted
pub mod Functions
pub mod Lengths
pub mod Tables
