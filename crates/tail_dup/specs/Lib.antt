pub mod Duplicated
pub mod Tables
