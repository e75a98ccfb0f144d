pub mod Addressed
pub mod Declarators
pub mod Homes
pub mod Walking
