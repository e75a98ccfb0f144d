pub mod Signs
pub mod Machine
pub mod Told
