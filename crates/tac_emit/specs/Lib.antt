pub mod Emitted
pub mod Extents
pub mod Parts
