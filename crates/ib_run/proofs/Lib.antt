pub mod OverHost
pub mod Paths
pub mod Results
