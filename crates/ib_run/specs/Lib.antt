pub mod OverHost
pub mod Path
pub mod Report
