pub mod Checked
pub mod Keeping
pub mod Limits
pub mod Nodes
