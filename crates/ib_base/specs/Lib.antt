pub mod Cause
pub mod FaultPlan
pub mod Integers
pub mod MemHost
pub mod NameLog
pub mod World
