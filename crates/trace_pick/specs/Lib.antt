pub mod Best
pub mod Settled
pub mod Tables
pub mod Traces
