pub mod Agreement
pub mod FaultKind
pub mod Machine
pub mod Place
