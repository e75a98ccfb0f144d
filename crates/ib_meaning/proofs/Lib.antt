pub mod Agreement
pub mod Facts
pub mod Machine
pub mod Simulation
