pub mod Counting
pub mod Moves
pub mod Running
pub mod Sound
pub mod Tallies
pub mod Walking
