pub mod Cases
mod Worked
mod WellFormedRows
