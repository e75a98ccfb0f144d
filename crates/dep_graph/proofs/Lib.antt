pub mod Carried
mod Worked
