mod Lists
mod Numbers
mod Elements
mod Quotes
mod Runs
mod MarkLemmas
mod Longest
mod Stands
mod Cutting
mod LexingLemmas
pub mod Unique
