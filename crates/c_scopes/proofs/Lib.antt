mod TableLemmas
mod Worked
