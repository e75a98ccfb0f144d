mod AlsoLemmas
mod ArrayLemmas
mod ListLemmas
mod Worked
