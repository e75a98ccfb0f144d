pub mod NameLemmas
pub mod TableLemmas
pub mod NoteLemmas
mod TypeLemmas
mod LoopLemmas
