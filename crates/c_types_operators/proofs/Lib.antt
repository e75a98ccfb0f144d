pub mod JudgingLemmas
mod CallLemmas
mod NoteLemmas
pub mod PartLemmas
mod TypedRows
