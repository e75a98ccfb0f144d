mod GoalLemmas
pub mod StackLemmas
