pub mod Before
pub mod Preds
pub mod Rounds
