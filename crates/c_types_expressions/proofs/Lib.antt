pub mod ArgumentLemmas
mod ListNodes
mod PlainEffects
