pub mod GlobalLemmas
pub mod HeadLemmas
pub mod BodyLemmas
pub mod ItemLemmas
pub mod CheckLemmas
pub mod FirstLemmas
