pub mod ReadLemmas
pub mod BodyLemmas
