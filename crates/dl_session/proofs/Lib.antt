pub mod RiseLemmas
pub mod RunLemmas
