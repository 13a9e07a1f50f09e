pub mod Outcomes
pub mod BoolLemmas
pub mod TableLemmas
pub mod CountLemmas
pub mod KnownLemmas
pub mod KeepLemmas
pub mod MoveLemmas
pub mod MovedLemmas
