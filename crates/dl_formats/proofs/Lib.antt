pub mod KeyLemmas
pub mod FormLemmas
pub mod PathLemmas
pub mod DecodeLemmas
pub mod Exactness
pub mod ChildLemmas
