pub mod FailureLemmas
pub mod ListingLemmas
pub mod LedgerNodeLemmas
pub mod NumberLemmas
pub mod PathLemmas
pub mod ReadLemmas
