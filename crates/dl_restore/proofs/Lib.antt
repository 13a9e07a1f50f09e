pub mod CheckLemmas
pub mod EntryLemmas
pub mod EntryLoops
pub mod LedgerLemmas
pub mod RestoreLemmas
