pub mod CountLemmas
pub mod WriteSetLemmas
pub mod PieceLemmas
pub mod BitLemmas
pub mod RingLemmas
