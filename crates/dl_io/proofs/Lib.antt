pub mod Pieces
pub mod Moved
pub mod NoteLemmas
pub mod WriteLemmas
