pub mod Failures
pub mod LastEntry
pub mod Moves
