pub mod Machine
pub mod Entries
pub mod Counts
pub mod Run
pub mod RunStates
pub mod Commands
pub mod Answers
pub mod Laws
