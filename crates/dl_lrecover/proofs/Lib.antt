pub mod Failures
pub mod Moves
pub mod Steps
