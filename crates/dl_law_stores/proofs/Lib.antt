pub mod Steps
pub mod Tasks
pub mod Segments
