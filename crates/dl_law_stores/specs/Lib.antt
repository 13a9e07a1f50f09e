pub mod States
pub mod Laws
pub mod Tasks
pub mod Segments
