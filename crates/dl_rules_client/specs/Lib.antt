pub mod Acts
pub mod Views
pub mod Moves
pub mod Writing
pub mod Orders
pub mod Clients
pub mod EventRanges
