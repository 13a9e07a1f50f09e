pub mod Shown
pub mod Refusals
pub mod Tells
pub mod Moves
pub mod Orders
pub mod Writing
pub mod Clients
