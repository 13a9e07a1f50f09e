pub mod Turns
pub mod Facts
pub mod Standing
pub mod Hearing
pub mod Moves
