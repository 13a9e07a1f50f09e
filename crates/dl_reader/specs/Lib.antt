pub mod Facts
pub mod Low
pub mod Readings
pub mod Standing
pub mod Steps
pub mod Views
pub mod Walks
