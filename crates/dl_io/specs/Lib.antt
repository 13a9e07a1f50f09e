pub mod Causes
pub mod Views
pub mod Sources
pub mod Sinks
pub mod Memory
pub mod Notes
