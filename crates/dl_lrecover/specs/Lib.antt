pub mod Facts
pub mod Failures
pub mod Finding
pub mod Standing
pub mod Views
