pub mod Answering
pub mod Facts
pub mod Standing
pub mod Steps
