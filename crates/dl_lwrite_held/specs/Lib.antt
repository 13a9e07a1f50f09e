pub mod Facts
pub mod Holders
