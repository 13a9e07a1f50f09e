pub mod Facts
pub mod Purging
pub mod Truncating
