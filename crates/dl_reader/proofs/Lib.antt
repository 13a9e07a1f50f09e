pub mod Failures
pub mod Kept
pub mod Lifting
pub mod Rows
