pub mod Records
pub mod Rows
pub mod Sessions
pub mod Streams
