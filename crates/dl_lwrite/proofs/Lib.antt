pub mod AckLemmas
pub mod Hearing
pub mod Sends
