pub mod Bodies
pub mod Entries
pub mod Ledgers
pub mod Restoring
