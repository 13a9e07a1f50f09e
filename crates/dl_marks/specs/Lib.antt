pub mod Tables
pub mod Places
pub mod Noting
pub mod Keeping
pub mod Known
pub mod Moving
