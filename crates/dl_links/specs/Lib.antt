pub mod Filing
pub mod Waiting
pub mod Tables
pub mod Sent
pub mod Keeping
pub mod Mails
pub mod Laws
