pub mod Disks
pub mod Promises
pub mod Laws
