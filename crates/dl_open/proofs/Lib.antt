pub mod Allocating
pub mod Elsewhere
pub mod Going
pub mod LastVersions
pub mod Lifting
pub mod Logs
pub mod Within
