pub mod Pools
pub mod Pages
