pub mod Kinds
pub mod Messages
pub mod Reading
pub mod Whole
pub mod Laws
