pub mod Ruled
pub mod Words
pub mod Laws
