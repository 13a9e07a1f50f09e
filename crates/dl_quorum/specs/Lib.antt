pub mod Sizes
pub mod WriteSets
pub mod Pieces
pub mod Places
pub mod Laws
