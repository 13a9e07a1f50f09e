pub mod Sessions
pub mod Rises
pub mod Laws
