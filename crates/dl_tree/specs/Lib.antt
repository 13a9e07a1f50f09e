pub mod Paths
pub mod Trees
pub mod Laws
pub mod Slots
pub mod Faults
