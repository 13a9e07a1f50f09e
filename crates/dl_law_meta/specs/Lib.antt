pub mod Keyed
pub mod Effects
pub mod Histories
pub mod Laws
