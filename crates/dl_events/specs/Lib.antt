pub mod TxidWords
pub mod Faults
pub mod Laws
