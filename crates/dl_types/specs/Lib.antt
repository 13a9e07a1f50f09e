pub mod Places
pub mod Names
pub mod NameFaults
pub mod Statuses
pub mod Quorums
pub mod Ensembles
pub mod Upto
