pub mod Leads
pub mod Parts
pub mod Asides
pub mod Words
