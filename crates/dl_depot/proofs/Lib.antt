pub mod Fronts
pub mod Moments
pub mod Fuses
pub mod Steps
pub mod Kept
pub mod Empty
