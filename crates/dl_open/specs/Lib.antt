pub mod Segments
pub mod Recovering
pub mod Opening
