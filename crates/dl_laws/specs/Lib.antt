pub mod Frames
pub mod Coupled
pub mod Served
pub mod Asking
pub mod Laws
