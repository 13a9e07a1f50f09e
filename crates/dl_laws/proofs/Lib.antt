pub mod LineAtoms
pub mod Frames
pub mod SessionsSeen
pub mod Steps
pub mod Later
pub mod Serving
pub mod Asking
pub mod RunLaws
