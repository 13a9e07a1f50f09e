pub mod DraftLemmas
pub mod Lifting
pub mod Ending
pub mod Taking
