pub mod FieldExactness
pub mod StepExactness
pub mod EarlyExactness
pub mod WholeLines
pub mod EarlyLemmas
mod Openings
