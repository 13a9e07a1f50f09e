mod Fields
mod PathExactness
mod RefusalExactness
pub mod EventExactness
mod WholeLines
mod Lists
