pub mod Items
pub mod Placement
pub mod Growth
pub mod Survival
pub mod Meetings
pub mod Tasks
pub mod Tables
pub mod NodeSteps
