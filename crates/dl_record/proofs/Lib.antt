pub mod MemberSizes
pub mod Sizes
pub mod Loop
pub mod Steps
pub mod Members
pub mod Heads
pub mod RecordLaws
pub mod Entries
pub mod WalkLaws
pub mod BuildingLaws
pub mod CheckLaws
mod SharedLaws
