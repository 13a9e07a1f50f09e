pub mod Keys
pub mod KeyLaws
pub mod Children
pub mod NodeBytes
pub mod Reading
