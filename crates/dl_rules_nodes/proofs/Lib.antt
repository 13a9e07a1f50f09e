pub mod BookieLaws
pub mod ItemLaws
pub mod MetaItemLaws
