pub mod NameLaws
pub mod LogLaws
