pub mod LeadingLemmas
pub mod WriterLaws
