pub mod KindLemmas
pub mod RequestLemmas
pub mod AnswerLemmas
