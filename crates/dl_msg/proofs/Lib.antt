pub mod KindLemmas
pub mod MsgLemmas
