mod Judging
mod RowLemmas
mod RecordLemmas
mod GrowLemmas
