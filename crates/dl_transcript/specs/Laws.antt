-- The laws of legal transcripts: they go on piece by piece, and each rule binds.
use Rattle.std.specs.Prelude.{◌≡◌, ℕ, ◌+◌, List, ◌++◌, length, None}
use Rattle.dl_transcript.specs.declared.event.Event.{Event}
use Rattle.dl_transcript.specs.Legal.{History, first_fault, history_after, last_line}
use Rattle.dl_transcript.specs.WritingLaws.{SessionsBind, RowsBind}
use Rattle.dl_transcript.specs.SegmentLaws.{SegmentsBind, EndsBind}
use Rattle.dl_transcript.specs.ReadingLaws.{ReadsBind, RowsReadBind, EndsReadBind, RefusalsBind}

-- a legal transcript goes on as what follows does
abbrev pub GoesOn : Type 0
GoesOn = (from n : ℕ) (s : History) (xs ys : List (ℕ × Event)) → first_fault from n s xs ≡ None
    → first_fault from n s (xs ++ ys) ≡ first_fault (from + length xs) (last_line n xs) (history_after s xs) ys

-- Each rule binds: for each there is a small transcript that breaks it alone, and has its first fault there.
pub record EachRuleBinds : Type 0 where
  pub sessions : SessionsBind
  pub rows : RowsBind
  pub segments : SegmentsBind
  pub ends : EndsBind
  pub reads : ReadsBind
  pub rows_read : RowsReadBind
  pub ends_read : EndsReadBind
  pub refusals : RefusalsBind
