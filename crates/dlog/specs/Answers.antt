-- What a replay may answer, and what it has read and given by then.
use Rattle.std.specs.Prelude.{◌≡◌, ℕ, List, [], ◌++◌, Option, Some, None, MatchOption, true}
use Rattle.std.specs.Io.KnownBytes.{Consumes, Appends, IsAtEnd}
use Rattle.dl_types.specs.declared.status.Status.{Status}
use Rattle.dl_types.specs.declared.status.Status.TheVariants as status
use Rattle.dl_io.specs.Causes.{Rose}
use Rattle.dl_io.specs.Sinks.{FinishesAll}
use Rattle.dl_io.specs.Views.{SourceView, SinkView}
use Rattle.dl_transcript.specs.Legal.{is_legal}
use Rattle.dl_transcript.specs.Lines.{print_transcript}
use Rattle.dlog.specs.declared.ended.Ended.{Ended}
use Rattle.dlog.specs.declared.ended.Ended.TheVariants.{Done, BadLine, Limit}
use Rattle.dlog.specs.Run.{run_transcript, run}
use Rattle.dlog.specs.RunStates.{RunState, ends_as, outcome_at}

-- some front of a text
abbrev pub IsFront : List ℕ → List ℕ → Type 0
IsFront front text = (rest : List ℕ) × (text ≡ front ++ rest)

-- what was taken decides this of the whole text: it is all that there was, or it is so whatever follows
pub data Decides (left : Option (List ℕ)) (taken : List ℕ) (P : List ℕ → Type 0) : Type 0 where
  at_end : IsAtEnd left → P taken → Decides left taken P
  whatever : ((more : List ℕ) → P (taken ++ more)) → Decides left taken P

-- a run has read so far: it ends as it did before, behind the bytes that it has taken from its source
pub record ReadsOn (from to : SourceView) (old new : RunState) : Type 0 where
  pub taken : List ℕ
  pub consumed : Consumes from.left to.left taken
  pub same : (more : List ℕ) → ends_as old (taken ++ more) ≡ ends_as new more

-- a run has read to this end: the bytes that it has taken from its source decide it
pub record ReadsToEnd (from to : SourceView) (old new : RunState) (ended : Ended) : Type 0 where
  pub taken : List ℕ
  pub consumed : Consumes from.left to.left taken
  pub decides : Decides to.left taken (λ text. ends_as old text ≡ outcome_at new ended)
  pub all : ended ≡ Done → IsAtEnd to.left

-- some bytes were taken
pub record ReadsFront (from to : SourceView) : Type 0 where
  pub taken : List ℕ
  pub consumed : Consumes from.left to.left taken

-- the run over a text prints this, and comes to this end
pub record RunsTo (given : List ℕ) (ended : Ended) (input : List ℕ) : Type 0 where
  pub text : (run input).text ≡ given
  pub end : (run input).ended ≡ ended

-- the text is the printing of the run's own transcript, and that is legal
pub record PrintsLegal (given input : List ℕ) : Type 0 where
  pub printed : given ≡ print_transcript (run_transcript input)
  pub legal : is_legal (run_transcript input) ≡ true

-- the end to which the run has come where a replay answers this; none where it has come to none
abbrev pub end_of : Status → Option Ended
end_of status.Ok = Some Done
end_of (status.Usage place) = None
end_of (status.BadSchedule line column) = Some (BadLine line column)
end_of status.ReadFault = None
end_of status.WriteFault = None
end_of (status.Limit name number) = Some (Limit name number)
end_of status.NoMemory = None
end_of (status.DeviceFault file) = None
end_of status.NotInitialised = None
end_of (status.Damaged file at) = None
end_of status.NoStream = None
end_of status.StreamExists = None
end_of (status.Refused refusal) = None
end_of (status.Unavailable need have) = None
end_of status.AlreadyInitialised = None
end_of (status.Lacking ledger entry) = None

-- the source or the sink failed, which it counted, or memory ran out
abbrev pub IsCut : SourceView → SourceView → SinkView → SinkView → Status → Type 0
IsCut from to old new status.ReadFault = Rose from.faults to.faults
IsCut from to old new status.WriteFault = Rose old.faults new.faults
IsCut from to old new status.NoMemory = Unit {0}
IsCut from to old new other = ⊥

-- A replay came to this end: the run over the text prints what was given, which is the printing of its own transcript,
-- and that is legal; what was taken decides this, and is all for a good end; and all that the sink holds is finished.
pub record CameTo (left : Option (List ℕ)) (old new : SinkView) (taken rest given : List ℕ) (ended : Ended) : Type 0 where
  pub runs : RunsTo given ended (taken ++ rest)
  pub legal : PrintsLegal given (taken ++ rest)
  pub decides : Decides left taken (RunsTo given ended)
  pub all : ended ≡ Done → IsAtEnd left
  pub finished : FinishesAll old new

-- a replay was cut: some front of what the run prints was given
pub record CutShort (from to : SourceView) (old new : SinkView) (given input : List ℕ) (s : Status) : Type 0 where
  pub cause : IsCut from to old new s
  pub front : IsFront given (run input).text

-- A replay answered with this status: it took these bytes, these are left (none, where the source doesn't tell), and it
-- gave this text; it came to the end of this status, or was cut short.
pub record Replays (from to : SourceView) (old new : SinkView) (s : Status) : Type 0 where
  pub taken : List ℕ
  pub rest : List ℕ
  pub given : List ℕ
  pub consumed : Consumes from.left to.left taken
  pub left : MatchOption to.left (rest ≡ []) (λ bytes. bytes ≡ rest)
  pub appended : Appends old.held new.held given
  pub answers : MatchOption (end_of s) (CutShort from to old new given (taken ++ rest) s) (CameTo to.left old new taken rest given)

-- the status of a run that was brought to its end
abbrev pub status_of : Ended → Status
status_of Done = status.Ok
status_of (BadLine line column) = status.BadSchedule line column
status_of (Limit name number) = status.Limit name number
