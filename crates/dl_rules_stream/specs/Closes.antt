-- Closing a stream that is written, once all that was sent is confirmed: its ledger is closed, its segment is completed, and its
-- owner leaves the lock.
use Rattle.std.specs.Prelude.{ℕ, suc, zero, List}
use Rattle.dl_quorum.specs.Sizes.{Sizes}
use Rattle.dl_types.specs.declared.why.Why.TheVariants.{NoNode}
use Rattle.dl_types.specs.declared.meta_answer.MetaAnswer.{MetaAnswer}
use Rattle.dl_types.specs.declared.meta_answer.MetaAnswer.TheVariants as answer
use Rattle.dl_msg.specs.declared.heard.Heard.{Heard}
use Rattle.dl_rules_stream.specs.Requests.{Request, Completion, CloseLedger, CompleteSegment, LeaveLock}
use Rattle.dl_rules_stream.specs.Orders.{Next, Wait, Ask, Done, Refused, no_way_on, by_reply, stage_after}

-- The segment that is closed, how its ledger is replicated, the version of the ledger's node that the writer knows, and the path of
-- the owner's member.
pub record CloseArgs : Type 0 where
  pub completion : Completion
  pub q : Sizes
  pub version : ℕ
  pub member : List ℕ

-- which request it waits for
pub data CloseStage : Type 0 where
  ClosingLedger : CloseStage
  Completing : CloseStage
  LeavingLock : CloseStage
  CloseDone : CloseStage

-- the request that closes the ledger
abbrev pub closes : CloseArgs → Request
closes x = CloseLedger x.completion.ledger x.q x.completion.entries x.version

-- the owner leaves the lock
abbrev pub leaves : CloseArgs → CloseStage × Next (Unit {0})
leaves x = (LeavingLock, Ask (LeaveLock x.member))

-- what it begins with
abbrev pub close_first : CloseArgs → CloseStage × Next (Unit {0})
close_first x = (ClosingLedger, Ask (closes x))

-- what it does at an answer; a segment in progress that is there no more was completed by another
unfoldable pub close_answers : CloseArgs → CloseStage → MetaAnswer → CloseStage × Next (Unit {0})
close_answers x ClosingLedger (answer.Failed place w) = (CloseDone, Refused (no_way_on (closes x) place w))
close_answers x ClosingLedger a = (Completing, Ask (CompleteSegment x.completion))
close_answers x Completing (answer.Failed (suc zero) NoNode) = leaves x
close_answers x Completing (answer.Failed place w) = (CloseDone, Refused (no_way_on (CompleteSegment x.completion) place w))
close_answers x Completing a = leaves x
close_answers x LeavingLock (answer.Failed place w) = (CloseDone, Refused (no_way_on (LeaveLock x.member) place w))
close_answers x LeavingLock a = (CloseDone, Done tt)
close_answers x CloseDone a = (CloseDone, Wait)

-- what it does at what it hears
abbrev pub close_hears : CloseArgs → CloseStage → Heard → CloseStage × Next (Unit {0})
close_hears x stage h = by_reply stage (close_answers x stage) h

-- the stage after all that it heard, the newest first
abbrev pub close_stage : CloseArgs → List Heard → CloseStage
close_stage x heard = stage_after (close_first x) (close_hears x) heard
