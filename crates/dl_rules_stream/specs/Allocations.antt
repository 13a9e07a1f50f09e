-- The allocation of a ledger for the next segment of a stream (DistributedLog, the ledger allocator): it is made, and then named
-- by the stream's node `alloc` in place of one that an earlier owner left, which is deleted.
use Rattle.std.specs.Prelude.{ℕ, List, Option}
use Rattle.dl_types.specs.declared.one_answer.OneAnswer.TheVariants.{Made}
use Rattle.dl_types.specs.declared.meta_answer.MetaAnswer.{MetaAnswer}
use Rattle.dl_types.specs.declared.meta_answer.MetaAnswer.TheVariants as answer
use Rattle.dl_msg.specs.declared.heard.Heard.{Heard}
use Rattle.dl_formats.specs.declared.conf.Conf.{Conf}
use Rattle.dl_rules_stream.specs.Nodes.{new_sizes}
use Rattle.dl_rules_stream.specs.Requests.{Request, MakeLedger, TakeLedger}
use Rattle.dl_rules_stream.specs.Orders.{Next, Wait, Ask, Done, Refused, no_way_on, by_reply, stage_after}
use Rattle.dl_rules_stream.specs.Listings.{number_behind}

-- The stream, the path of its owner's member, the ledger in `alloc` with its version, and the configuration.
pub record AllocationArgs : Type 0 where
  pub stream : List ℕ
  pub member : List ℕ
  pub old : Option ℕ
  pub version : ℕ
  pub conf : Conf

-- which request it waits for, and the ledger that was made
pub data AllocationStage : Type 0 where
  MakingLedger : AllocationStage
  TakingLedger : (ledger : ℕ) → AllocationStage
  AllocationDone : AllocationStage

-- the request that names a ledger in `alloc`
abbrev pub takes : AllocationArgs → ℕ → Request
takes x ledger = TakeLedger x.stream x.member x.old x.version ledger

-- what it begins with
abbrev pub allocation_first : AllocationArgs → AllocationStage × Next ℕ
allocation_first x = (MakingLedger, Ask (MakeLedger (new_sizes x.conf)))

-- what it does at an answer; it is done with the ledger
unfoldable pub allocation_answers : AllocationArgs → AllocationStage → MetaAnswer → AllocationStage × Next ℕ
allocation_answers x MakingLedger (answer.One (Made path)) = (TakingLedger (number_behind path), Ask (takes x (number_behind path)))
allocation_answers x MakingLedger (answer.Failed place w) = (AllocationDone, Refused (no_way_on (MakeLedger (new_sizes x.conf)) place w))
allocation_answers x (TakingLedger ledger) (answer.Failed place w) = (AllocationDone, Refused (no_way_on (takes x ledger) place w))
allocation_answers x (TakingLedger ledger) a = (AllocationDone, Done ledger)
allocation_answers x stage a = (stage, Wait)

-- what it does at what it hears
abbrev pub allocation_hears : AllocationArgs → AllocationStage → Heard → AllocationStage × Next ℕ
allocation_hears x stage h = by_reply stage (allocation_answers x stage) h

-- the stage after all that it heard, the newest first
abbrev pub allocation_stage : AllocationArgs → List Heard → AllocationStage
allocation_stage x heard = stage_after (allocation_first x) (allocation_hears x) heard
