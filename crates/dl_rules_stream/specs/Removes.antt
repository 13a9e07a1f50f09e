-- Removing a stream: its lock and its segments. The other nodes stay, so that a stream of this name goes on with its next
-- segment.
use Rattle.std.specs.Prelude.{ℕ, List}
use Rattle.dl_types.specs.declared.refusal.Refusal.TheVariants as refused
use Rattle.dl_types.specs.declared.why.Why.TheVariants.{NoNode, NotEmpty}
use Rattle.dl_types.specs.declared.meta_answer.MetaAnswer.{MetaAnswer}
use Rattle.dl_types.specs.declared.meta_answer.MetaAnswer.TheVariants as answer
use Rattle.dl_msg.specs.declared.heard.Heard.{Heard}
use Rattle.dl_rules_stream.specs.Requests.{RemoveStream}
use Rattle.dl_rules_stream.specs.Orders.{Next, Wait, Ask, Done, Refused, no_way_on, by_reply, stage_after}

-- whether it waits for its request
pub data RemoveStage : Type 0 where
  Removing : RemoveStage
  RemoveDone : RemoveStage

-- what it begins with
abbrev pub remove_first : List ℕ → RemoveStage × Next (Unit {0})
remove_first s = (Removing, Ask (RemoveStream s))

-- what it does at an answer
unfoldable pub remove_answers : List ℕ → RemoveStage → MetaAnswer → RemoveStage × Next (Unit {0})
remove_answers s Removing (answer.Failed place NoNode) = (RemoveDone, Refused refused.NoStream)
remove_answers s Removing (answer.Failed place (NotEmpty n)) = (RemoveDone, Refused (refused.NotEmpty n))
remove_answers s Removing (answer.Failed place w) = (RemoveDone, Refused (no_way_on (RemoveStream s) place w))
remove_answers s Removing a = (RemoveDone, Done tt)
remove_answers s RemoveDone a = (RemoveDone, Wait)

-- what it does at what it hears
abbrev pub remove_hears : List ℕ → RemoveStage → Heard → RemoveStage × Next (Unit {0})
remove_hears s stage h = by_reply stage (remove_answers s stage) h

-- the stage after all that it heard, the newest first
abbrev pub remove_stage : List ℕ → List Heard → RemoveStage
remove_stage s heard = stage_after (remove_first s) (remove_hears s) heard
