-- Making a stream: all its nodes at once, or, where the stream was removed before, its lock and its segments alone.
use Rattle.std.specs.Prelude.{ℕ, zero, List}
use Rattle.dl_types.specs.declared.refusal.Refusal.TheVariants as refused
use Rattle.dl_types.specs.declared.why.Why.TheVariants.{NodeExists}
use Rattle.dl_types.specs.declared.meta_answer.MetaAnswer.{MetaAnswer}
use Rattle.dl_types.specs.declared.meta_answer.MetaAnswer.TheVariants as answer
use Rattle.dl_msg.specs.declared.heard.Heard.{Heard}
use Rattle.dl_rules_stream.specs.Requests.{MakeStream, MakeAgain}
use Rattle.dl_rules_stream.specs.Orders.{Next, Wait, Ask, Done, Refused, no_way_on, by_reply, stage_after}

-- which request it waits for
pub data MakeStage : Type 0 where
  Making : MakeStage
  MakingAgain : MakeStage
  MakeDone : MakeStage

-- what it begins with
abbrev pub make_first : List ℕ → MakeStage × Next (Unit {0})
make_first s = (Making, Ask (MakeStream s))

-- what it does at an answer
unfoldable pub make_answers : List ℕ → MakeStage → MetaAnswer → MakeStage × Next (Unit {0})
make_answers s Making (answer.Failed zero NodeExists) = (MakingAgain, Ask (MakeAgain s))
make_answers s Making (answer.Failed place w) = (MakeDone, Refused (no_way_on (MakeStream s) place w))
make_answers s Making a = (MakeDone, Done tt)
make_answers s MakingAgain (answer.Failed zero NodeExists) = (MakeDone, Refused refused.StreamExists)
make_answers s MakingAgain (answer.Failed place w) = (MakeDone, Refused (no_way_on (MakeAgain s) place w))
make_answers s MakingAgain a = (MakeDone, Done tt)
make_answers s MakeDone a = (MakeDone, Wait)

-- what it does at what it hears
abbrev pub make_hears : List ℕ → MakeStage → Heard → MakeStage × Next (Unit {0})
make_hears s stage h = by_reply stage (make_answers s stage) h

-- the stage after all that it heard, the newest first
abbrev pub make_stage : List ℕ → List Heard → MakeStage
make_stage s heard = stage_after (make_first s) (make_hears s) heard
