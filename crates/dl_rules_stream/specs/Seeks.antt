-- Where a reader of a stream begins: the stream's point is asked for.
use Rattle.std.specs.Prelude.{ℕ, zero, List, [], ◌∷◌}
use Rattle.dl_types.specs.declared.dlsn.Dlsn.{Dlsn}
use Rattle.dl_types.specs.declared.start.Start.{Start}
use Rattle.dl_types.specs.declared.start.Start.TheVariants.{Oldest, Place, Tx}
use Rattle.dl_types.specs.declared.refusal.Refusal.TheVariants as refused
use Rattle.dl_types.specs.declared.why.Why.TheVariants.{NoNode}
use Rattle.dl_types.specs.declared.one_answer.OneAnswer.TheVariants.{Names, Bytes}
use Rattle.dl_types.specs.declared.meta_answer.MetaAnswer.{MetaAnswer}
use Rattle.dl_types.specs.declared.meta_answer.MetaAnswer.TheVariants as answer
use Rattle.dl_types.specs.Places.{greater}
use Rattle.dl_msg.specs.declared.heard.Heard.{Heard}
use Rattle.dl_rules_stream.specs.Requests.{ListCut}
use Rattle.dl_rules_stream.specs.Orders.{Next, Wait, Ask, Done, Refused, no_way_on, by_reply, or_refused, stage_after}
use Rattle.dl_rules_stream.specs.Listings.{point_of}

-- The place of the next row that a reader is given, and the least transaction id that it takes.
pub record Position : Type 0 where
  pub cursor : Dlsn
  pub floor : ℕ

-- where a reader begins that starts so, in a stream with this point
abbrev pub position_at : Dlsn → Start → Position
position_at point Oldest = record { cursor = point; floor = 0 }
position_at point (Place d) = record { cursor = greater d point; floor = 0 }
position_at point (Tx txid) = record { cursor = point; floor = txid }

-- whether it waits for its request
pub data SeekStage : Type 0 where
  Seeking : SeekStage
  SeekDone : SeekStage

-- what it begins with
abbrev pub seek_first : List ℕ → SeekStage × Next Dlsn
seek_first s = (Seeking, Ask (ListCut s))

-- what it does at an answer; it is done with the point
unfoldable pub seek_answers : List ℕ → SeekStage → MetaAnswer → SeekStage × Next Dlsn
seek_answers s Seeking (answer.Many (Names names ∷ Bytes cut version ∷ [])) = or_refused SeekDone (λ point. (SeekDone, Done point)) (point_of s cut)
seek_answers s Seeking (answer.Failed zero NoNode) = (SeekDone, Refused refused.NoStream)
seek_answers s Seeking (answer.Failed place w) = (SeekDone, Refused (no_way_on (ListCut s) place w))
seek_answers s stage a = (stage, Wait)

-- what it does at what it hears
abbrev pub seek_hears : List ℕ → SeekStage → Heard → SeekStage × Next Dlsn
seek_hears s stage h = by_reply stage (seek_answers s stage) h

-- the stage after all that it heard, the newest first
abbrev pub seek_stage : List ℕ → List Heard → SeekStage
seek_stage s heard = stage_after (seek_first s) (seek_hears s) heard
