-- What a step of a read says of the rule.
use Rattle.std.specs.Prelude.{◌≡◌, List, drop}
use Rattle.dl_types.specs.declared.read_row.ReadRow.{ReadRow}
use Rattle.dl_formats.specs.declared.segment_name.SegmentName.{SegmentName}
use Rattle.dl_msg.specs.declared.turn.Turn.{Turn}
use Rattle.dl_rules_stream.specs.Requests.{ListCut, op_of}
use Rattle.dl_rules_stream.specs.Orders.{Wait}
use Rattle.dl_rules_stream.specs.LogReaders as rule
use Rattle.dl_requests.specs.Turns.{turn_of}
use Rattle.dl_reader.specs.declared.stage.Stage.{Stage}
use Rattle.dl_reader.specs.declared.step.After.{After}
use Rattle.dl_reader.specs.declared.step.After.TheVariants as after
use Rattle.dl_reader.specs.declared.step.Ahead.{Ahead}
use Rattle.dl_reader.specs.declared.step.Ahead.TheVariants as ahead
use Rattle.dl_reader.specs.declared.step.Step.{Step}
use Rattle.dl_reader.specs.declared.step.Step.TheVariants as step
use Rattle.dl_reader.specs.Readings.{with_rows}
use Rattle.dl_reader.specs.Standing.{StageStands}
use Rattle.dl_reader.specs.Walks.{IsQuiet}

-- the segments that are left then
abbrev pub left_then : List SegmentName → Ahead → List SegmentName
left_then left ahead.Stay = left
left_then left ahead.Pass = drop 1 left
left_then left (ahead.Are segments) = segments.items

-- a kept stage and a turn are those to which the rule goes, with these segments left; it gives no rows
pub record IsGoing (r : rule.Read) (left : List SegmentName) (move : rule.ReadMove) (kept : Stage) (t : Turn (List ReadRow)) : Type 0 where
  pub stage : StageStands r left move.0 kept
  pub turn : t ≡ turn_of move.1
  pub quiet : IsQuiet move.1

-- a step of a read is the move of the rule
abbrev pub IsStep : rule.ReaderArgs → rule.Read → List SegmentName → rule.ReadMove → Step → Type 0
IsStep x r left move (step.Goes kept turn way) = IsGoing r (left_then left way) move kept turn
IsStep x r left move (step.Begins gone request) = (move ≡ rule.begins x r gone) × (request ≡ op_of (ListCut x.stream))
IsStep x r left move step.Ends = move ≡ rule.ends r

-- what a read does at what it hears is the move of the rule from a stage
abbrev pub IsAfter : rule.ReaderArgs → rule.Read → List SegmentName → rule.ReadStage → rule.ReadMove → After → Type 0
IsAfter x r left stage move after.Stays = move ≡ (stage, Wait)
IsAfter x r left stage move (after.Takes s) = IsStep x r left move s
IsAfter x r left stage move (after.Gathers rows s) = IsStep x (with_rows r rows) left move s
