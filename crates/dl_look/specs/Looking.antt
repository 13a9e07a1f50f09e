-- What a look at a stream told, and what follows from it.
use Rattle.std.specs.Prelude.{ℕ, Option, Some, None}
use Rattle.dl_formats.specs.declared.segment_name.SegmentName.{SegmentName}
use Rattle.dl_formats.specs.declared.segment_name.SegmentName.TheVariants.{Progress}
use Rattle.dl_rules_stream.specs.Listings.{last_segment}
use Rattle.dl_rules_stream.specs.Looks as rule
use Rattle.dl_rules_stream.specs.Orders.{Next, Wait, Done, Refused}
use Rattle.dl_look.specs.declared.looked.Looked.{Looked}
use Rattle.dl_look.specs.declared.look.LookAnswer.{LookAnswer}
use Rattle.dl_look.specs.declared.look.LookAnswer.TheVariants as look

-- what is kept of a look: of the listed segments the last one
abbrev pub looked_of : rule.Looked → Looked
looked_of x = record { last = last_segment x.segments; maxseq = x.maxseq; version = x.version; old = x.old; alloc_version = x.alloc_version }

-- the number of a segment that is in progress
abbrev pub in_progress : Option SegmentName → Option ℕ
in_progress (Some (Progress k)) = Some k
in_progress last = None

-- where the rule of a look goes, by what an answer says of it
abbrev pub look_move : LookAnswer → rule.LookStage × Next Looked
look_move look.Stays = (rule.Looking, Wait)
look_move (look.Told looked) = (rule.LookDone, Done looked)
look_move (look.Refused refusal) = (rule.LookDone, Refused refusal)
