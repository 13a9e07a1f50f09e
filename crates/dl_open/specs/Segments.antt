-- The recovery of a stream's last segment, as a part of an order.
use Rattle.std.specs.Prelude.{ℕ, List, Option}
use Rattle.dl_rules_stream.specs.SegmentRecoveries.{SegmentArgs}
use Rattle.dl_segrecover.specs.Standing as segment
use Rattle.dl_look.specs.declared.looked.Looked.{Looked}
use Rattle.dl_open.specs.declared.given.Given.{Given}

-- what the recovery of a segment is given, by what a look told
abbrev pub segment_args : Given → Option (List ℕ) → Looked → ℕ → SegmentArgs
segment_args g member looked k = segment.given_of g.tag g.stream member k looked.maxseq looked.version g.conf
