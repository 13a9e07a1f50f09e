-- The completion of a segment, by its parts.
use Rattle.std.specs.Prelude.{ℕ, List, Option}
use Rattle.dl_rules_stream.specs.Requests.{Completion}
use Rattle.dl_requests.specs.declared.segment_end.SegmentEnd.{SegmentEnd}

-- a segment of this stream has this end; where there is a member of the stream's lock, it has to be there
abbrev pub completion_by : List ℕ → Option (List ℕ) → SegmentEnd → Completion
completion_by stream member end = record {
  stream = stream;
  member = member;
  segment = end.segment;
  ledger = end.ledger;
  entries = end.entries;
  rows = end.rows;
  last = end.last;
  greatest = end.greatest;
  version = end.version;
}
