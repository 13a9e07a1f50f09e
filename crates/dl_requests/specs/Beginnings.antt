-- The start of a segment, by its parts.
use Rattle.std.specs.Prelude.{ℕ, List}
use Rattle.dl_rules_stream.specs.Requests.{Beginning}
use Rattle.dl_requests.specs.declared.beginnings.SegmentStart.{SegmentStart}

-- a segment of this stream starts so; its owner has this member of the stream's lock
abbrev pub beginning_by : List ℕ → List ℕ → SegmentStart → Beginning
beginning_by stream member start = record {
  stream = stream;
  member = member;
  segment = start.segment;
  ledger = start.ledger;
  last = start.last;
  version = start.version;
  alloc_version = start.alloc_version;
}
