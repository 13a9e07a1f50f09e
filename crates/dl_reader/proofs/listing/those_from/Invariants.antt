use Rattle.std.proofs.Common.{◌≡◌, ◌++◌, drop, filter, nat_le}
use Rattle.dl_formats.specs.declared.segment_name.SegmentName.{SegmentName}
use Rattle.dl_rules_stream.specs.Listings.{number_of}
use Rattle.dl_reader.proofs.listing.those_from.Given as goal

abbrev pub invariant-loop-segment : goal.invariant-loop-segment
invariant-loop-segment l =
    l.left.items ++ filter (λ (s : SegmentName). nat_le l.fn.least (number_of s)) (drop l.segment-index l.segments)
    ≡ filter (λ (s : SegmentName). nat_le l.fn.least (number_of s)) l.segments
