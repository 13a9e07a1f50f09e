use Rattle.std.proofs.Common.{◌≡◌, drop}
use Rattle.dl_rules_stream.specs.Listings.{last_segment}
use Rattle.dl_requests.proofs.ListingLemmas.{last_or}
use Rattle.dl_requests.proofs.listing.last_segment.Given as goal

abbrev pub invariant-loop-segment : goal.invariant-loop-segment
invariant-loop-segment l = last_or l.last (drop l.segment-index l.segments) ≡ last_segment l.segments
