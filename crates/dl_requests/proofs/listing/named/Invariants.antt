use Rattle.std.proofs.Common.{◌≡◌, ◌++◌, drop, option_to_list, flat_map}
use Rattle.dl_rules_stream.specs.Listings.{segment_in}
use Rattle.dl_requests.proofs.listing.named.Given as goal

abbrev pub invariant-loop-name : goal.invariant-loop-name
invariant-loop-name l =
    l.segments.items ++ flat_map (λ name. option_to_list (segment_in name)) (drop l.name-index l.names)
    ≡ flat_map (λ name. option_to_list (segment_in name)) l.names
