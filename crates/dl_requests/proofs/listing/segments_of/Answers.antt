use Rattle.std.proofs.Common.{◌≡◌, [], ap, ◌∙◌, rules}
use Rattle.std.proofs.lemmas.Fn.{always_returns_same}
use Rattle.std.proofs.lemmas.List.Sorted.{IsNonDecreasingBy-from_sort_by_key}
use Rattle.dl_rules_stream.specs.Listings.{segments_of, number_of, sorted_into}
use Rattle.dl_requests.proofs.ListingLemmas.{sort_is}
use Rattle.dl_requests.proofs.listing.segments_of.Goals as goal

pub returns : goal.returns
unfolding segments_of
returns c =
    sort_is _ _ (IsNonDecreasingBy-from_sort_by_key number_of _ c.in_ok-sort_by_key.ensures.sorted (λ a r q k. search rules))
    (c.in_ok-sort_by_key.ensures.stable number_of (always_returns_same _ (λ a r. r ≡ number_of a.0.now) _ (λ a r q k. search rules)))
    ∙ ap (sorted_into []) c.in_ok-segments.ensures
