-- Counting over the places of a write set.
use Rattle.std.proofs.Common.{◌≡◌, ℕ, suc, ◌+◌, ◌<◌, Bool, cond, List, [], ◌∷◌, length, get_or, slice_index, count_by, refl, sym, ap, ap₂, ◌∙◌, arith, leb}
use Rattle.dl_types.specs.declared.ensemble.Ensemble.{Ensemble}
use Rattle.dl_quorum.specs.Sizes.{Sizes, AreSizes}
use Rattle.dl_quorum.specs.WriteSets.{write_set, confirms}
use Rattle.dl_quorum.specs.Pieces.{acks, ensemble_members, one_piece}
use Rattle.dl_quorum.proofs.CountLemmas.{count_by-cons}
use Rattle.dl_quorum.proofs.PieceLemmas.{acks-places}
use Rattle.dl_quorum.proofs.WriteSetLemmas.{length-write_set}
use Rattle.dl_rules_ledger.proofs.WriterLaws.{place_within}

-- two tests that agree on each member of a list count the same
count_by-same : (p r : ℕ → Bool) (xs : List ℕ) → ((i : ℕ) → i < length xs → p (get_or xs i 0) ≡ r (get_or xs i 0)) → count_by p xs ≡ count_by r xs
count_by-same p r [] h = refl
count_by-same p r (x ∷ xs) h =
    count_by-cons p x xs
    ∙ ap₂ (λ (b : Bool) (n : ℕ). cond b 1 0 + n) (h 0 (omega arith)) (count_by-same p r xs (λ i below. h (suc i) (omega (arith, below))))
    ∙ sym (count_by-cons r x xs)

-- an ack quorum of bookies is one of places, where the places say of each bookie what is said of it
pub acks_at_places : (q : Sizes) (x : Ensemble) (entry : ℕ) (has at : ℕ → Bool) → AreSizes q
    → ((place : ℕ) → place < q.e → at place ≡ has (slice_index (ensemble_members x) place))
    → acks (one_piece q (ensemble_members x)) entry has ≡ confirms q entry at
acks_at_places q x entry has at rule same =
    acks-places (one_piece q (ensemble_members x)) entry has
    ∙ ap (leb q.qa) (count_by-same (λ place. has (slice_index (ensemble_members x) place)) at (write_set q entry)
    (λ i below. sym (same (get_or (write_set q entry) i 0) (place_within q entry i rule (omega (arith, below, length-write_set q entry))))))
