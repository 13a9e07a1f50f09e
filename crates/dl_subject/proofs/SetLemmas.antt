-- Sets of places that stand for bookies decide as the bookies do.
use Rattle.std.proofs.Common.{◌≡◌, ℕ, suc, ◌+◌, ◌-◌, ◌<◌, Bool, cond, ◌&&◌, List, [], ◌∷◌, length, get_or, slice_index, count_by}
use Rattle.std.proofs.Common.{refl, sym, ap, ap₂, ◌∙◌, arith, leb}
use Rattle.std.specs.List.{list_all}
use Rattle.dl_types.specs.declared.ensemble.Ensemble.{Ensemble}
use Rattle.dl_types.specs.Upto.{upto}
use Rattle.dl_quorum.specs.Sizes.{Sizes, AreSizes}
use Rattle.dl_quorum.specs.WriteSets.{write_set, confirms, denies, covers_places}
use Rattle.dl_quorum.specs.Pieces.{acks, blocks, covers, ensemble_members, one_piece}
use Rattle.dl_quorum.proofs.CountLemmas.{count_by-cons}
use Rattle.dl_quorum.proofs.PieceLemmas.{acks-places, blocks-places, covers-places}
use Rattle.dl_quorum.proofs.WriteSetLemmas.{length-write_set}
use Rattle.dl_rules_ledger.proofs.WriterLaws.{place_within}

-- two tests that agree on each member of a list count the same
count_by-same : (p r : ℕ → Bool) (xs : List ℕ) → ((i : ℕ) → i < length xs → p (get_or xs i 0) ≡ r (get_or xs i 0)) → count_by p xs ≡ count_by r xs
count_by-same p r [] h = refl
count_by-same p r (x ∷ xs) h =
    count_by-cons p x xs
    ∙ ap₂ (λ (b : Bool) (n : ℕ). cond b 1 0 + n) (h 0 (omega arith)) (count_by-same p r xs (λ i below. h (suc i) (omega (arith, below))))
    ∙ sym (count_by-cons r x xs)

-- two tests that agree on the places of an ensemble count the same of a write set
write_set-same : (q : Sizes) (entry : ℕ) (p r : ℕ → Bool) → AreSizes q → ((place : ℕ) → place < q.e → p place ≡ r place)
    → count_by p (write_set q entry) ≡ count_by r (write_set q entry)
write_set-same q entry p r rule same =
    count_by-same p r (write_set q entry)
    (λ i below. same (get_or (write_set q entry) i 0) (place_within q entry i rule (omega (arith, below, length-write_set q entry))))

-- an ack quorum of bookies is one of places, where the places say of each bookie what is said of it
pub acks_at_places : (q : Sizes) (x : Ensemble) (entry : ℕ) (has at : ℕ → Bool) → AreSizes q
    → ((place : ℕ) → place < q.e → at place ≡ has (slice_index (ensemble_members x) place))
    → acks (one_piece q (ensemble_members x)) entry has ≡ confirms q entry at
acks_at_places q x entry has at rule same =
    acks-places (one_piece q (ensemble_members x)) entry has
    ∙ ap (leb q.qa) (write_set-same q entry (λ place. has (slice_index (ensemble_members x) place)) at rule (λ place below. sym (same place below)))

-- the same of so many that the others are no ack quorum
pub blocks_at_places : (q : Sizes) (x : Ensemble) (entry : ℕ) (has at : ℕ → Bool) → AreSizes q
    → ((place : ℕ) → place < q.e → at place ≡ has (slice_index (ensemble_members x) place))
    → blocks (one_piece q (ensemble_members x)) entry has ≡ denies q entry at
blocks_at_places q x entry has at rule same =
    blocks-places (one_piece q (ensemble_members x)) entry has
    ∙ ap (leb (q.qw - q.qa + 1))
    (write_set-same q entry (λ place. has (slice_index (ensemble_members x) place)) at rule (λ place below. sym (same place below)))

-- two tests that agree agree on whether a whole list passes
all_same : (p r : ℕ → Bool) → ((x : ℕ) → p x ≡ r x) → (xs : List ℕ) → list_all p xs ≡ list_all r xs
all_same p r same [] = refl
all_same p r same (x ∷ xs) = ap (λ t. t && list_all p xs) (same x) ∙ ap (λ t. r x && t) (all_same p r same xs)

-- the same of a cover
pub covers_at_places : (q : Sizes) (x : Ensemble) (has at : ℕ → Bool) → AreSizes q
    → ((place : ℕ) → place < q.e → at place ≡ has (slice_index (ensemble_members x) place))
    → covers (one_piece q (ensemble_members x)) has ≡ covers_places q at
covers_at_places q x has at rule same =
    covers-places (one_piece q (ensemble_members x)) has
    ∙ all_same (λ entry. denies q entry (λ place. has (slice_index (ensemble_members x) place))) (λ entry. denies q entry at)
    (λ entry. ap (leb (q.qw - q.qa + 1))
    (write_set-same q entry (λ place. has (slice_index (ensemble_members x) place)) at rule (λ place below. sym (same place below))))
    (upto q.e)
