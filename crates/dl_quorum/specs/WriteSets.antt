-- Write sets on the places of an ensemble (BookKeeper: an entry is striped over the ensemble in a ring). A set of places is
-- a test.
use Rattle.std.specs.Prelude.{ℕ, ◌+◌, ◌-◌, ◌%◌, Bool, nat_le, List, map, count_by}
use Rattle.std.specs.List.{list_all}
use Rattle.dl_quorum.specs.Sizes.{Sizes}
use Rattle.dl_types.specs.Upto.{upto}

-- the place of the i-th copy of an entry
abbrev pub write_place : Sizes → ℕ → ℕ → ℕ
write_place q entry i = (entry + i) % q.e

-- the places of an entry's copies: qw of them in a ring, from the entry's own place on
unfoldable pub write_set : Sizes → ℕ → List ℕ
write_set q entry = map (λ i. write_place q entry i) (upto q.qw)

-- at least an ack quorum of the members passes
abbrev pub is_acked : Sizes → (ℕ → Bool) → List ℕ → Bool
is_acked q has members = nat_le q.qa (count_by has members)

-- so many of the members pass that the others are no ack quorum
abbrev pub is_blocked : Sizes → (ℕ → Bool) → List ℕ → Bool
is_blocked q has members = nat_le (q.qw - q.qa + 1) (count_by has members)

-- an ack quorum of the entry's write set is in the set of places
abbrev pub confirms : Sizes → ℕ → (ℕ → Bool) → Bool
confirms q entry has = is_acked q has (write_set q entry)

-- so much of the entry's write set is in the set of places that the others are no ack quorum
abbrev pub denies : Sizes → ℕ → (ℕ → Bool) → Bool
denies q entry has = is_blocked q has (write_set q entry)

-- the set of places denies each write set; there are as many of them as places
abbrev pub covers_places : Sizes → (ℕ → Bool) → Bool
covers_places q has = list_all (λ entry. denies q entry has) (upto q.e)
