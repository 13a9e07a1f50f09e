-- Write sets on places: their members differ, an ack quorum and a denial meet, a cover denies each write set.
use Rattle.std.proofs.Common.{◌≡◌, ◌≢◌, ℕ, ◌+◌, ◌-◌, ◌%◌, ◌<◌, ◌≤◌, Bool, true, ◌&&◌, List, [], ◌∷◌, map, length, get_or}
use Rattle.std.proofs.Common.{count_by, refl, sym, ap, ◌∙◌, subst, arith, inl, inr, ◌⊎◌, leb, leb-true, le-leb, mod-lt}
use Rattle.std.proofs.Math.Nat.{mod-add-mod, mod-eq_of_lt, mod-eq-sub-mod}
use Rattle.std.proofs.lemmas.Bool.{cases_lt}
use Rattle.std.proofs.lemmas.List.{length-map}
use Rattle.std.specs.List.{list_any, AllPairs}
use Rattle.dl_quorum.specs.Sizes.{Sizes, AreSizes}
use Rattle.dl_types.specs.Upto.{upto}
use Rattle.dl_quorum.specs.WriteSets.{write_place, write_set, is_acked, is_blocked, confirms, denies, covers_places}
use Rattle.dl_types.proofs.UptoLemmas.{length-upto, get_or-map-upto, list_all-upto}
use Rattle.dl_quorum.proofs.CountLemmas.{count_by-mono, list_any_shared}

-- a write set is its qw places in order
pub write_set-is : (q : Sizes) (entry : ℕ) → write_set q entry ≡ map (λ i. write_place q entry i) (upto q.qw)
unfolding write_set
write_set-is q entry = refl

-- a write set has qw places
pub length-write_set : (q : Sizes) (entry : ℕ) → length (write_set q entry) ≡ q.qw
unfolding write_set
length-write_set q entry = length-map (upto q.qw) _ ∙ length-upto q.qw

-- a step of less than a whole round leads elsewhere
pub moved : (r d e : ℕ) → r < e → 0 < d → d < e → (r + d) % e ≢ r
moved r d e within some less same = go (cases_lt (r + d) e)
  where
    go : ((r + d) < e) ⊎ (e ≤ (r + d)) → ⊥
    go (inl low) = let stays : (r + d) % e ≡ r + d = mod-eq_of_lt low in omega (arith, same)
    go (inr high) =
        let back : (r + d) % e ≡ (r + d - e) % e = mod-eq-sub-mod high in
        let low : r + d - e < e = omega arith in
        let stays : (r + d - e) % e ≡ r + d - e = mod-eq_of_lt low in
        omega (arith, same)

-- different steps of less than a whole round lead to different places
pub places_differ : (entry e i j : ℕ) → i < j → j < e → (entry + i) % e ≢ (entry + j) % e
places_differ entry e i j before within same =
    let some : 0 < e = omega arith in
    let split : entry + i + (j - i) ≡ entry + j = omega arith in
    moved ((entry + i) % e) (j - i) e (mod-lt (entry + i) some) (omega arith) (omega arith)
    (mod-add-mod (entry + i) e (j - i) ∙ ap (λ n. n % e) split ∙ sym same)

-- the places of a write set differ
pub write_set-distinct : (q : Sizes) (entry : ℕ) → AreSizes q → AllPairs (λ a b. a ≢ b) (write_set q entry)
write_set-distinct q entry rule i j d before within =
    let inside : j < q.qw = omega (arith, length-write_set q entry) in
    let at : (k : ℕ) → k < q.qw → get_or (write_set q entry) k d ≡ (entry + k) % q.e =
    λ k below. ap (λ ws. get_or ws k d) (write_set-is q entry) ∙ get_or-map-upto (λ n. (entry + n) % q.e) q.qw k d below in
    λ same. places_differ entry q.e i j before (omega (arith, rule.writes_within)) (sym (at i (omega arith)) ∙ same ∙ at j inside)

-- an ack quorum and a denial of the same qw members share one of them
pub acked_meets_blocked : (q : Sizes) (acked denied : ℕ → Bool) (members : List ℕ) → AreSizes q → length members ≡ q.qw
    → is_acked q acked members ≡ true → is_blocked q denied members ≡ true → list_any (λ member. acked member && denied member) members ≡ true
acked_meets_blocked q acked denied members rule all a b =
    list_any_shared acked denied members (omega (arith, leb-true _ _ a, leb-true _ _ b, rule.acks_within))

-- an entry that some bookies acknowledge is acknowledged by any set that holds them
pub is_acked-mono : (q : Sizes) (p r : ℕ → Bool) (members : List ℕ) → ((b : ℕ) → p b ≡ true → r b ≡ true) → is_acked q p members ≡ true
    → is_acked q r members ≡ true
is_acked-mono q p r members h a = le-leb _ _ (omega (arith, leb-true _ _ a, count_by-mono p r h members))

-- a larger set of bookies blocks what a smaller one blocks
pub is_blocked-mono : (q : Sizes) (p r : ℕ → Bool) (members : List ℕ) → ((b : ℕ) → p b ≡ true → r b ≡ true) → is_blocked q p members ≡ true
    → is_blocked q r members ≡ true
is_blocked-mono q p r members h a = le-leb _ _ (omega (arith, leb-true _ _ a, count_by-mono p r h members))

-- an ack quorum and a denial of one write set share a place
pub quorums_meet : (q : Sizes) (entry : ℕ) (acked denied : ℕ → Bool) → AreSizes q → confirms q entry acked ≡ true → denies q entry denied ≡ true
    → list_any (λ place. acked place && denied place) (write_set q entry) ≡ true
quorums_meet q entry acked denied rule a b = acked_meets_blocked q acked denied (write_set q entry) rule (length-write_set q entry) a b

-- two functions that agree on each number have the same images of a list
map_agree : (f g : ℕ → ℕ) → ((x : ℕ) → f x ≡ g x) → (xs : List ℕ) → map f xs ≡ map g xs
map_agree f g h [] = refl
map_agree f g h (x ∷ xs) = ap (λ y. y ∷ map f xs) (h x) ∙ ap (λ ys. g x ∷ ys) (map_agree f g h xs)

-- the write sets come round after as many entries as places
pub write_set-mod : (q : Sizes) (entry : ℕ) → write_set q (entry % q.e) ≡ write_set q entry
unfolding write_set
write_set-mod q entry = map_agree (λ i. (entry % q.e + i) % q.e) (λ i. (entry + i) % q.e) (λ i. mod-add-mod entry q.e i) (upto q.qw)

-- a cover denies each write set
pub covers_places-denies : (q : Sizes) (has : ℕ → Bool) → AreSizes q → covers_places q has ≡ true → (entry : ℕ) → denies q entry has ≡ true
covers_places-denies q has rule all entry =
    let some : 0 < q.e = omega (arith, rule.writes_within, rule.acks_within, rule.some) in
    subst (λ ws. leb (q.qw - q.qa + 1) (count_by has ws) ≡ true) (write_set-mod q entry)
    (list_all-upto (λ e. denies q e has) q.e (entry % q.e) all (mod-lt entry some))
