-- Going round the ring.
use Rattle.std.proofs.Common.{◌≡◌, ℕ, ◌+◌, Bool, true, false, cond, ◌==◌, ◌||◌, List, [], ◌∷◌, map, count_by, refl, sym, ap, ◌∙◌, add-one, arith}
use Rattle.std.specs.List.{list_any}
use Rattle.std.proofs.lemmas.List.{map-append}
use Rattle.std.proofs.lemmas.List.Folds.{list_any-append}
use Rattle.std.proofs.lemmas.Bool.{cond-true, cond-false}
use Rattle.dl_quorum.specs.Sizes.{Sizes}
use Rattle.dl_types.specs.Upto.{upto}
use Rattle.dl_quorum.specs.WriteSets.{write_place, write_set}
use Rattle.dl_quorum.proofs.CountLemmas.{count_by-map-upto_more}
use Rattle.dl_quorum.proofs.WriteSetLemmas.{write_set-is}

-- the first i places of a write set
abbrev pub first_places : Sizes → ℕ → ℕ → List ℕ
first_places q entry i = map (λ k. write_place q entry k) (upto i)

-- what passes counts one
one_if : (b : Bool) → b ≡ true → cond {A = ℕ} b 1 0 ≡ 1
one_if b t = cond-true {A = ℕ} b 1 0 t

-- what fails counts nothing
none_if : (b : Bool) → b ≡ false → cond {A = ℕ} b 1 0 ≡ 0
none_if b t = cond-false {A = ℕ} b 1 0 t

-- a place that is in the set counts one
pub counted_yes : (q : Sizes) (entry i n m place : ℕ) (p : ℕ → Bool) → n ≡ count_by p (first_places q entry i) → place ≡ write_place q entry i
    → p place ≡ true → m ≡ n + 1 → m ≡ count_by p (first_places q entry (i + 1))
counted_yes q entry i n m place p h at t e =
    omega (arith, count_by-map-upto_more p (λ k. write_place q entry k) i, one_if (p (write_place q entry i)) (ap p (sym at) ∙ t))

-- a place that isn't counts nothing
pub counted_no : (q : Sizes) (entry i n m place : ℕ) (p : ℕ → Bool) → n ≡ count_by p (first_places q entry i) → place ≡ write_place q entry i
    → p place ≡ false → m ≡ n → m ≡ count_by p (first_places q entry (i + 1))
counted_no q entry i n m place p h at t e =
    omega (arith, count_by-map-upto_more p (λ k. write_place q entry k) i, none_if (p (write_place q entry i)) (ap p (sym at) ∙ t))

-- a fact or what never holds is the fact
or_false : (b : Bool) → (b || false) ≡ b
or_false true = refl
or_false false = refl

-- either of two facts, in either order
or_comm : (a b : Bool) → (a || b) ≡ (b || a)
or_comm true true = refl
or_comm true false = refl
or_comm false true = refl
or_comm false false = refl

-- one place more
pub held_more : (q : Sizes) (entry i place : ℕ) → list_any (λ member. member == place) (first_places q entry (i + 1))
    ≡ (write_place q entry i == place || list_any (λ member. member == place) (first_places q entry i))
held_more q entry i place =
    ap (λ n. list_any (λ member. member == place) (first_places q entry n)) (add-one i)
    ∙ ap (list_any (λ member. member == place)) (map-append (λ k. write_place q entry k) (upto i) (i ∷ []))
    ∙ list_any-append (λ member. member == place) (first_places q entry i) (write_place q entry i ∷ [])
    ∙ ap (λ t. list_any (λ member. member == place) (first_places q entry i) || t) (or_false (write_place q entry i == place))
    ∙ or_comm (list_any (λ member. member == place) (first_places q entry i)) (write_place q entry i == place)

-- all the places of a write set
pub first_places-all : (q : Sizes) (entry i : ℕ) → i ≡ q.qw → first_places q entry i ≡ write_set q entry
first_places-all q entry i at = ap (first_places q entry) at ∙ sym (write_set-is q entry)
