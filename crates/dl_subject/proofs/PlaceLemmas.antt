-- Places of bookies in an ensemble.
use Rattle.std.proofs.Common.{◌≡◌, ℕ, suc, ◌+◌, ◌-◌, ◌%◌, ◌<◌, ◌≤◌, Bool, true, false, ◌==◌, ◌||◌, Option, Some, None, List, [], ◌∷◌, map, length, get_or}
use Rattle.std.proofs.Common.{slice_index, refl, sym, ap, ap₂, ◌∙◌, arith, inl, inr, ◌⊎◌, mod-lt, eq-eqb}
use Rattle.std.proofs.Math.Nat.{mod-eq_of_lt, mod-eq-sub-mod}
use Rattle.std.proofs.lemmas.Bool.{cases_eq, cases_lt, ne_eqb}
use Rattle.std.specs.List.{list_any}
use Rattle.std.proofs.lemmas.List.{length-map}
use Rattle.std.proofs.lemmas.List.Folds.{list_any_at}
use Rattle.dl_types.specs.declared.ensemble.Ensemble.{Ensemble}
use Rattle.dl_types.proofs.UptoLemmas.{length-upto, get_or-map-upto}
use Rattle.dl_types.specs.Upto.{upto}
use Rattle.dl_quorum.specs.Sizes.{Sizes, AreSizes}
use Rattle.dl_quorum.specs.WriteSets.{write_set}
use Rattle.dl_quorum.specs.Pieces.{members, ensemble_members, one_piece}
use Rattle.dl_quorum.proofs.WriteSetLemmas.{length-write_set}
use Rattle.dl_rules_ledger.specs.Subjects.{among}
use Rattle.dl_rules_ledger.proofs.WriterLaws.{place_within}
use Rattle.dl_subject.specs.Places.{LeadsTo, is_at}

-- the bookie at a place
pub member_at : (x : Ensemble) (place : ℕ) → place < x.e → slice_index (ensemble_members x) place ≡ (x.first + place) % x.bookies
member_at x place below = get_or-map-upto (λ k. (x.first + k) % x.bookies) x.e place 0 below

-- what is no bookie stands at no place
pub no_member : (x : Ensemble) (bookie place : ℕ) → x.bookies ≤ bookie → place < x.e → (bookie == slice_index (ensemble_members x) place) ≡ false
no_member x bookie place many below =
    let few : (x.first + place) % x.bookies < x.bookies = mod-lt (x.first + place) (omega (arith, x.rule.one_of_them)) in
    ne_eqb bookie _ (λ e. let same : bookie ≡ (x.first + place) % x.bookies = e ∙ member_at x place below in omega (arith, same, few, many))

-- a sum of two numbers below another goes round it once at most
data OneRound (n a b : ℕ) : Type 0 where
  stays : (a + b) % n ≡ a + b → a + b < n → OneRound n a b
  passes : (a + b) % n ≡ a + b - n → n ≤ a + b → OneRound n a b

-- one of both
one_round : (n a b : ℕ) → a < n → b < n → OneRound n a b
one_round n a b la lb = go (cases_lt (a + b) n)
  where
    go : (a + b < n) ⊎ (n ≤ a + b) → OneRound n a b
    go (inl low) = stays (mod-eq_of_lt low) low
    go (inr high) =
        let back : (a + b) % n ≡ (a + b - n) % n = mod-eq-sub-mod high in
        let less : a + b - n < n = omega arith in
        passes (back ∙ mod-eq_of_lt less) high

-- the steps to a bookie lead to the place where it stands
steps_meet : (x : Ensemble) (bookie at place : ℕ) → LeadsTo x bookie at → place < x.e → at ≡ place → bookie ≡ (x.first + place) % x.bookies
steps_meet x bookie at place to below e =
    go (cases_lt bookie x.first) (one_round x.bookies x.first place x.rule.one_of_them (omega (arith, below, x.rule.within)))
  where
    go : (bookie < x.first) ⊎ (x.first ≤ bookie) → OneRound x.bookies x.first place → bookie ≡ (x.first + place) % x.bookies
    go (inl less) (stays is low) = absurd (omega (arith, e, to.round less, low))
    go (inl less) (passes is high) = omega (arith, e, to.round less, is, high)
    go (inr more) (stays is low) = omega (arith, e, to.on more, is)
    go (inr more) (passes is high) = absurd (omega (arith, e, to.on more, high, to.few))

-- and to no other
steps_part : (x : Ensemble) (bookie at place : ℕ) → LeadsTo x bookie at → place < x.e → bookie ≡ (x.first + place) % x.bookies → at ≡ place
steps_part x bookie at place to below e =
    go (cases_lt bookie x.first) (one_round x.bookies x.first place x.rule.one_of_them (omega (arith, below, x.rule.within)))
  where
    go : (bookie < x.first) ⊎ (x.first ≤ bookie) → OneRound x.bookies x.first place → at ≡ place
    go (inl less) (stays is low) = absurd (omega (arith, e, is, less))
    go (inl less) (passes is high) = omega (arith, e, to.round less, is, high)
    go (inr more) (stays is low) = omega (arith, e, to.on more, is)
    go (inr more) (passes is high) = absurd (omega (arith, e, is, high, more, x.rule.one_of_them, below, x.rule.within))

-- the number of steps is a place exactly where the bookie stands there
pub member_is : (x : Ensemble) (bookie at place : ℕ) → LeadsTo x bookie at → place < x.e → (at == place) ≡ (bookie == slice_index (ensemble_members x) place)
member_is x bookie at place to below = go (cases_eq at place)
  where
    go : (at ≡ place) ⊎ (at ≡ place → ⊥) → (at == place) ≡ (bookie == slice_index (ensemble_members x) place)
    go (inl e) = eq-eqb at place e ∙ sym (eq-eqb bookie _ (steps_meet x bookie at place to below e ∙ sym (member_at x place below)))
    go (inr other) =
        ne_eqb at place other ∙ sym (ne_eqb bookie _ (λ s. other (steps_part x bookie at place to below (s ∙ member_at x place below))))

-- a bookie whose steps lead past the ensemble is at no place
pub outside : (x : Ensemble) (bookie at place : ℕ) → LeadsTo x bookie at → x.e ≤ at → place < x.e
    → false ≡ (bookie == slice_index (ensemble_members x) place)
outside x bookie at place to past below = sym (ne_eqb at place (λ e. omega (arith, e, past, below))) ∙ member_is x bookie at place to below

-- ---- bookies among others

-- two numbers are equal in either order
eq_either : (a b : ℕ) → (a == b) ≡ (b == a)
eq_either a b = go (cases_eq a b)
  where
    go : (a ≡ b) ⊎ (a ≡ b → ⊥) → (a == b) ≡ (b == a)
    go (inl e) = eq-eqb a b e ∙ sym (eq-eqb b a (sym e))
    go (inr other) = ne_eqb a b other ∙ sym (ne_eqb b a (λ e. other (sym e)))

-- two tests that agree on each member of a list agree on whether one passes
any_same : (p r : ℕ → Bool) (xs : List ℕ) → ((i : ℕ) → i < length xs → p (get_or xs i 0) ≡ r (get_or xs i 0)) → list_any p xs ≡ list_any r xs
any_same p r [] h = refl
any_same p r (x ∷ xs) h = ap₂ (λ s t. s || t) (h 0 (omega arith)) (any_same p r xs (λ i below. h (suc i) (omega (arith, below))))

-- a test that no member passes
any_none : (p : ℕ → Bool) (xs : List ℕ) → ((i : ℕ) → i < length xs → p (get_or xs i 0) ≡ false) → list_any p xs ≡ false
any_none p [] h = refl
any_none p (x ∷ xs) h = ap₂ (λ s t. s || t) (h 0 (omega arith)) (any_none p xs (λ i below. h (suc i) (omega (arith, below))))

-- what an ensemble's places say of a bookie: it stands where its place is, and nowhere else
abbrev pub Exact : Ensemble → ℕ → Option ℕ → Type 0
Exact x bookie o = (place : ℕ) → place < x.e → is_at o place ≡ (bookie == slice_index (ensemble_members x) place)

-- an ensemble has as many bookies as places
length_members : (x : Ensemble) → length (ensemble_members x) ≡ x.e
length_members x = length-map (upto x.e) (λ k. (x.first + k) % x.bookies) ∙ length-upto x.e

-- a bookie without a place is not in the ensemble
pub among_none : (x : Ensemble) (bookie : ℕ) (o : Option ℕ) → Exact x bookie o → o ≡ None → among (ensemble_members x) bookie ≡ false
among_none x bookie o exact none =
    any_none (λ b. b == bookie) (ensemble_members x)
    (λ i below. eq_either (get_or (ensemble_members x) i 0) bookie
    ∙ sym (exact i (omega (arith, below, length_members x))) ∙ ap (λ q. is_at q i) none)

-- a bookie with a place is in the ensemble
pub among_some : (x : Ensemble) (bookie : ℕ) (o : Option ℕ) (at : ℕ) → Exact x bookie o → o ≡ Some at → at < x.e → among (ensemble_members x) bookie ≡ true
among_some x bookie o at exact is below =
    list_any_at (λ b. b == bookie) (ensemble_members x) at 0 (omega (arith, below, length_members x))
    (eq_either (get_or (ensemble_members x) at 0) bookie ∙ sym (exact at below) ∙ ap (λ q. is_at q at) is ∙ eq-eqb at at refl)

-- a test of images is one of the members
any_map : (p : ℕ → Bool) (f : ℕ → ℕ) (xs : List ℕ) → list_any p (map f xs) ≡ list_any (λ x. p (f x)) xs
any_map p f [] = refl
any_map p f (x ∷ xs) = ap (λ t. p (f x) || t) (any_map p f xs)

-- a bookie is in a write set where its place is
pub among_write_set : (q : Sizes) (x : Ensemble) (entry bookie : ℕ) (o : Option ℕ) → AreSizes q → x.e ≡ q.e → Exact x bookie o
    → among (members (one_piece q (ensemble_members x)) entry) bookie ≡ list_any (λ place. is_at o place) (write_set q entry)
unfolding members
among_write_set q x entry bookie o rule same exact =
    any_map (λ b. b == bookie) (λ place. slice_index (ensemble_members x) place) (write_set q entry)
    ∙ any_same (λ place. slice_index (ensemble_members x) place == bookie) (is_at o) (write_set q entry)
    (λ i below. eq_either (slice_index (ensemble_members x) (get_or (write_set q entry) i 0)) bookie
    ∙ sym (exact (get_or (write_set q entry) i 0)
    (let within : get_or (write_set q entry) i 0 < q.e = place_within q entry i rule (omega (arith, below, length-write_set q entry)) in
    omega (arith, within, same))))

-- the place is one of a set, asked either way
pub any_at_place : (at : ℕ) (xs : List ℕ) → list_any (λ place. is_at (Some at) place) xs ≡ list_any (λ place. place == at) xs
any_at_place at xs = any_same (λ place. at == place) (λ place. place == at) xs (λ i below. eq_either at (get_or xs i 0))

-- without a place none is
pub any_no_place : (xs : List ℕ) → list_any (λ place. is_at None place) xs ≡ false
any_no_place xs = any_none (λ place. false) xs (λ i below. refl)
