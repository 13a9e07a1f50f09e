-- The messages for the bookies of places, one after the other.
use Rattle.std.proofs.Common.{◌≡◌, ℕ, ◌+◌, ◌%◌, ◌<◌, Bool, refl, List, [], ◌∷◌, ◌++◌, map, slice_index, sym, ap, ◌∙◌, add-one}
use Rattle.std.proofs.lemmas.List.{map-append}
use Rattle.dl_types.specs.declared.ensemble.Ensemble.{Ensemble}
use Rattle.dl_types.specs.Upto.{upto}
use Rattle.dl_quorum.specs.Sizes.{Sizes}
use Rattle.dl_quorum.specs.WriteSets.{write_place}
use Rattle.dl_quorum.specs.Pieces.{members, ring_members, ensemble_members, one_piece}
use Rattle.dl_quorum.proofs.RingLemmas.{first_places, first_places-all}
use Rattle.dl_msg.specs.declared.msg.Msg.{Msg}
use Rattle.dl_msg.specs.declared.msg.Msg.TheVariants.{Add, Copy, AskLac, AskEntry}
use Rattle.dl_msg.specs.declared.letters.Told.{Told}
use Rattle.dl_rules_ledger.specs.Subjects.{tell_each}
use Rattle.dl_subject.specs.Telling.{IsForBookies, letter}
use Rattle.dl_subject.proofs.PlaceLemmas.{member_at}

-- there are four kinds of messages for bookies
pub no_other : (m : Msg) → IsForBookies m → ((l e n : ℕ) (bytes : List ℕ) → m ≡ Add l e n bytes → ⊥)
    → ((t l e n : ℕ) (bytes : List ℕ) → m ≡ Copy t l e n bytes → ⊥) → ((t l : ℕ) (f : Bool) → m ≡ AskLac t l f → ⊥)
    → ((t l e : ℕ) → m ≡ AskEntry t l e → ⊥) → ⊥
no_other (Add l e n bytes) h add copy lac entry = add l e n bytes refl
no_other (Copy t l e n bytes) h add copy lac entry = copy t l e n bytes refl
no_other (AskLac t l f) h add copy lac entry = lac t l f refl
no_other (AskEntry t l e) h add copy lac entry = entry t l e refl
no_other m h add copy lac entry = absurd h

-- the messages for the first copies
abbrev pub first_letters : (q : Sizes) (x : Ensemble) (entry : ℕ) (m : Msg) (i : ℕ) → List Told
first_letters q x entry m i = tell_each (map (λ place. slice_index (ensemble_members x) place) (first_places q entry i)) m

-- all of them are those of the write set
pub first_letters-all : (q : Sizes) (x : Ensemble) (entry : ℕ) (m : Msg) (i : ℕ) → i ≡ q.qw
    → first_letters q x entry m i ≡ tell_each (members (one_piece q (ensemble_members x)) entry) m
unfolding members
first_letters-all q x entry m i all =
    ap (λ (ws : List ℕ). tell_each (map (λ place. slice_index (ensemble_members x) place) ws) m) (first_places-all q entry i all)

-- two maps over one number more
maps_more : (f : ℕ → Told) (g : ℕ → ℕ) (i : ℕ) → map f (map g (upto i)) ++ f (g i) ∷ [] ≡ map f (map g (upto (i + 1)))
maps_more f g i =
    sym (map-append f (map g (upto i)) (g i ∷ [])) ∙ ap (map f) (sym (map-append g (upto i) (i ∷ [])))
    ∙ ap (λ (n : ℕ). map f (map g (upto n))) (sym (add-one i))

-- three maps over one number more
places_more : (f : ℕ → Told) (g h : ℕ → ℕ) (i : ℕ) → map f (map g (map h (upto i))) ++ f (g (h i)) ∷ [] ≡ map f (map g (map h (upto (i + 1))))
places_more f g h i =
    sym (map-append f (map g (map h (upto i))) (g (h i) ∷ [])) ∙ ap (map f) (sym (map-append g (map h (upto i)) (h i ∷ [])))
    ∙ ap (λ (l : List ℕ). map f (map g l)) (sym (map-append h (upto i) (i ∷ []))) ∙ ap (λ (n : ℕ). map f (map g (map h (upto n)))) (sym (add-one i))

-- the message for one copy more
pub letters_more : (q : Sizes) (x : Ensemble) (entry : ℕ) (m : Msg) (i bookie : ℕ) (told : List Told)
    → told ≡ first_letters q x entry m i → bookie ≡ (x.first + write_place q entry i) % x.bookies → write_place q entry i < x.e
    → told ++ letter m bookie ∷ [] ≡ first_letters q x entry m (i + 1)
letters_more q x entry m i bookie told so_far is within =
    ap (λ (l : List Told). l ++ letter m bookie ∷ []) so_far
    ∙ ap (λ (b : ℕ). first_letters q x entry m i ++ letter m b ∷ []) (is ∙ sym (member_at x (write_place q entry i) within))
    ∙ places_more (letter m) (λ place. slice_index (ensemble_members x) place) (λ k. write_place q entry k) i

-- the message for one bookie of the ensemble more
pub ring_more : (first bookies i bookie : ℕ) (m : Msg) (told : List Told) → told ≡ tell_each (ring_members first bookies i) m
    → bookie ≡ (first + i) % bookies → told ++ letter m bookie ∷ [] ≡ tell_each (ring_members first bookies (i + 1)) m
ring_more first bookies i bookie m told so_far is =
    ap (λ (l : List Told). l ++ letter m bookie ∷ []) so_far
    ∙ ap (λ (b : ℕ). tell_each (ring_members first bookies i) m ++ letter m b ∷ []) is
    ∙ maps_more (letter m) (λ k. (first + k) % bookies) i
