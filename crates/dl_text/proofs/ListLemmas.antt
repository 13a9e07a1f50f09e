-- Lists of fields are read exactly.
use Rattle.std.proofs.Common.{◌≡◌, ◌≢◌, ℕ, zero, suc, ◌+◌, ◌-◌, ◌≤◌, ◌<◌, Bool, true, false, cond, List, [], ◌∷◌, ◌++◌, length}
use Rattle.std.proofs.Common.{Result, Ok, Err, ◌⊎◌, inl, inr, refl, sym, ap, subst, ◌∙◌, append_assoc, arith, lit<}
use Rattle.std.specs.List.{AllByRecursion}
use Rattle.std.proofs.lemmas.List.{append-nil}
use Rattle.dl_text.specs.Ends.{space, line_feed}
use Rattle.std.specs.Prelude.{IsErrAnd, IfSome}
use Rattle.dl_text.specs.declared.stop.Stop.{Stop}
use Rattle.dl_text.specs.declared.stop.Stop.TheVariants.{NoMemory, Left}
use Rattle.dl_text.specs.Readers.{◌>>=◌, then_at, map_at, Exact, place_of, Gives}
use Rattle.dl_text.specs.Hex.{hex, hex_at, AllBytes}
use Rattle.dl_text.specs.ListFields.{list_field, AreUpTo, item_at, others_at, list_at}
use Rattle.dl_text.proofs.ReaderLemmas.{then_exact, made_exact, ok_is, onto, onto_none, onto_twice}
use Rattle.dl_text.proofs.ChoiceLemmas.{either_exact}
use Rattle.dl_text.proofs.HexLemmas.{hex_exact, hex_apart}

-- A field that lists can have: it is exact with either byte behind it, and one that a line feed ends is none that a space ends.
pub record IsListed {A : Type 0} (Valid : A → Type 0) (print : ℕ → A → List ℕ) (read : ℕ → List ℕ → Result (A × List ℕ) ℕ) : Type 0 where
  pub parted : Exact Valid (print space) (read space)
  pub last : Exact Valid (print line_feed) (read line_feed)
  pub apart : (a : A) (rest : List ℕ) → Valid a → (left : ℕ) × (read space (print line_feed a ++ rest) ≡ Err left)

-- the byte behind an item
abbrev end_of : Bool → ℕ
end_of follow = cond follow space line_feed

-- an item, spelt with the byte that says whether others follow
abbrev print_item : {A : Type 0} → (ℕ → A → List ℕ) → A × Bool → List ℕ
print_item print x = print (end_of x.1) x.0

-- an item is valid, and marked so
abbrev Tagged : {A : Type 0} → (A → Type 0) → Bool → A × Bool → Type 0
Tagged V t x = V x.0 × (x.1 ≡ t)

-- an item is valid, whether others follow or not
abbrev IsItem : {A : Type 0} → (A → Type 0) → A × Bool → Type 0
IsItem V x = Tagged V true x ⊎ Tagged V false x

-- items of which others all follow, or none do, are read exactly
tagged_exact : {A : Type 0} (V : A → Type 0) (p : ℕ → A → List ℕ) (r : ℕ → List ℕ → Result (A × List ℕ) ℕ) (t : Bool) → Exact V (p (end_of t)) (r (end_of t))
    → Exact (Tagged V t) (print_item p) (map_at (λ a. (a, t)) (r (end_of t)))
tagged_exact {A} V p r t exact = made_exact V (p (end_of t)) (r (end_of t)) (λ a. (a, t)) (Tagged V t) (print_item p) exact
    (λ a v. ((v, refl), refl)) (λ x w. (x.0, w.0, ap (λ (u : Bool). (x.0, u)) (sym w.1)))

-- an item is read exactly, with whether others follow
item_exact : {A : Type 0} (V : A → Type 0) (p : ℕ → A → List ℕ) (r : ℕ → List ℕ → Result (A × List ℕ) ℕ) → IsListed V p r
    → Exact (IsItem V) (print_item p) (item_at r)
item_exact {A} V p r listed = either_exact (Tagged V true) (Tagged V false) (print_item p) _ _ (tagged_exact V p r true listed.parted)
    (tagged_exact V p r false listed.last) apart
  where
    apart : (x : A × Bool) (rest : List ℕ) → Tagged V false x → (left : ℕ)
        × (map_at {B = A × Bool} (λ a. (a, true)) (r space) (print_item p x ++ rest) ≡ Err left)
    apart x rest w =
        let k = listed.apart x.0 rest w.0 in
        let P : Bool → Type 0 = λ t. (left : ℕ) × (map_at {B = A × Bool} (λ a. (a, true)) (r space) (p (end_of t) x.0 ++ rest) ≡ Err left) in
        subst P (sym w.1) (k.0, rw k.1 refl)

-- what follows an item
abbrev AreOthers : {A : Type 0} → (A → Type 0) → ℕ → A × Bool → List A → Type 0
AreOthers V n (a, true) others = AreUpTo V n others
AreOthers V n (a, false) others = others ≡ []

-- the spelling of what follows an item
abbrev print_others : {A : Type 0} → (ℕ → A → List ℕ) → A × Bool → List A → List ℕ
print_others p (a, true) others = list_field p others
print_others p (a, false) others = []

-- no items are read exactly, from no bytes
none_exact : {A : Type 0} → Exact (λ (others : List A). others ≡ []) (λ others. []) (λ bytes. Ok ([], bytes))
none_exact {A} = record {
  found = λ bytes others rest e.
      let q : ([], bytes) ≡ (others, rest) = ok_is {B = ℕ} ([], bytes) (others, rest) e in
      let P : List A × List ℕ → Type 0 = λ x. (x.0 ≡ []) × (bytes ≡ x.1) in
      subst P q (refl, refl);
  again = λ others rest w. ap (λ (x : List A). Ok (x, rest)) (sym w);
  near = λ bytes left e. absurd (clash bytes left e);
  far = λ bytes left e. absurd (clash bytes left e);
}
  where
    clash : (bytes : List ℕ) (left : ℕ) → (let r : Result (List A × List ℕ) ℕ = Ok ([], bytes) in r) ≡ Err left → ⊥
    clash bytes left e = cc

-- what follows an item is read exactly
others_exact : {A : Type 0} (V : A → Type 0) (p : ℕ → A → List ℕ) (r : ℕ → List ℕ → Result (A × List ℕ) ℕ) (n : ℕ)
    → Exact (AreUpTo V n) (list_field p) (list_at r n) → (x : A × Bool) → Exact (AreOthers V n x) (print_others p x) (others_at x.1 (list_at r n))
others_exact V p r n rest (a, true) = rest
others_exact V p r n rest (a, false) = none_exact

-- the value of an item is valid
item_valid : {A : Type 0} (V : A → Type 0) (x : A × Bool) → IsItem V x → V x.0
item_valid V x v = elim v [ inl h ↦ h.0 | inr h ↦ h.0 ]

-- an item and its followers are a list of at most so many more, and spelt as both in turn
abbrev Longer : {A : Type 0} → (A → Type 0) → (ℕ → A → List ℕ) → ℕ → A × Bool → List A → Type 0
Longer V p n x others = AreUpTo V (suc n) (x.0 ∷ others) × (list_field p (x.0 ∷ others) ≡ print_item p x ++ print_others p x others)

-- an item and what may follow it are a list of one more, and spelt as both in turn
longer : {A : Type 0} (V : A → Type 0) (p : ℕ → A → List ℕ) (n : ℕ) (x : A × Bool) (others : List A) → IsItem V x → AreOthers V n x others
    → Longer V p n x others
longer V p n (a, true) [] v o = absurd (omega (arith, o.some))
longer V p n (a, true) (b ∷ bs) v o = (record { some = omega arith; most = omega (arith, o.most); valid = (item_valid V (a, true) v, o.valid) }, refl)
longer {A} V p n (a, false) others v o =
    let P : List A → Type 0 = λ zs. Longer V p n (a, false) zs in
    subst P (sym o) (record { some = omega arith; most = omega arith; valid = (item_valid V (a, false) v, tt) }, sym (append-nil (p line_feed a)))

-- a list of at most one more than so many is an item and what may follow it
shorter : {A : Type 0} (V : A → Type 0) (n : ℕ) (items : List A) → AreUpTo V (suc n) items
    → (x : (A × Bool) × List A) × (IsItem V x.0 × AreOthers V n x.0 x.1) × (x.0.0 ∷ x.1 ≡ items)
shorter V n [] w = absurd (omega (arith, w.some))
shorter V n (a ∷ []) w = (((a, false), []), (inr (w.valid.0, refl), refl), refl)
shorter V n (a ∷ b ∷ bs) w =
    (((a, true), b ∷ bs), (inl (w.valid.0, refl), record { some = omega arith; most = omega (arith, w.most); valid = w.valid.1 }), refl)

-- a list of no more than one item is one valid item
only_one : {A : Type 0} (V : A → Type 0) (items : List A) → AreUpTo V zero items → (a : A) × V a × (a ∷ [] ≡ items)
only_one V [] w = absurd (omega (arith, w.some))
only_one V (a ∷ []) w = (a, w.valid.0, refl)
only_one V (a ∷ b ∷ bs) w = absurd (omega (arith, w.most))

-- One field and at most so many more are read exactly.
pub list_exact : {A : Type 0} (V : A → Type 0) (p : ℕ → A → List ℕ) (r : ℕ → List ℕ → Result (A × List ℕ) ℕ) → IsListed V p r → (more : ℕ)
    → Exact (AreUpTo V more) (list_field p) (list_at r more)
list_exact V p r listed zero = made_exact V (p line_feed) (r line_feed) (λ a. a ∷ []) (AreUpTo V zero) (list_field p) listed.last
    (λ a v. (record { some = omega arith; most = omega arith; valid = (v, tt) }, refl)) (only_one V)
list_exact V p r listed (suc n) = made_exact _ _ _ (λ x. x.0.0 ∷ x.1) (AreUpTo V (suc n)) (list_field p)
    (then_exact (IsItem V) (print_item p) (item_at r) (AreOthers V n) (print_others p) (λ x. others_at x.1 (list_at r n)) (item_exact V p r listed)
    (λ x v. others_exact V p r n (list_exact V p r listed n) x))
    (λ x v. longer V p n x.0 x.1 v.0 v.1) (shorter V n)

-- One payload and at most so many more are read exactly.
pub payloads_exact : (more : ℕ) → Exact (AreUpTo AllBytes more) (list_field hex) (list_at hex_at more)
payloads_exact = list_exact AllBytes hex hex_at (record {
  parted = hex_exact space (lit< tt);
  last = hex_exact line_feed (lit< tt);
  apart = λ bs rest all. hex_apart space line_feed bs rest (lit< tt) (λ e. omega (arith, e)) all;
})

-- one turn of a reader of payloads

-- a reading of an item and of its followers is that of the followers with the item in front
goes_on : {A : Type 0} (a : A) (r : Result (List A × List ℕ) ℕ)
    → map_at (λ (x : (A × Bool) × List A). x.0.0 ∷ x.1) (λ (bytes : List ℕ). r >>= λ (y : List A × List ℕ). Ok (((a, true), y.0), y.1)) [] ≡ onto (a ∷ []) r
goes_on a (Ok x) = refl
goes_on a (Err n) = refl

-- an item that others follow
pub list_more : (n : ℕ) (bytes rest p : List ℕ) → 0 < n → item_at hex_at bytes ≡ Ok ((p, true), rest)
    → list_at hex_at n bytes ≡ onto (p ∷ []) (list_at hex_at (n - 1) rest)
list_more zero bytes rest p pos e = absurd (omega (arith, pos))
list_more (suc n) bytes rest p pos e =
    let here : list_at hex_at (suc n) bytes ≡ onto (p ∷ []) (list_at hex_at n rest) = rw e (goes_on p (list_at hex_at n rest)) in
    here ∙ ap (λ (k : ℕ). onto (p ∷ []) (list_at hex_at k rest)) (omega arith)

-- the last item
pub list_last : (n : ℕ) (bytes rest p : List ℕ) → 0 < n → item_at hex_at bytes ≡ Ok ((p, false), rest) → list_at hex_at n bytes ≡ Ok (p ∷ [], rest)
list_last zero bytes rest p pos e = absurd (omega (arith, pos))
list_last (suc n) bytes rest p pos e = rw e refl

-- no item
pub list_stops : (n : ℕ) (bytes : List ℕ) (left : ℕ) → 0 < n → item_at hex_at bytes ≡ Err left → list_at hex_at n bytes ≡ Err left
list_stops zero bytes left pos e = absurd (omega (arith, pos))
list_stops (suc n) bytes left pos e = rw e refl

-- with the payloads before it
pub more_of : (n : ℕ) (before out : List (List ℕ)) (bytes rest p q : List ℕ) (follow : Bool) (all : Result (List (List ℕ) × List ℕ) ℕ) → 0 < n
    → item_at hex_at bytes ≡ Ok ((p, follow), rest) → follow ≡ true → q ≡ p → out ≡ before ++ q ∷ [] → onto before (list_at hex_at n bytes) ≡ all
    → onto out (list_at hex_at (n - 1) rest) ≡ all
more_of n before out bytes rest p q follow all pos e goes is grown same =
    let item : item_at hex_at bytes ≡ Ok ((q, true), rest) = e ∙ ap (λ (t : Bool). Ok ((p, t), rest)) goes
    ∙ ap (λ (t : List ℕ). Ok ((t, true), rest)) (sym is) in
    ap (λ (t : List (List ℕ)). onto t (list_at hex_at (n - 1) rest)) grown ∙ sym (onto_twice before (q ∷ []) (list_at hex_at (n - 1) rest))
    ∙ ap (onto before) (sym (list_more n bytes rest q pos item)) ∙ same

-- with the last item the payloads before it are the whole list
pub last_of : (n : ℕ) (before out : List (List ℕ)) (bytes rest p q : List ℕ) (follow : Bool) (all : Result (List (List ℕ) × List ℕ) ℕ) → 0 < n
    → item_at hex_at bytes ≡ Ok ((p, follow), rest) → follow ≡ false → q ≡ p → out ≡ before ++ q ∷ [] → onto before (list_at hex_at n bytes) ≡ all
    → all ≡ Ok (out, rest)
last_of n before out bytes rest p q follow all pos e goes is grown same =
    let item : item_at hex_at bytes ≡ Ok ((q, false), rest) = e ∙ ap (λ (t : Bool). Ok ((p, t), rest)) goes
    ∙ ap (λ (t : List ℕ). Ok ((t, false), rest)) (sym is) in
    sym same ∙ ap (onto before) (list_last n bytes rest q pos item) ∙ ap (λ (t : List (List ℕ)). Ok (t, rest)) (sym grown)

-- where an item stops, or memory runs out, the whole list gives just that
pub stop_of : {X : Type 0} (view : X → List (List ℕ) × List ℕ) (n : ℕ) (before : List (List ℕ)) (bytes : List ℕ) (all : Result (List (List ℕ) × List ℕ) ℕ)
    (r : Result X Stop) (stop : Stop) → IsErrAnd r (λ e. e ≡ stop) → 0 < n → IfSome (place_of stop) (λ f. item_at hex_at bytes ≡ Err f)
    → onto before (list_at hex_at n bytes) ≡ all → Gives view r all
stop_of view n before bytes all (Ok x) stop is pos given same = absurd is
stop_of view n before bytes all (Err e) NoMemory is pos given same = subst (λ (s : Stop). IfSome (place_of s) (λ f. all ≡ Err f)) (sym is) tt
stop_of view n before bytes all (Err e) (Left left) is pos given same =
    subst (λ (s : Stop). IfSome (place_of s) (λ f. all ≡ Err f)) (sym is) (sym same ∙ ap (onto before) (list_stops n bytes left pos given))

-- putting a list

-- the last item of a list is spelt with a line feed behind it
pub put_last : {A : Type 0} (p : ℕ → A → List ℕ) (a : A) (others : List A) → length others ≡ 0 → list_field p (a ∷ others) ≡ p line_feed a
put_last p a [] none = refl
put_last p a (b ∷ bs) none = absurd (omega (arith, none))

-- an item that others follow is spelt with a space behind it, and they behind that
pub put_more : {A : Type 0} (p : ℕ → A → List ℕ) (a : A) (others : List A) → length others ≢ 0 → list_field p (a ∷ others) ≡ p space a ++ list_field p others
put_more p a [] some = absurd (some refl)
put_more p a (b ∷ bs) some = refl
