-- One turn of a reader of rows.
use Rattle.std.proofs.Common.{◌≡◌, ℕ, zero, suc, ◌-◌, ◌<◌, Bool, true, false, List, [], ◌∷◌, ◌++◌, Result, Ok, Err, refl, sym, ap, subst, ◌∙◌, arith}
use Rattle.std.specs.Prelude.{IsErrAnd, IfSome}
use Rattle.dl_text.specs.declared.stop.Stop.{Stop}
use Rattle.dl_text.specs.declared.stop.Stop.TheVariants.{NoMemory, Left}
use Rattle.dl_text.specs.Readers.{◌>>=◌, map_at, place_of, Gives}
use Rattle.dl_text.specs.ListFields.{item_at, list_at}
use Rattle.dl_text.proofs.ReaderLemmas.{onto, onto_twice}

-- a reading of an item and of its followers is that of the followers with the item in front
goes_on : {A : Type 0} (a : A) (r : Result (List A × List ℕ) ℕ)
    → map_at (λ (x : (A × Bool) × List A). x.0.0 ∷ x.1) (λ (bytes : List ℕ). r >>= λ (y : List A × List ℕ). Ok (((a, true), y.0), y.1)) [] ≡ onto (a ∷ []) r
goes_on a (Ok x) = refl
goes_on a (Err n) = refl

-- an item that others follow
list_more : {A : Type 0} (r : ℕ → List ℕ → Result (A × List ℕ) ℕ) (n : ℕ) (bytes rest : List ℕ) (p : A) → 0 < n → item_at r bytes ≡ Ok ((p, true), rest)
    → list_at r n bytes ≡ onto (p ∷ []) (list_at r (n - 1) rest)
list_more r zero bytes rest p pos e = absurd (omega (arith, pos))
list_more r (suc n) bytes rest p pos e =
    let here : list_at r (suc n) bytes ≡ onto (p ∷ []) (list_at r n rest) = rw e (goes_on p (list_at r n rest)) in
    here ∙ ap (λ (k : ℕ). onto (p ∷ []) (list_at r k rest)) (omega arith)

-- the last item
list_last : {A : Type 0} (r : ℕ → List ℕ → Result (A × List ℕ) ℕ) (n : ℕ) (bytes rest : List ℕ) (p : A) → 0 < n → item_at r bytes ≡ Ok ((p, false), rest)
    → list_at r n bytes ≡ Ok (p ∷ [], rest)
list_last r zero bytes rest p pos e = absurd (omega (arith, pos))
list_last r (suc n) bytes rest p pos e = rw e refl

-- no item
list_stops : {A : Type 0} (r : ℕ → List ℕ → Result (A × List ℕ) ℕ) (n : ℕ) (bytes : List ℕ) (left : ℕ) → 0 < n → item_at r bytes ≡ Err left
    → list_at r n bytes ≡ Err left
list_stops r zero bytes left pos e = absurd (omega (arith, pos))
list_stops r (suc n) bytes left pos e = rw e refl

-- with the items before it
pub more_of : {A : Type 0} (r : ℕ → List ℕ → Result (A × List ℕ) ℕ) (n : ℕ) (before out : List A) (bytes rest : List ℕ) (p q : A) (follow : Bool)
    (all : Result (List A × List ℕ) ℕ) → 0 < n → item_at r bytes ≡ Ok ((p, follow), rest) → follow ≡ true → q ≡ p → out ≡ before ++ q ∷ []
    → onto before (list_at r n bytes) ≡ all → onto out (list_at r (n - 1) rest) ≡ all
more_of {A} r n before out bytes rest p q follow all pos e goes is grown same =
    let item : item_at r bytes ≡ Ok ((q, true), rest) = e ∙ ap (λ (t : Bool). Ok ((p, t), rest)) goes
    ∙ ap (λ (t : A). Ok ((t, true), rest)) (sym is) in
    ap (λ (t : List A). onto t (list_at r (n - 1) rest)) grown ∙ sym (onto_twice before (q ∷ []) (list_at r (n - 1) rest))
    ∙ ap (onto before) (sym (list_more r n bytes rest q pos item)) ∙ same

-- with the last item the items before it are the whole list
pub last_of : {A : Type 0} (r : ℕ → List ℕ → Result (A × List ℕ) ℕ) (n : ℕ) (before out : List A) (bytes rest : List ℕ) (p q : A) (follow : Bool)
    (all : Result (List A × List ℕ) ℕ) → 0 < n → item_at r bytes ≡ Ok ((p, follow), rest) → follow ≡ false → q ≡ p → out ≡ before ++ q ∷ []
    → onto before (list_at r n bytes) ≡ all → all ≡ Ok (out, rest)
last_of {A} r n before out bytes rest p q follow all pos e goes is grown same =
    let item : item_at r bytes ≡ Ok ((q, false), rest) = e ∙ ap (λ (t : Bool). Ok ((p, t), rest)) goes
    ∙ ap (λ (t : A). Ok ((t, false), rest)) (sym is) in
    sym same ∙ ap (onto before) (list_last r n bytes rest q pos item) ∙ ap (λ (t : List A). Ok (t, rest)) (sym grown)

-- where an item stops, or memory runs out, the whole list gives just that
pub stop_of : {A X : Type 0} (r : ℕ → List ℕ → Result (A × List ℕ) ℕ) (view : X → List A × List ℕ) (n : ℕ) (before : List A) (bytes : List ℕ)
    (all : Result (List A × List ℕ) ℕ) (given : Result X Stop) (stop : Stop) → IsErrAnd given (λ e. e ≡ stop) → 0 < n
    → IfSome (place_of stop) (λ f. item_at r bytes ≡ Err f) → onto before (list_at r n bytes) ≡ all → Gives view given all
stop_of r view n before bytes all (Ok x) stop is pos told same = absurd is
stop_of r view n before bytes all (Err e) NoMemory is pos told same = subst (λ (s : Stop). IfSome (place_of s) (λ f. all ≡ Err f)) (sym is) tt
stop_of r view n before bytes all (Err e) (Left left) is pos told same =
    subst (λ (s : Stop). IfSome (place_of s) (λ f. all ≡ Err f)) (sym is) (sym same ∙ ap (onto before) (list_stops r n bytes left pos told))
