-- A loop that reads so many values, one a turn.
use Rattle.std.proofs.Common.{◌≡◌, ℕ, suc, ◌+◌, ◌-◌, ◌<◌, List, [], ◌∷◌, ◌++◌, Result, Ok, Err, refl, sym, ap, ◌∙◌, append_assoc, arith}
use Rattle.dl_fields.specs.declared.fault.Fault.{Fault}
use Rattle.dl_fields.specs.declared.stop.Stop.{Stop}
use Rattle.dl_fields.specs.declared.stop.Stop.TheVariants as stop
use Rattle.dl_fields.specs.Readers.{◌>>=◌, FaultBy, fault_of}
use Rattle.dl_fields.specs.Lists.{items_from}

-- what is read, behind what was read before
abbrev pub with_front : {A : Type 0} → List A → Result (List A × List ℕ) Fault → Result (List A × List ℕ) Fault
with_front front (Ok x) = Ok (front ++ x.0, x.1)
with_front front (Err fault) = Err fault

-- an item that was read stands behind what was read before it
front_more : {A : Type 0} (out : List A) (x : A) (r : Result (List A × List ℕ) Fault)
    → with_front (out ++ x ∷ []) r ≡ with_front out (r >>= λ y. Ok (x ∷ y.0, y.1))
front_more {A} out x (Ok y) = ap (λ (l : List A). with_front [] (Ok (l, y.1))) (append_assoc out (x ∷ []) y.0)
front_more out x (Err fault) = refl

-- what is left to read is one item and the items behind it
one_more : (count at : ℕ) → at < count → count - at ≡ suc (count - (at + 1))
one_more count at lt = omega arith

-- One value more is read.
pub items_go_on : {A : Type 0} (read : List ℕ → Result (A × List ℕ) Fault) (out : List A) (count at : ℕ) (rest more : List ℕ) (x : A)
    (all : Result (List A × List ℕ) Fault)
    → at < count → read rest ≡ Ok (x, more) → with_front out (items_from read (count - at) rest) ≡ all
    → with_front (out ++ x ∷ []) (items_from read (count - (at + 1)) more) ≡ all
items_go_on {A} read out count at rest more x all lt e same =
    let n = count - (at + 1) in
    let step : items_from read (suc n) rest ≡ (items_from read n more >>= λ y. Ok (x ∷ y.0, y.1)) = rw e refl in
    front_more out x (items_from read n more) ∙ ap (with_front out) (sym (ap (λ (k : ℕ). items_from read k rest) (one_more count at lt) ∙ step)) ∙ same

-- A value has a fault, and with it all of them.
pub items_stop : {A : Type 0} (read : List ℕ → Result (A × List ℕ) Fault) (out : List A) (count at : ℕ) (rest : List ℕ) (fault : Fault)
    (all : Result (List A × List ℕ) Fault)
    → at < count → read rest ≡ Err fault → with_front out (items_from read (count - at) rest) ≡ all → all ≡ Err fault
items_stop {A} read out count at rest fault all lt e same =
    let n = count - (at + 1) in
    let step : items_from read (suc n) rest ≡ Err fault = rw e refl in
    sym same ∙ ap (with_front out) (ap (λ (k : ℕ). items_from read k rest) (one_more count at lt) ∙ step)

-- A value isn't read, and with it none of them.
pub items_fail : {A : Type 0} (read : List ℕ → Result (A × List ℕ) Fault) (out : List A) (count at : ℕ) (rest : List ℕ) (s : Stop)
    (all : Result (List A × List ℕ) Fault)
    → at < count → FaultBy fault_of s (read rest) → with_front out (items_from read (count - at) rest) ≡ all → FaultBy fault_of s all
items_fail read out count at rest stop.NoMemory all lt e same = tt
items_fail read out count at rest (stop.Fault fault) all lt e same = items_stop read out count at rest fault all lt e same
