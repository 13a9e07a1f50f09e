-- One record more.
use Rattle.std.proofs.Common.{◌≡◌, ℕ, ◌+◌, cond, ◌==◌, true, false, Bool, List, [], ◌∷◌, ◌++◌, length, map, refl, sym, ap, subst, ◌∙◌, arith, eq-eqb, ne_eqb}
use Rattle.dl_transcript.specs.declared.event.Event.TheVariants as event
use Rattle.dl_transcript.specs.Legal.{History, ClientHistory, keeps}
use Rattle.dl_shown.specs.declared.records.RecordsShown.{RecordsShown}
use Rattle.dl_shown.specs.declared.records.TakenShown.{TakenShown}
use Rattle.dl_shown.specs.Records.{record_of, StandsFor}

-- as many records as the table keeps
records_length : (ts : List TakenShown) → length (map record_of ts) ≡ length ts
records_length [] = refl
records_length (t ∷ ts) = omega (arith, records_length ts)

-- the records with one more
pub records_push : (ts : List TakenShown) (t : TakenShown) → map record_of (ts ++ t ∷ []) ≡ map record_of ts ++ record_of t ∷ []
records_push [] t = refl
records_push (x ∷ ts) t = ap (λ rest. record_of x ∷ rest) (records_push ts t)

-- a record that may be taken
pub take_same : (t : RecordsShown) (s : History) (c n : ℕ) (stream : List ℕ) (txid : ℕ) (payload : List ℕ) → StandsFor t (s.clients c)
    → (n == length t.taken.items + 1) ≡ keeps s (event.Took c n stream txid payload)
unfolding keeps
take_same t s c n stream txid payload h = ap (λ k. n == (k + 1)) (sym (records_length t.taken.items) ∙ ap length h.taken)

-- a table that stands for what was put there
pub put_client_stands : (t : RecordsShown) (c : ℕ) (x y : ClientHistory) → StandsFor t x → StandsFor t (cond (c == c) x y)
put_client_stands t c x y h = subst (λ (z : ClientHistory). StandsFor t z) (sym (ap (λ (b : Bool). cond b x y) (eq-eqb c c refl))) h

-- a number that is the next one
pub next_is : (n k : ℕ) → n ≡ k → (n == k) ≡ true
next_is n k e = eq-eqb n k e

-- and one that is none
pub next_is_not : (n k : ℕ) → (n ≡ k → ⊥) → (n == k) ≡ false
next_is_not n k e = ne_eqb n k e
