-- The lines of an early schedule give their orders in turn: to create, to open, and then no more.
use Rattle.std.proofs.Common.{◌≡◌, ℕ, ◌+◌, ◌<◌, ◌≤◌, Bool, true, false, cond, ◌==◌, [], ◌∷◌, Option, Some, None, refl, sym, subst, arith, ⊎_elim}
use Rattle.std.proofs.lemmas.Bool.{eqb-true, eqb-false, cases_lt}
use Rattle.dl_schedule.specs.declared.step.Step.{Step}
use Rattle.dl_schedule.specs.declared.step.Step.TheVariants as step
use Rattle.dl_schedule.specs.declared.opening.Opening.TheVariants as opening
use Rattle.dl_schedule.specs.EarlyLines.{IsFree, IsSaidBy, IsEarly}
use Rattle.dl_transcript.specs.declared.event.Event.TheVariants.{Nothing}
use Rattle.dlog.specs.declared.order.Order.{Order}
use Rattle.dlog.specs.declared.order.Order.TheVariants as order
use Rattle.dlog.specs.Machine.{Log, State, start, append, flush, confirm, on_log, finish, settle, one}
use Rattle.dlog.proofs.Steps.{MayStep, state}

-- behind so many lines this step may come: the order to create is among the first four lines, the order to open is the
-- fifth, and what writes comes behind the sixth
abbrev pub IsDue : ℕ → Step → Type 0
IsDue n (step.Create c stream) = n < 4
IsDue n (step.Open c stream) = n ≡ 4
IsDue n (step.Append c txid payload) = 5 < n
IsDue n (step.Flush c) = 5 < n
IsDue n _ = Unit {0}

-- a step of a free line is due behind the sixth
free_is_due : (n : ℕ) (x : Step) → 5 < n → IsFree x → IsDue n x
free_is_due n (step.Append c txid payload) h w = h
free_is_due n (step.Flush c) h w = h
free_is_due n step.Settle h w = tt
free_is_due n _ h w = absurd w

-- the lines of an early schedule are due
pub early_is_due : (n : ℕ) (x : Step) → IsEarly (n + 1) x → IsDue n x
early_is_due n x h = go (n + 1 == 1) (n + 1 == 2) (n + 1 == 3) (n + 1 == 4) (n + 1 == 5) (n + 1 == 6) refl refl refl refl refl refl h
  where
    go : (a b c d e f : Bool) → (n + 1 == 1) ≡ a → (n + 1 == 2) ≡ b → (n + 1 == 3) ≡ c → (n + 1 == 4) ≡ d → (n + 1 == 5) ≡ e → (n + 1 == 6) ≡ f
        → IsSaidBy (cond a (Some opening.Setup) (cond b (Some opening.Join)
        (cond c (Some opening.Create) (cond d (Some opening.Settle) (cond e (Some opening.Open) (cond f (Some opening.Settle) None)))))) x → IsDue n x
    go true b c d e f p q r s t u is = subst (IsDue n) (sym is) tt
    go false true c d e f p q r s t u is = subst (IsDue n) (sym is) tt
    go false false true d e f p q r s t u is = subst (IsDue n) (sym is) (let k : n < 4 = omega (arith, eqb-true (n + 1) 3 r) in k)
    go false false false true e f p q r s t u is = subst (IsDue n) (sym is) tt
    go false false false false true f p q r s t u is = subst (IsDue n) (sym is) (let k : n ≡ 4 = omega (arith, eqb-true (n + 1) 5 t) in k)
    go false false false false false true p q r s t u is = subst (IsDue n) (sym is) tt
    go false false false false false false p q r s t u is =
        free_is_due n x (omega (
          arith,
          eqb-false (n + 1) 1 p,
          eqb-false (n + 1) 2 q,
          eqb-false (n + 1) 3 r,
          eqb-false (n + 1) 4 s,
          eqb-false (n + 1) 5 t,
          eqb-false (n + 1) 6 u,
        )) is

-- no order to open is under way
abbrev pub NoOpen : Option Order → Type 0
NoOpen (Some (order.Open c stream)) = ⊥
NoOpen _ = Unit {0}

-- behind so many lines: no log is open before the sixth, and none is on the way before the fifth
pub record Opens (n : ℕ) (s : State) : Type 0 where
  pub log : n < 6 → s.log ≡ None
  pub order : n < 5 → NoOpen s.order

-- nothing is open at the start
pub start_opens : Opens 0 start
start_opens = record { log = λ _. refl; order = λ _. tt }

-- each step that is due may come
pub due_may : (n : ℕ) (s : State) (x : Step) → IsDue n x → Opens n s → MayStep s.log x
due_may n s (step.Create c stream) due o = o.log (omega (arith, due))
due_may n s (step.Open c stream) due o = o.log (omega (arith, due))
due_may n s _ due o = tt

-- what is not open by now is not open a line before
later : (n : ℕ) (s : State) → Opens n s → Opens (n + 1) s
later n s o = record { log = λ k. o.log (omega arith); order = λ k. o.order (omega arith) }

-- behind the sixth line a log may be open
opened : (n : ℕ) (s : State) → 5 < n → Opens n s
opened n s h = record { log = λ k. absurd (omega arith); order = λ k. absurd (omega arith) }

-- what is confirmed opens nothing
confirm_opens : (n sessions : ℕ) (o : Option Order) (log : Option Log) → Opens n (state sessions o log)
    → Opens n (on_log confirm [] (state sessions o log) log).0
confirm_opens n sessions o None h = h
confirm_opens n sessions o (Some g) h = record { log = λ k. absurd (let clash : Some g ≡ None = h.log k in cc); order = h.order }

-- an order that ends before the fifth line opens nothing
finish_opens : (n sessions : ℕ) (o : Option Order) (log : Option Log) → n < 5 → Opens n (state sessions o log) → Opens n (finish (state sessions o log) o).0
finish_opens n sessions None log le h = h
finish_opens n sessions (Some (order.Create c stream)) log le h = record { log = h.log; order = λ k. tt }
finish_opens n sessions (Some (order.Open c stream)) log le h = absurd (h.order le)

-- before the fifth line settling opens no log, and from the sixth on it may
settle_opens : (n : ℕ) (s : State) → Opens n s → Opens (n + 1) (settle s).0
unfolding settle
settle_opens n s o =
    let now : State = (finish s s.order).0 in
    ⊎_elim
    (λ (before : n < 5). confirm_opens (n + 1) now.sessions now.order now.log (later n now (finish_opens n s.sessions s.order s.log before o)))
    (λ (behind : 5 ≤ n). opened (n + 1) (on_log confirm [] now now.log).0 (omega arith))
    (cases_lt n 5)

-- and the opening goes on by it
pub one_opens : (n : ℕ) (s : State) (x : Step) → IsDue n x → Opens n s → Opens (n + 1) (one s x).0
unfolding one
one_opens n s (step.Join c) due o = record { log = (later n s o).log; order = (later n s o).order }
one_opens n s (step.Create c stream) due o = record { log = (later n s o).log; order = λ k. tt }
one_opens n s (step.Open c stream) due o = record { log = (later n s o).log; order = λ k. absurd (omega (arith, due)) }
one_opens n s (step.Append c txid payload) due o = opened (n + 1) (on_log (λ g. append g txid payload) (Nothing ∷ []) s s.log).0 (omega (arith, due))
one_opens n s (step.Flush c) due o = opened (n + 1) (on_log flush (Nothing ∷ []) s s.log).0 (omega (arith, due))
one_opens n s step.Settle due o = settle_opens n s o
one_opens n s _ due o = later n s o
