-- Operations in order, one turn at a time.
use Rattle.std.proofs.Common.{◌≡◌, ℕ, zero, suc, ◌+◌, ◌<◌, ◌≤◌, List, [], ◌∷◌, ◌++◌, length, get_or, drop}
use Rattle.std.proofs.Common.{Ok, Err, refl, sym, ap, ◌∙◌, arith, append_assoc, drop-cons, add-one}
use Rattle.std.proofs.lemmas.List.{append-nil}
use Rattle.dl_types.specs.declared.one_op.OneOp.{OneOp}
use Rattle.dl_types.specs.declared.one_answer.OneAnswer.{OneAnswer}
use Rattle.dl_types.specs.declared.why.Why.{Why}
use Rattle.dl_tree.specs.Trees.{Nodes, Outcome, Run, outcome_of, run_of, then_rest, with_front}
use Rattle.dl_tree.specs.declared.fault.OneFault.{OneFault}
use Rattle.dl_tree.specs.declared.fault.OneFault.TheVariants.{NoMemory, Failed}
use Rattle.dl_tree.specs.Faults.{after_answers, IsFault, IsRunFault, at_place}

-- answers before a run that begins with one are those answers and that one before the rest
after-front : (answers : List OneAnswer) (a : OneAnswer) (r : Run) → after_answers answers (with_front a r) ≡ after_answers (answers ++ a ∷ []) r
after-front answers a (Ok r) = ap (λ (t : List OneAnswer). Ok (t, r.1)) (sym (append_assoc answers (a ∷ []) r.0))
after-front answers a (Err e) = refl

-- a run of operations is the first one, and the rest on the tree that it leaves
all-cons : (t : Nodes) (session place : ℕ) (x : OneOp) (xs : List OneOp)
    → run_of t session place (x ∷ xs) ≡ then_rest (outcome_of t session x) place (λ next. run_of next session (place + 1) xs)
unfolding run_of
all-cons t session place x xs = refl

-- a run of no operation answers nothing and leaves the tree
all-nil : (t : Nodes) (session place : ℕ) → run_of t session place [] ≡ Ok ([], t)
unfolding run_of
all-nil t session place = refl

-- the run begins
pub run_start : (t : Nodes) (session : ℕ) (xs : List OneOp) (answers : List OneAnswer) → answers ≡ []
    → run_of t session 0 xs ≡ after_answers answers (run_of t session 0 (drop 0 xs))
run_start t session xs answers e = go (run_of t session 0 xs) ∙ ap (λ (a : List OneAnswer). after_answers a (run_of t session 0 xs)) (sym e)
  where
    go : (r : Run) → r ≡ after_answers [] r
    go (Ok r) = refl
    go (Err e) = refl

-- one more operation is done
pub run_more : (start : Run) (t u : Nodes) (session place : ℕ) (x : OneOp) (xs : List OneOp) (answers more : List OneAnswer) (a : OneAnswer) → place < length xs
    → x ≡ get_or xs place x → outcome_of t session x ≡ Ok (a, u) → more ≡ answers ++ a ∷ []
    → start ≡ after_answers answers (run_of t session place (drop place xs)) → start ≡ after_answers more (run_of u session (place + 1) (drop (place + 1) xs))
run_more start t u session place x xs answers more a within is done m inv =
    let rest : drop place xs ≡ x ∷ drop (suc place) xs = drop-cons xs place x within ∙ ap (λ (y : OneOp). y ∷ drop (suc place) xs) (sym is) in
    inv ∙ ap (λ (t' : List OneOp). after_answers answers (run_of t session place t')) rest
    ∙ ap (after_answers answers) (all-cons t session place x (drop (suc place) xs))
    ∙ ap (λ (o : Outcome). after_answers answers (then_rest o place (λ next. run_of next session (place + 1) (drop (suc place) xs)))) done
    ∙ after-front answers a (run_of u session (place + 1) (drop (suc place) xs))
    ∙ ap (λ (b : List OneAnswer). after_answers b (run_of u session (place + 1) (drop (suc place) xs))) (sym m)
    ∙ ap (λ (j : ℕ). after_answers more (run_of u session (place + 1) (drop j xs))) (sym (add-one place))

-- an operation fails
pub run_failed : (start : Run) (t : Nodes) (session place : ℕ) (x : OneOp) (xs : List OneOp) (answers : List OneAnswer) (why : Why) → place < length xs
    → x ≡ get_or xs place x → outcome_of t session x ≡ Err why
    → start ≡ after_answers answers (run_of t session place (drop place xs)) → start ≡ Err (place, why)
run_failed start t session place x xs answers why within is fails inv =
    let rest : drop place xs ≡ x ∷ drop (suc place) xs = drop-cons xs place x within ∙ ap (λ (y : OneOp). y ∷ drop (suc place) xs) (sym is) in
    inv ∙ ap (λ (t' : List OneOp). after_answers answers (run_of t session place t')) rest
    ∙ ap (after_answers answers) (all-cons t session place x (drop (suc place) xs))
    ∙ ap (λ (o : Outcome). after_answers answers (then_rest o place (λ next. run_of next session (place + 1) (drop (suc place) xs)))) fails

-- the run ends
pub run_end : (start : Run) (t : Nodes) (session place : ℕ) (xs : List OneOp) (answers : List OneAnswer) → drop place xs ≡ []
    → start ≡ after_answers answers (run_of t session place (drop place xs)) → start ≡ Ok (answers, t)
run_end start t session place xs answers none inv =
    inv ∙ ap (λ (t' : List OneOp). after_answers answers (run_of t session place t')) none ∙ ap (after_answers answers) (all-nil t session place)
    ∙ ap (λ (b : List OneAnswer). Ok (b, t)) (append-nil answers)

-- a fault of an operation is one of the run
pub run_fault : (start : Run) (t : Nodes) (session place : ℕ) (x : OneOp) (xs : List OneOp) (answers : List OneAnswer) (f : OneFault) → place < length xs
    → x ≡ get_or xs place x → IsFault (outcome_of t session x) f
    → start ≡ after_answers answers (run_of t session place (drop place xs)) → IsRunFault start (at_place f place)
run_fault start t session place x xs answers NoMemory within is h inv = tt
run_fault start t session place x xs answers (Failed why) within is h inv = run_failed start t session place x xs answers why within is h inv

-- past the last operation none is left
pub drop_end : (xs : List OneOp) (n : ℕ) → length xs ≤ n → drop n xs ≡ []
drop_end [] zero h = refl
drop_end [] (suc n) h = refl
drop_end (x ∷ xs) zero h = absurd (omega (arith, h))
drop_end (x ∷ xs) (suc n) h = drop_end xs n (omega (arith, h))
