-- Without failures the atomic steps are those of the rules.
use Rattle.std.proofs.Common.{◌≡◌, ℕ, zero, suc, ◌+◌, Bool, true, false, cond, ◌&&◌, List, [], ◌∷◌, ◌++◌, length, Option, Some, None, refl, sym, ap, ◌∙◌}
use Rattle.std.proofs.Common.{slice_get}
use Rattle.std.proofs.lemmas.Bool.{and_from}
use Rattle.dl_types.specs.declared.address.Address.{Address}
use Rattle.dl_types.specs.declared.address.Address.TheVariants.{Client, Bookie as AtBookie, Meta as AtMeta}
use Rattle.dl_msg.specs.declared.letter.Letter.{Letter}
use Rattle.dl_schedule.specs.declared.step.Step.{Step}
use Rattle.dl_schedule.specs.declared.step.Step.TheVariants as step
use Rattle.dl_transcript.specs.declared.event.Event.TheVariants as event
use Rattle.dl_machine.specs.States.{State}
use Rattle.dl_machine.specs.Atoms.{Atom, SetUp, Deliver, Commit, Rise, Shows}
use Rattle.dl_machine.specs.Fates.{Luck, Well, Fails, Falls, Unmade, steps_by_luck, with_luck, well, looks_at, may_look, may_have}
use Rattle.dl_machine.specs.Limits.{turn_limit}
use Rattle.dl_machine.specs.Lines.{is_idle, plain_atoms}
use Rattle.dl_machine.specs.Runs.{after, turn, goes_on, settles, are_fit, fit_on, settles_fit, busy_atoms, line_atoms, busy_fit, is_fit}
use Rattle.dl_machine.specs.Laws.{turns_on, turns, none_failed, FailuresAside}

-- ---- where no device fails

-- atomic steps are as they are
well_steps : (i : ℕ) (xs : List Atom) → with_luck well i xs ≡ xs
unfolding with_luck steps_by_luck
well_steps i [] = refl
well_steps i (a ∷ more) = ap (a ∷◌) (well_steps (suc i) more)

-- a turn is taken as it is
well_turn : (n i : ℕ) (s : State) (xs : List Atom) → ((j : ℕ) (t : State) → settles well n j t ≡ turns n t)
    → goes_on s xs (with_luck well i xs) i (settles well n) ≡ turns_on s xs (turns n)
well_turn n i s [] later = refl
well_turn n i s (a ∷ more) later =
    let j : ℕ = i + length (a ∷ more) in
    ap (λ (now : List Atom). now ++ settles well n j (after s now)) (well_steps i (a ∷ more))
    ∙ ap (λ (rest : List Atom). (a ∷ more) ++ rest) (later j (after s (a ∷ more)))

-- a settling takes its turns as they are
well_settling : (n i : ℕ) (s : State) → settles well n i s ≡ turns n s
unfolding settles turns
well_settling zero i s = refl
well_settling (suc n) i s = well_turn n i s (turn s) (well_settling n)

-- ---- where no device failed

-- of two tests that both hold the first one does
both_left : (x y : Bool) → (x && y) ≡ true → x ≡ true
both_left true y e = refl
both_left false y e = absurd cc

-- and the second one
both_right : (x y : Bool) → (x && y) ≡ true → y ≡ true
both_right true y e = e
both_right false y e = absurd cc

-- no letter is looked up in vain
no_look_at : (s : State) (l : Letter) (to : Address) → looks_at none_failed s l to ≡ false
no_look_at s l (AtBookie b) = refl
no_look_at s l (Client c) = refl
no_look_at s l AtMeta = refl

-- where no device failed, no letter is answered by a look that may fail
no_look : (s : State) (l : Option Letter) → may_look none_failed s l ≡ false
no_look s None = refl
no_look s (Some l) = no_look_at s l l.to

-- a luck that a step may have leaves it as it is
fit_fate : (s : State) (luck : Luck) (a : Atom) → may_have none_failed s luck a ≡ true → steps_by_luck luck a ≡ a ∷ []
unfolding may_have steps_by_luck
fit_fate s (Fails kept) (Commit b) e = absurd cc
fit_fate s (Fails kept) (Deliver place) e = absurd (let w = no_look s (slice_get s.letters place) in cc)
fit_fate s (Fails kept) (Rise b) e = absurd cc
fit_fate s Falls (Commit b) e = absurd cc
fit_fate s (Unmade []) (SetUp conf) e = refl
fit_fate s (Unmade (b ∷ more)) (SetUp conf) e = absurd cc
fit_fate s luck a e = refl

-- lucks that steps may have leave them as they are
fit_steps : (luck : ℕ → Luck) (i : ℕ) (s : State) (xs : List Atom) → are_fit none_failed luck i s xs ≡ true → with_luck luck i xs ≡ xs
unfolding are_fit with_luck
fit_steps luck i s [] e = refl
fit_steps luck i s (a ∷ more) e =
    let here = both_left _ _ e in
    let later = both_right _ _ e in
    ap (λ (now : List Atom). now ++ with_luck luck (suc i) more) (fit_fate s (luck i) a here)
    ∙ ap (a ∷◌) (fit_steps luck (suc i) (after s (steps_by_luck (luck i) a)) more later)

-- a turn with lucks that its steps may have
fit_turn : (luck : ℕ → Luck) (n i : ℕ) (s : State) (xs : List Atom)
    → ((j : ℕ) (t : State) → settles_fit none_failed luck n j t ≡ true → settles luck n j t ≡ settles well n j t)
    → fit_on none_failed luck s xs i (settles_fit none_failed luck n) ≡ true
    → goes_on s xs (with_luck luck i xs) i (settles luck n) ≡ goes_on s xs (with_luck well i xs) i (settles well n)
fit_turn luck n i s [] later e = refl
fit_turn luck n i s (a ∷ more) later e =
    let j : ℕ = i + length (a ∷ more) in
    let now : List Atom = with_luck luck i (a ∷ more) in
    ap (λ (rest : List Atom). now ++ rest) (later j (after s now) (both_right _ _ e))
    ∙ ap (λ (xs : List Atom). xs ++ settles well n j (after s xs))
    (fit_steps luck i s (a ∷ more) (both_left _ _ e) ∙ sym (well_steps i (a ∷ more)))

-- a settling with such lucks
fit_settling : (luck : ℕ → Luck) (n i : ℕ) (s : State) → settles_fit none_failed luck n i s ≡ true → settles luck n i s ≡ settles well n i s
unfolding settles settles_fit
fit_settling luck zero i s e = refl
fit_settling luck (suc n) i s e = fit_turn luck n i s (turn s) (fit_settling luck n) e

-- a line that changes something
fit_busy : (luck : ℕ → Luck) (s : State) (line : ℕ) (x : Step) → busy_fit none_failed luck s line x ≡ true → busy_atoms luck s line x ≡ busy_atoms well s line x
fit_busy luck s line step.Settle e = fit_settling luck turn_limit 0 s e
fit_busy luck s line x e = fit_steps luck 0 s (plain_atoms s line x) e ∙ sym (well_steps 0 (plain_atoms s line x))

-- a line that changes nothing is the same whatever the lucks are
fit_unless : (luck : ℕ → Luck) (s : State) (line : ℕ) (x : Step) (idle : Bool) → cond idle true (busy_fit none_failed luck s line x) ≡ true
    → cond idle (Shows event.Nothing ∷ []) (busy_atoms luck s line x) ≡ cond idle (Shows event.Nothing ∷ []) (busy_atoms well s line x)
fit_unless luck s line x true e = refl
fit_unless luck s line x false e = fit_busy luck s line x e

-- a line with lucks that it may have
fit_line : (luck : ℕ → Luck) (s : State) (line : ℕ) (x : Step) → is_fit none_failed luck s line x ≡ true → line_atoms luck s line x ≡ line_atoms well s line x
unfolding is_fit line_atoms
fit_line luck s line x e = fit_unless luck s line x (is_idle s x) e

-- ---- that no device fails may always be

-- that no device fails may always be, for atomic steps in a row
well_fit : (failed : ℕ → Bool) (i : ℕ) (s : State) (xs : List Atom) → are_fit failed well i s xs ≡ true
unfolding are_fit may_have
well_fit failed i s [] = refl
well_fit failed i s (a ∷ more) = well_fit failed (suc i) (after s (steps_by_luck Well a)) more

-- the same of a turn of settling and of the rest
well_turn_fit : (failed : ℕ → Bool) (n i : ℕ) (s : State) (xs : List Atom) → ((j : ℕ) (t : State) → settles_fit failed well n j t ≡ true)
    → fit_on failed well s xs i (settles_fit failed well n) ≡ true
well_turn_fit failed n i s [] later = refl
well_turn_fit failed n i s (a ∷ more) later = and_from _ _ (well_fit failed i s (a ∷ more)) (later _ _)

-- the same of a settling
well_settling_fit : (failed : ℕ → Bool) (n i : ℕ) (s : State) → settles_fit failed well n i s ≡ true
unfolding settles_fit
well_settling_fit failed zero i s = refl
well_settling_fit failed (suc n) i s = well_turn_fit failed n i s (turn s) (well_settling_fit failed n)

-- the same of a line that changes something
well_busy_fit : (failed : ℕ → Bool) (s : State) (line : ℕ) (x : Step) → busy_fit failed well s line x ≡ true
well_busy_fit failed s line step.Settle = well_settling_fit failed turn_limit 0 s
well_busy_fit failed s line x = well_fit failed 0 s (plain_atoms s line x)

-- a choice between what is true and what is true
true_both : (t x : Bool) → x ≡ true → cond t true x ≡ true
true_both true x e = refl
true_both false x e = e

-- the same of every line
well_line_fit : (failed : ℕ → Bool) (s : State) (line : ℕ) (x : Step) → is_fit failed well s line x ≡ true
unfolding is_fit
well_line_fit failed s line x = true_both (is_idle s x) (busy_fit failed well s line x) (well_busy_fit failed s line x)

-- failures aside, atomic steps are those of the rules
pub failures_aside : FailuresAside
failures_aside = record { steps = well_steps; settling = well_settling; lines = fit_line; fit = well_line_fit }
