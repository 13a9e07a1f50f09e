-- Transcripts that are legal as to more events and as to fewer.
use Rattle.std.proofs.Common.{◌≡◌, ℕ, ◌+◌, Bool, true, false, cond, not, ◌&&◌, ◌||◌, nat_le, List, [], ◌∷◌, Option, Some, None, refl, ap, ◌∙◌}
use Rattle.std.specs.Prelude.{is_none}
use Rattle.std.proofs.lemmas.Bool.{and_from, and_parts}
use Rattle.dl_transcript.specs.declared.event.Event.{Event}
use Rattle.dl_transcript.specs.Legal.{History, keeps, sees, first_fault}
use Rattle.dl_law_legal.specs.Ruled.{keeps_as_to, fault_as_to, AllKeep}
use Rattle.dl_law_legal.specs.Laws.{LegalInPart}

-- a rule that is kept where a test says so is kept where a narrower one does
narrower : (few more kept : Bool) → (few ≡ true → more ≡ true) → (not more || kept) ≡ true → (not few || kept) ≡ true
narrower false more kept h k = refl
narrower true true kept h k = k
narrower true false kept h k = absurd (let e = h refl in cc)

-- events that all keep their rules as to more events do so as to fewer
pub keep_fewer : (few more : Event → Bool) → ((e : Event) → few e ≡ true → more e ≡ true) → (s : History) (es : List Event) → AllKeep more s es
    → AllKeep few s es
keep_fewer few more h s [] keep = tt
keep_fewer few more h s (e ∷ es) keep =
    (narrower (few e) (more e) (keeps s e) (h e) keep.0, keep_fewer few more h (sees s e) es keep.1)

-- where there is no fault as to more events, there is none as to fewer
none_in_fewer : (few more : Event → Bool) → ((e : Event) → few e ≡ true → more e ≡ true) → (place line : ℕ) (s : History) (xs : List (ℕ × Event))
    → fault_as_to more place line s xs ≡ None → fault_as_to few place line s xs ≡ None
unfolding fault_as_to
none_in_fewer few more h place line s [] e = refl
none_in_fewer few more h place line s (x ∷ xs) e =
    go (nat_le line x.0 && keeps_as_to more s x.1) refl e (none_in_fewer few more h (place + 1) x.0 (sees s x.1) xs)
  where
    go : (t : Bool) → (nat_le line x.0 && keeps_as_to more s x.1) ≡ t → cond t (fault_as_to more (place + 1) x.0 (sees s x.1) xs) (Some place) ≡ None
        → (fault_as_to more (place + 1) x.0 (sees s x.1) xs ≡ None → fault_as_to few (place + 1) x.0 (sees s x.1) xs ≡ None)
        → cond (nat_le line x.0 && keeps_as_to few s x.1) (fault_as_to few (place + 1) x.0 (sees s x.1) xs) (Some place) ≡ None
    go true w none ih =
        let both = and_parts (nat_le line x.0) (keeps_as_to more s x.1) w in
        ap (λ b. cond b (fault_as_to few (place + 1) x.0 (sees s x.1) xs) (Some place))
        (and_from (nat_le line x.0) (keeps_as_to few s x.1) both.0 (narrower (few x.1) (more x.1) (keeps s x.1) (h x.1) both.1)) ∙ ih none
    go false w none ih = absurd cc

-- as to all events, the first fault is the first of all
fault_of_all : (ruled : Event → Bool) → ((e : Event) → ruled e ≡ true) → (place line : ℕ) (s : History) (xs : List (ℕ × Event))
    → fault_as_to ruled place line s xs ≡ first_fault place line s xs
unfolding fault_as_to first_fault
fault_of_all ruled h place line s [] = refl
fault_of_all ruled h place line s (x ∷ xs) =
    ap (λ (b : Bool). cond (nat_le line x.0 && (not b || keeps s x.1)) (fault_as_to ruled (place + 1) x.0 (sees s x.1) xs) (Some place)) (h x.1)
    ∙ ap (λ (o : Option ℕ). cond (nat_le line x.0 && keeps s x.1) o (Some place)) (fault_of_all ruled h (place + 1) x.0 (sees s x.1) xs)

-- no value is missing
pub is_missing : (o : Option ℕ) → is_none o ≡ true → o ≡ None
is_missing None e = refl
is_missing (Some n) e = absurd cc

-- what is legal in part
pub legal_in_part : LegalInPart
legal_in_part = record {
  fewer = λ few more xs h e. ap is_none (none_in_fewer few more h 1 0 _ xs (is_missing _ e));
  all = λ ruled xs h. ap is_none (fault_of_all ruled h 1 0 _ xs);
}
