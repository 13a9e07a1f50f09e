-- Transcripts piece by piece.
use Rattle.std.proofs.Common.{◌≡◌, ℕ, ◌+◌, ◌≤◌, Bool, true, false, cond, ◌&&◌, nat_le, List, [], ◌∷◌, ◌++◌, length, map, Some, None, sym, ap, ◌∙◌, le-leb}
use Rattle.std.proofs.Common.{le_refl, arith, add-zero}
use Rattle.std.proofs.lemmas.Bool.{and_from}
use Rattle.dl_transcript.specs.declared.event.Event.{Event}
use Rattle.dl_transcript.specs.Legal.{History, keeps, sees, first_fault, history_after, last_line}

-- events that all keep their rules lead from what was seen to what is seen then
pub data Keeps : History → List Event → History → Type 0 where
  none : {s : History} → Keeps s [] s
  more : {s t : History} {e : Event} {es : List Event} → keeps s e ≡ true → Keeps (sees s e) es t → Keeps s (e ∷ es) t

-- they do so one part after another
pub keeps_both : {s t u : History} {xs ys : List Event} → Keeps s xs t → Keeps t ys u → Keeps s (xs ++ ys) u
keeps_both none later = later
keeps_both (more k rest) later = more k (keeps_both rest later)

-- a legal transcript goes on as what follows does
pub first_fault-append : (from n : ℕ) (s : History) (xs ys : List (ℕ × Event)) → first_fault from n s xs ≡ None
    → first_fault from n s (xs ++ ys) ≡ first_fault (from + length xs) (last_line n xs) (history_after s xs) ys
unfolding first_fault history_after last_line
first_fault-append from n s [] ys h = ap (λ k. first_fault k n s ys) (sym (add-zero from))
first_fault-append from n s (x ∷ xs) ys h = go (nat_le n x.0 && keeps s x.1) h (first_fault-append (from + 1) x.0 (sees s x.1) xs ys)
  where
    place : (from + 1) + length xs ≡ from + length (x ∷ xs)
    place = omega arith

    go : (t : Bool) → cond t (first_fault (from + 1) x.0 (sees s x.1) xs) (Some from) ≡ None
        → (first_fault (from + 1) x.0 (sees s x.1) xs ≡ None
        → first_fault (from + 1) x.0 (sees s x.1) (xs ++ ys) ≡ first_fault ((from + 1) + length xs) (last_line x.0 xs) (history_after (sees s x.1) xs) ys)
        → cond t (first_fault (from + 1) x.0 (sees s x.1) (xs ++ ys)) (Some from)
        ≡ first_fault (from + length (x ∷ xs)) (last_line x.0 xs) (history_after (sees s x.1) xs) ys
    go true h ih = ih h ∙ ap (λ k. first_fault k (last_line x.0 xs) (history_after (sees s x.1) xs) ys) place
    go false h ih = absurd cc

-- the events of one line that all keep their rules, and a legal transcript of later lines behind them
pub fault-line : (from n line : ℕ) (s t : History) (es : List Event) (later : List (ℕ × Event)) → n ≤ line → Keeps s es t
    → ((place m : ℕ) → m ≤ line → first_fault place m t later ≡ None) → first_fault from n s (map (λ e. (line, e)) es ++ later) ≡ None
unfolding first_fault
fault-line from n line s t [] later le none rest = rest from n le
fault-line from n line s t (e ∷ es) later le (more k keep) rest =
    ap (λ b. cond b (first_fault (from + 1) line (sees s e) (map (λ x. (line, x)) es ++ later)) (Some from))
    (and_from (nat_le n line) (keeps s e) (le-leb n line le) k)
    ∙ fault-line (from + 1) line line (sees s e) t es later (le_refl line) keep rest
