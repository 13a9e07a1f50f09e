-- Events that lead on, one after another, and a whole transcript of them.
use Rattle.std.proofs.Common.{◌≡◌, ℕ, ◌+◌, ◌≤◌, Bool, true, cond, nat_le, List, [], ◌∷◌, ◌++◌, map, Some, None, ap, ◌∙◌, le-leb, le_refl}
use Rattle.std.proofs.lemmas.Bool.{and_from}
use Rattle.dl_transcript.specs.declared.event.Event.{Event}
use Rattle.dl_transcript.specs.Legal.{History, sees}
use Rattle.dl_law_legal.specs.Ruled.{keeps_as_to, fault_as_to, seen_by, AllKeep, Leads}

-- no event
pub leads_none : (ruled : Event → Bool) (P : History → Type 0) (s : History) → P s → Leads ruled P s []
leads_none ruled P s p = record { keep = tt; fits = p }

-- one event
pub leads_one : (ruled : Event → Bool) (P : History → Type 0) (s : History) (e : Event) → keeps_as_to ruled s e ≡ true → P (sees s e)
    → Leads ruled P s (e ∷ [])
leads_one ruled P s e k p = record { keep = (k, tt); fits = p }

-- events and then others
pub leads_both : (ruled : Event → Bool) (P Q : History → Type 0) (s : History) (xs ys : List Event) → Leads ruled P s xs
    → ((t : History) → P t → Leads ruled Q t ys) → Leads ruled Q s (xs ++ ys)
leads_both ruled P Q s [] ys now later = later s now.fits
leads_both ruled P Q s (x ∷ xs) ys now later =
    let rest = leads_both ruled P Q (sees s x) xs ys (record { keep = now.keep.1; fits = now.fits }) later in
    record { keep = (now.keep.0, rest.keep); fits = rest.fits }

-- one event and then others
pub leads_more : (ruled : Event → Bool) (Q : History → Type 0) (s : History) (e : Event) (es : List Event) → keeps_as_to ruled s e ≡ true
    → Leads ruled Q (sees s e) es → Leads ruled Q s (e ∷ es)
leads_more ruled Q s e es k later = record { keep = (k, later.keep); fits = later.fits }

-- what follows from P holds then too
pub leads_to : (ruled : Event → Bool) (P Q : History → Type 0) (s : History) (xs : List Event) → ((t : History) → P t → Q t) → Leads ruled P s xs
    → Leads ruled Q s xs
leads_to ruled P Q s xs step h = record { keep = h.keep; fits = step (seen_by s xs) h.fits }

-- the events of one line that lead on, and a transcript of later lines behind them
pub fault_line : (ruled : Event → Bool) (from n line : ℕ) (s : History) (es : List Event) (later : List (ℕ × Event)) → n ≤ line → AllKeep ruled s es
    → ((place m : ℕ) → m ≤ line → fault_as_to ruled place m (seen_by s es) later ≡ None)
    → fault_as_to ruled from n s (map (λ e. (line, e)) es ++ later) ≡ None
unfolding fault_as_to
fault_line ruled from n line s [] later le keep rest = rest from n le
fault_line ruled from n line s (e ∷ es) later le keep rest =
    ap (λ b. cond b (fault_as_to ruled (from + 1) line (sees s e) (map (λ x. (line, x)) es ++ later)) (Some from))
    (and_from (nat_le n line) (keeps_as_to ruled s e) (le-leb n line le) keep.0)
    ∙ fault_line ruled (from + 1) line line (sees s e) es later (le_refl line) keep.1 rest
