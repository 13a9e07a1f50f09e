-- Events that lead from what was seen to what is seen then.
use Rattle.std.proofs.Common.{◌≡◌, true, List, [], ◌∷◌, ◌++◌}
use Rattle.dl_transcript.specs.declared.event.Event.{Event}
use Rattle.dl_transcript.specs.Legal.{History, keeps, sees}
use Rattle.dl_transcript.proofs.Runs.{Keeps, none, more, keeps_both}

-- events that all keep their rules, to where P holds of what is seen then
pub record Leads (P : History → Type 0) (before : History) (events : List Event) : Type 0 where
  pub seen : History
  pub keep : Keeps before events seen
  pub fits : P seen

-- no event
pub leads_none : (P : History → Type 0) (s : History) → P s → Leads P s []
leads_none P s p = record { seen = s; keep = none; fits = p }

-- one event that keeps its rule
pub leads_one : (P : History → Type 0) (s : History) (e : Event) → keeps s e ≡ true → P (sees s e) → Leads P s (e ∷ [])
leads_one P s e k p = record { seen = sees s e; keep = more k none; fits = p }

-- events and then others
pub leads_both : (P Q : History → Type 0) (s : History) (xs ys : List Event) → Leads P s xs → ((t : History) → P t → Leads Q t ys) → Leads Q s (xs ++ ys)
leads_both P Q s xs ys now later =
    let then : Leads Q now.seen ys = later now.seen now.fits in
    record { seen = then.seen; keep = keeps_both now.keep then.keep; fits = then.fits }

-- what follows from P holds then too
pub leads_to : (P Q : History → Type 0) (s : History) (xs : List Event) → ((t : History) → P t → Q t) → Leads P s xs → Leads Q s xs
leads_to P Q s xs step h = record { seen = h.seen; keep = h.keep; fits = step h.seen h.fits }
