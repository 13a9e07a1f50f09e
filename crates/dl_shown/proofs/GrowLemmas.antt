-- A row that may grow.
use Rattle.std.proofs.Common.{◌≡◌, ℕ, List, ◌+◌, Bool, true, false, not, ◌&&◌, nat_le, ◌==◌, map, refl, ◌∙◌}
use Rattle.std.specs.List.{list_any, list_all}
use Rattle.dl_types.specs.declared.row.Row.{Row}
use Rattle.dl_types.specs.Places.{is_before, is_at_most}
use Rattle.dl_transcript.specs.declared.event.Event.TheVariants as event
use Rattle.dl_transcript.specs.Legal.{History, last_or, is_taken, taken_at, is_from, keeps}
use Rattle.dl_shown.specs.Rows.{may_grow}

-- the parts of the rule of growth in the order of the tables, and in its own
turned : (a b c e f g : Bool) → (((a && c) && ((b && e) && g)) && f) ≡ (((((a && b) && c) && e) && f) && g)
turned false b c e f g = refl
turned true false true e f g = refl
turned true false false e f g = refl
turned true true false e f g = refl
turned true true true false f g = refl
turned true true true true true true = refl
turned true true true true true false = refl
turned true true true true false true = refl
turned true true true true false false = refl

-- where its parts hold, a row may grow
pub grow_same : (s : History) (name : List ℕ) (x : Row) (held grown taken : Bool)
    → held ≡ (x.place.segment == (s.streams name).closed + 1 && is_at_most (s.streams name).mark x.place)
    → grown ≡ may_grow (s.streams name).rows x.place x.txid x.origin.client x.origin.call
    → taken ≡ is_taken (taken_at s x.origin.client x.origin.call) name x.txid x.payload
    → ((held && grown) && taken) ≡ keeps s (event.Grow name x.place x.txid x.origin.client x.origin.call x.payload)
unfolding keeps
grow_same s name x held grown taken a b c =
    (λ i. (a i && b i) && c i)
    ∙ turned (x.place.segment == (s.streams name).closed + 1) (list_all (λ r. is_before r.place x.place) (s.streams name).rows)
    (is_at_most (s.streams name).mark x.place) (nat_le (last_or 0 (map (λ r. r.txid) (s.streams name).rows)) x.txid)
    (is_taken (taken_at s x.origin.client x.origin.call) name x.txid x.payload)
    (not (list_any (is_from x.origin.client x.origin.call) (s.streams name).rows))
