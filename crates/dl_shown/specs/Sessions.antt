-- When a table stands for what was shown of the sessions, and what its calls say of an event.
use Rattle.std.specs.Prelude.{◌≡◌, ℕ, Bool, true, not, ◌&&◌, nat_le, nat_eq}
use Rattle.indexmap.specs.IndexSet.{contains}
use Rattle.dl_transcript.specs.declared.event.Event.{Event}
use Rattle.dl_transcript.specs.Legal.{History, has, keeps, sees}
use Rattle.dl_shown.specs.declared.sessions.SessionsShown.{SessionsShown}

-- the session joined, and hasn't expired
abbrev pub may_expire : SessionsShown → ℕ → Bool
may_expire t k = nat_le 1 k && nat_le k t.joined && not (contains nat_eq t.expired k)

-- The table stands for what was shown: as many sessions joined, and the same ones expired.
pub record StandsFor (t : SessionsShown) (s : History) : Type 0 where
  pub joined : t.joined ≡ s.sessions
  pub expired : (k : ℕ) → contains nat_eq t.expired k ≡ has k s.expired

-- The answer is whether the event keeps its rule; where it does, the table stands for what was seen with it.
abbrev pub Judges : SessionsShown → SessionsShown → Event → Bool → Type 0
Judges old new e ok = (s : History) → StandsFor old s → (ok ≡ keeps s e) × (ok ≡ true → StandsFor new (sees s e))
