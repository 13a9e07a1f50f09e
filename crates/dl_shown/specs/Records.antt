-- When a table stands for what was shown of a client's records, and what its calls say of an event.
use Rattle.std.specs.Prelude.{◌≡◌, ℕ, Bool, true, map, nat_eq}
use Rattle.indexmap.specs.IndexSet.{contains}
use Rattle.dl_transcript.specs.declared.event.Event.{Event}
use Rattle.dl_transcript.specs.Legal.{History, ClientHistory, TakenRecord, has, keeps, sees}
use Rattle.dl_shown.specs.declared.records.RecordsShown.{RecordsShown}
use Rattle.dl_shown.specs.declared.records.TakenShown.{TakenShown}

-- the record that a table keeps
abbrev pub record_of : TakenShown → TakenRecord
record_of t = record { stream = t.stream; txid = t.txid; payload = t.payload }

-- The table stands for what was shown of a client's records: it keeps them, and the same ones are acknowledged.
pub record StandsFor (t : RecordsShown) (x : ClientHistory) : Type 0 where
  pub taken : map record_of t.taken.items ≡ x.taken
  pub acked : (n : ℕ) → contains nat_eq t.acked n ≡ has n x.acked

-- The answer is whether the event keeps its rule, be the client's number what it may; where it does, the table stands for what was
-- seen of the client with it.
abbrev pub Judges : RecordsShown → RecordsShown → (ℕ → Event) → Bool → Type 0
Judges old new e ok = (s : History) (c : ℕ) → StandsFor old (s.clients c)
    → (ok ≡ keeps s (e c)) × (ok ≡ true → StandsFor new ((sees s (e c)).clients c))
