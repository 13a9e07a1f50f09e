-- What the batches of a journal leave in the tables of a storage node.
use Rattle.std.specs.Prelude.{◌≡◌, ℕ, List, [], length, Result, Ok, Err}
use Rattle.dl_rules_nodes.specs.Counts.{entries_count, ledgers_count}
use Rattle.dl_rules_nodes.specs.Bookies.{Bookie, durable, queued_items, all_items}
use Rattle.dl_rules_nodes.specs.Loads.{LoadStop, IsDamaged, IsCrowded, loaded_bookie}
use Rattle.dl_marks.specs.Tables.{Entries, Ledgers, marks_at, ledger_at}
use Rattle.dl_marks.specs.Places.{place_of}
use Rattle.dl_marks.specs.Known.{entry_known, ledger_known}
use Rattle.dl_restore.specs.Bodies.{AllSpell}
use Rattle.dl_restore.specs.declared.fault.RestoreFault.{RestoreFault}
use Rattle.dl_restore.specs.declared.fault.RestoreFault.TheVariants.{Damaged, Crowded}

-- The bodies give this node, of whose items the tables say what they are to say of each entry and each ledger.
pub record Restored (first : ℕ) (bodies : List (List ℕ)) (es : Entries) (ls : Ledgers) (b : Bookie) : Type 0 where
  pub loaded : loaded_bookie first bodies ≡ Ok b
  pub number : b.first ≡ first
  pub idle : b.queue ≡ []
  pub spell : AllSpell bodies b.batches
  pub entries : (l e : ℕ) → marks_at es l e ≡ entry_known (durable b) (queued_items b) [] (place_of b.batches l e) l e
  pub entries_kept : length es ≡ entries_count (all_items b)
  pub ledgers : (l : ℕ) → ledger_at ls l ≡ ledger_known (durable b) (queued_items b) [] l
  pub ledgers_kept : length ls ≡ ledgers_count (all_items b)

-- the reason as the rules have it
abbrev pub stop_of : RestoreFault → LoadStop
stop_of (Damaged at) = IsDamaged at
stop_of (Crowded what) = IsCrowded what

-- what a load of these bodies answers, where the first has this number
abbrev pub Restores : ℕ → List (List ℕ) → Entries → Ledgers → Result (Unit {0}) RestoreFault → Type 0
Restores first bodies es ls (Ok done) = (b : Bookie) × Restored first bodies es ls b
Restores first bodies es ls (Err fault) = loaded_bookie first bodies ≡ Err (stop_of fault)
