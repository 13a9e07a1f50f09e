-- Tables while the items of a queue become durable one by one.
use Rattle.std.specs.Prelude.{◌≡◌, ◌+◌, ℕ, List, ◌++◌}
use Rattle.dl_rules_nodes.specs.Items.{Item}
use Rattle.dl_rules_nodes.specs.Bookies.{Bookie, durable, gate_of}
use Rattle.dl_marks.specs.Tables.{Entries, Ledgers, marks_at, ledger_at}
use Rattle.dl_marks.specs.Places.{place_of, place_in, or_place}
use Rattle.dl_marks.specs.Known.{entry_known, ledger_known}

-- Some first items of a queue are durable by now, in one batch behind those of the node; the others wait.
pub record Moving (b : Bookie) (done todo : List Item) (entries : Entries) (ledgers : Ledgers) : Type 0 where
  pub entry : (l e : ℕ) → marks_at entries l e ≡ entry_known (durable b ++ done) todo done (or_place (place_of b.batches l e) (place_in
      (gate_of b.batches + 13) done l e)) l e
  pub ledger : (l : ℕ) → ledger_at ledgers l ≡ ledger_known (durable b ++ done) todo done l
