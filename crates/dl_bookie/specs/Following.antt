-- What a storage node does by a row of the table.
use Rattle.std.specs.Prelude.{◌≡◌, ℕ, List}
use Rattle.dl_rules_nodes.specs.Bookies as rules
use Rattle.dl_items.specs.declared.head.Head.{Head}
use Rattle.dl_items.specs.Heads.{ledger_in, entry_named, item_of}
use Rattle.dl_bookie.specs.declared.taken.Taken.{Taken}
use Rattle.dl_bookie.specs.declared.row.Row.{Row}
use Rattle.dl_bookie.specs.Taking.{outcome_of, row_of}
use Rattle.dl_bookie.specs.Facts.{BookieFacts}
use Rattle.dl_bookie.specs.Standing.{StandsFor}

-- what the node does by a row of its table, where this would be the item
abbrev pub ruled : rules.Bookie → Row → Head → List ℕ → rules.Taken
ruled b row h bytes = rules.with_room b (ledger_in h) (entry_named h) (row_of row (item_of h bytes))

-- The call answers and keeps what the node does.
pub record Follows (b : rules.Bookie) (now : BookieFacts) (client session : ℕ) (row : Row) (h : Head) (bytes : List ℕ) (result : Taken) : Type 0 where
  pub answer : result ≡ outcome_of (ruled b row h bytes)
  pub stands : StandsFor (rules.after b client session (ruled b row h bytes)) now
