-- What items say of an entry and of a ledger.
use Rattle.std.specs.Prelude.{ℕ, not, ◌&&◌, if◌then◌else◌, List, ◌++◌, Option, Some, None}
use Rattle.std.specs.List.{list_any}
use Rattle.dl_rules_nodes.specs.Items.{Item, is_add, is_entry, is_fence, is_of, greatest}
use Rattle.dl_marks.specs.declared.marks.EntryMarks.{EntryMarks}
use Rattle.dl_marks.specs.declared.marks.LedgerMarks.{LedgerMarks}
use Rattle.dl_marks.specs.declared.marks.Place.{Place}

-- The marks of an entry, by the items before, which are durable or about to be, and those that wait behind them; none where
-- there is no item of it. What waits counts no more for an entry that a settled item has.
abbrev pub entry_known : (before todo settled : List Item) → Option Place → ℕ → ℕ → Option EntryMarks
entry_known before todo settled place l e =
    if list_any (is_entry l e) (before ++ todo) then Some (record {
      added = list_any (is_add l e) before;
      place = place;
      adding = not (list_any (is_entry l e) settled) && list_any (is_add l e) todo;
      coming = not (list_any (is_entry l e) settled) && list_any (is_entry l e) todo;
    })
    else None

-- The marks of a ledger, likewise.
abbrev pub ledger_known : (before todo settled : List Item) → ℕ → Option LedgerMarks
ledger_known before todo settled l =
    if list_any (is_of l) (before ++ todo) then Some (record {
      fenced = list_any (is_fence l) before;
      fencing = not (list_any (is_fence l) settled) && list_any (is_fence l) todo;
      greatest = greatest l before;
    })
    else None
