-- What tables of marks say of an entry and of a ledger.
use Rattle.std.specs.Prelude.{ℕ, Bool, ◌==◌, ◌&&◌, List, Option}
use Rattle.std.specs.Map.{lookup}
use Rattle.dl_marks.specs.declared.marks.EntryKey.{EntryKey}
use Rattle.dl_marks.specs.declared.marks.EntryMarks.{EntryMarks}
use Rattle.dl_marks.specs.declared.marks.LedgerMarks.{LedgerMarks}

-- a table of entries
abbrev pub Entries : Type 0
Entries = List (EntryKey × EntryMarks)

-- a table of ledgers
abbrev pub Ledgers : Type 0
Ledgers = List (ℕ × LedgerMarks)

-- whether a key is that of an entry of a ledger
abbrev pub is_key : ℕ → ℕ → EntryKey → Bool
is_key l e k = l == k.ledger && e == k.entry

-- the marks of an entry
abbrev pub marks_at : List (EntryKey × EntryMarks) → ℕ → ℕ → Option EntryMarks
marks_at entries l e = lookup (is_key l e) entries

-- the marks of a ledger
abbrev pub ledger_at : List (ℕ × LedgerMarks) → ℕ → Option LedgerMarks
ledger_at ledgers l = lookup (λ k. l == k) ledgers
