-- The rows that share an entry's bytes are those that its reading gives.
use Rattle.std.proofs.Common.{◌≡◌, ℕ, List, sym, ap, ◌∙◌, Err, Result}
use Rattle.dl_record.specs.declared.entry_flaw.EntryFlaw.{EntryFlaw}
use Rattle.dl_record.specs.declared.stored.Stored.{Stored}
use Rattle.dl_record.specs.Grammar.{IsEntry, IsEntryBytes, entry_bytes}
use Rattle.dl_record.specs.Reading.{entry_at}
use Rattle.dl_record.specs.UserRows.{RowOf}
use Rattle.dl_record.specs.Rows.{user_rows, rows_read}
use Rattle.dl_record.proofs.Entries.{entry_again}

-- The rows of an entry's parts are those that are read in its bytes.
pub rows_of_parts : (bytes : List ℕ) (parts : List Stored) (rows : List RowOf) → IsEntry parts → bytes ≡ entry_bytes parts → rows ≡ user_rows parts
    → rows ≡ rows_read (entry_at bytes)
rows_of_parts bytes parts rows is spelt same = same ∙ sym (ap rows_read (ap entry_at spelt ∙ entry_again parts is))
