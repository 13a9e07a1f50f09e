-- The law of entries.
use Rattle.std.specs.Prelude.{◌≡◌, List, Ok}
use Rattle.dl_record.specs.declared.stored.Stored.{Stored}
use Rattle.dl_record.specs.Grammar.{IsEntry, entry_bytes}
use Rattle.dl_record.specs.Reading.{entry_at}

-- An entry that was written is read again as the same stored records, and no two lists of stored records have the same
-- bytes.
pub record EntriesHaveOneSpelling : Type 0 where
  pub again : (parts : List Stored) → IsEntry parts → entry_at (entry_bytes parts) ≡ Ok parts
  pub one : (a b : List Stored) → IsEntry a → IsEntry b → entry_bytes a ≡ entry_bytes b → a ≡ b
