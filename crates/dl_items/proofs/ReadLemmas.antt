-- What the reading of an item says of its bytes.
use Rattle.std.proofs.Common.{◌≡◌, ℕ, ◌≤◌, List, length, None, Ok, sym, ap, ◌∙◌, arith, length-append}
use Rattle.dl_codec.specs.Fields.{IsBytes}
use Rattle.dl_record.specs.Grammar.{IsEntryBytes}
use Rattle.dl_record.specs.Reading.{entry_at}
use Rattle.dl_record.proofs.Entries.{entry_again}
use Rattle.dl_rules_nodes.specs.Items.{Item, AddItem, CopyItem, FenceItem, item_bytes, item_length}
use Rattle.dl_rules_nodes.specs.Reading.{left_at, entry_flaw, item_from}
use Rattle.dl_rules_nodes.proofs.ItemLaws.{lengths_are_of_bytes, items_are_exact}
use Rattle.dl_items.specs.Reading.{IsFront}

-- an entry has no flaw
pub no_flaw : (bytes : List ℕ) → IsEntryBytes bytes → None ≡ entry_flaw bytes
no_flaw bytes w =
    let reads : entry_at bytes ≡ Ok w.0 = ap entry_at w.2 ∙ entry_again w.0 w.1 in
    sym (ap (left_at (length bytes)) reads)

-- an item has some bytes
pub some_bytes : (x : Item) → 1 ≤ length (item_bytes x)
some_bytes x = omega (arith, sym (lengths_are_of_bytes.item x), long x)
  where
    long : (x : Item) → 1 ≤ item_length x
    long (AddItem l e n bytes) = omega arith
    long (CopyItem l e n bytes) = omega arith
    long (FenceItem l) = omega arith

-- what is read stands at the front
pub read_front : (bytes : List ℕ) (x : Item) (rest : List ℕ) → IsBytes bytes → item_from bytes ≡ Ok (x, rest) → IsFront x rest bytes
read_front bytes x rest fits e =
    let f = items_are_exact.found bytes x rest fits e in
    record { valid = f.0; spelt = f.1; less = omega (arith, ap length f.1, length-append (item_bytes x) rest, some_bytes x) }
