-- Where in a file the entries of batches of items stand.
use Rattle.std.specs.Prelude.{ℕ, ◌+◌, if◌then◌else◌, List, [], ◌∷◌, length, Option, Some, None}
use Rattle.dl_rules_nodes.specs.Items.{Item, item_length, items_length, entry_in, is_entry}
use Rattle.dl_marks.specs.declared.marks.Place.{Place}

-- the place of the bytes of the first item of an entry, of items whose bytes begin at this offset
abbrev pub place_in : ℕ → List Item → ℕ → ℕ → Option Place
place_in at [] l e = None
place_in at (x ∷ xs) l e = if is_entry l e x then Some (record { at = at + 29; size = length (entry_in x) }) else place_in (at + item_length x) xs l e

-- the first of two places that there may be
abbrev pub or_place : Option Place → Option Place → Option Place
or_place (Some s) other = Some s
or_place None other = other

-- the same of batches, of which the first one's gate stands at this offset
abbrev pub place_from : ℕ → List (List Item) → ℕ → ℕ → Option Place
place_from gate [] l e = None
place_from gate (batch ∷ more) l e = or_place (place_in (gate + 13) batch l e) (place_from (gate + (13 + items_length batch)) more l e)

-- the same of a journal with these batches in force
abbrev pub place_of : List (List Item) → ℕ → ℕ → Option Place
place_of batches l e = place_from 8 batches l e
