-- The bodies of a journal's batches.
use Rattle.std.specs.Prelude.{◌≡◌, ◌<◌, ◌+◌, ℕ, List, [], ◌∷◌, length, flat_map}
use Rattle.std.specs.List.{AllByRecursion}
use Rattle.dl_journal.specs.declared.batch.Batch.{Batch}
use Rattle.dl_journal.specs.Limits.{journal_limit}
use Rattle.dl_journal.specs.Batches.{magic, spell}
use Rattle.dl_rules_nodes.specs.Items.{Item, body_of, IsItem}

-- the bodies of batches
abbrev pub bodies_of : List Batch → List (List ℕ)
bodies_of [] = []
bodies_of (b ∷ bs) = b.body ∷ bodies_of bs

-- batches that a journal's file may have
abbrev pub FitFile : List Batch → Type 0
FitFile batches = length magic + length (spell batches) < journal_limit

-- A body is the spelling of these items.
pub record Spells (body : List ℕ) (items : List Item) : Type 0 where
  pub valid : AllByRecursion IsItem items
  pub spelt : body ≡ body_of items

-- bodies are the spellings of these batches
abbrev pub AllSpell : List (List ℕ) → List (List Item) → Type 0
AllSpell [] [] = Unit {0}
AllSpell [] (items ∷ more) = ⊥
AllSpell (body ∷ bodies) [] = ⊥
AllSpell (body ∷ bodies) (items ∷ more) = Spells body items × AllSpell bodies more

-- the items of batches
abbrev pub all_of : List (List Item) → List Item
all_of batches = flat_map (λ batch. batch) batches
