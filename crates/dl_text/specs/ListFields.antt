-- Lists of fields at the end of a line: a space stands behind each but the last, and a line feed behind the last.
use Rattle.std.specs.Prelude.{ℕ, zero, suc, ◌+◌, ◌≤◌, Bool, true, false, List, [], ◌∷◌, ◌++◌, length, Result, Ok}
use Rattle.std.specs.List.{AllByRecursion}
use Rattle.dl_text.specs.Ends.{space, line_feed}
use Rattle.dl_text.specs.Readers.{then_at, map_at}
use Rattle.dl_text.specs.Choices.{or_at}

-- the one spelling of fields, where print spells one with the byte that ends it
abbrev pub list_field : {A : Type 0} → (ℕ → A → List ℕ) → List A → List ℕ
list_field print [] = []
list_field print (a ∷ []) = print line_feed a
list_field print (a ∷ b ∷ others) = print space a ++ list_field print (b ∷ others)

-- a list has one item and at most so many more, all valid
pub record AreUpTo {A : Type 0} (Valid : A → Type 0) (more : ℕ) (items : List A) : Type 0 where
  pub some : 1 ≤ length items
  pub most : length items ≤ 1 + more
  pub valid : AllByRecursion Valid items

-- one field, and whether others follow
abbrev pub item_at : {A : Type 0} → (ℕ → List ℕ → Result (A × List ℕ) ℕ) → List ℕ → Result ((A × Bool) × List ℕ) ℕ
item_at read = or_at (map_at (λ a. (a, true)) (read space)) (map_at (λ a. (a, false)) (read line_feed))

-- the others, where they follow
abbrev pub others_at : {A : Type 0} → Bool → (List ℕ → Result (List A × List ℕ) ℕ) → List ℕ → Result (List A × List ℕ) ℕ
others_at true read bytes = read bytes
others_at false read bytes = Ok ([], bytes)

-- one field and at most so many more, where read reads one with the byte that ends it
abbrev pub list_at : {A : Type 0} → (ℕ → List ℕ → Result (A × List ℕ) ℕ) → (more : ℕ) → List ℕ → Result (List A × List ℕ) ℕ
list_at read zero = map_at (λ a. a ∷ []) (read line_feed)
list_at read (suc more) = map_at (λ ((a, follow), others). a ∷ others) (then_at (item_at read) (λ (a, follow). others_at follow (list_at read more)))
