-- All letters ever sent, and which were delivered.
use Rattle.std.specs.Prelude.{◌≡◌, ℕ, suc, Bool, true, false, if◌then◌else◌, not, ◌&&◌, List, [], ◌∷◌, ◌++◌, length, Option, Some, None, slice_index_or, slice_set}
use Rattle.std.specs.List.{list_any}
use Rattle.dl_msg.specs.declared.letter.Letter.{Letter}
use Rattle.dl_machine.specs.States.{State}
use Rattle.dl_links.specs.declared.file.File.{File}
use Rattle.dl_links.specs.Filing.{is_filed}

-- The letters, the oldest first, and of each whether it was delivered.
pub record Sent : Type 0 where
  pub letters : List Letter
  pub delivered : List Bool

-- no letter was sent
abbrev pub none_sent : Sent
none_sent = record { letters = []; delivered = [] }

-- a letter more, which waits
abbrev pub with_letter : Sent → Letter → Sent
with_letter x letter = record { letters = x.letters ++ letter ∷ []; delivered = x.delivered ++ false ∷ [] }

-- the letter at a place is delivered
abbrev pub with_delivery : Sent → ℕ → Sent
with_delivery x place = record { letters = x.letters; delivered = slice_set x.delivered place true }

-- a letter is in one of these files
abbrev pub is_in : List File → Letter → Bool
is_in files letter = list_any (λ f. is_filed f letter) files

-- the place, counted on from this one, of the first letter that was never delivered and is in one of these files
abbrev pub next_from : List File → (place : ℕ) → List Letter → List Bool → Option ℕ
next_from files place [] delivered = None
next_from files place (l ∷ ls) delivered =
    if not (slice_index_or delivered place false) && is_in files l then Some place else next_from files (suc place) ls delivered

-- These are a machine state's letters and deliveries.
pub record StandFor (s : State) (x : Sent) : Type 0 where
  pub letters : s.letters ≡ x.letters
  pub delivered : (place : ℕ) → s.delivered place ≡ slice_index_or x.delivered place false
  pub count : length x.delivered ≡ length x.letters
