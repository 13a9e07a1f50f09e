-- The lines of a text, each with its line feed; a last piece without one is a line too.
use Rattle.std.specs.Prelude.{◌≡◌, ℕ, Bool, false, List, [], ◌∷◌, ◌++◌, ◌==◌, if◌then◌else◌}
use Rattle.std.specs.List.{list_any}
use Rattle.dl_text.specs.Ends.{line_feed}

-- a byte in front of the first line
abbrev pub onto_first : ℕ → List (List ℕ) → List (List ℕ)
onto_first b [] = (b ∷ []) ∷ []
onto_first b (line ∷ lines) = (b ∷ line) ∷ lines

-- the lines of a text
abbrev pub lines_of : List ℕ → List (List ℕ)
lines_of [] = []
lines_of (b ∷ bytes) = if b == line_feed then (line_feed ∷ []) ∷ lines_of bytes else onto_first b (lines_of bytes)

-- a line feed is among the bytes
abbrev pub has_feed : List ℕ → Bool
has_feed bytes = list_any (λ b. b == line_feed) bytes

-- the first line of a text, with its line feed, and what follows it
pub record IsFirstLine (text line rest : List ℕ) : Type 0 where
  pub init : List ℕ
  pub plain : has_feed init ≡ false
  pub feed : line ≡ init ++ line_feed ∷ []
  pub parts : text ≡ line ++ rest
