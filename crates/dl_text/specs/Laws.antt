-- The laws of the readers of this crate.
use Rattle.std.specs.Prelude.{◌≡◌, ℕ, ◌<◌, ◌≤◌, List, [], ◌∷◌, ◌++◌, Ok, false}
use Rattle.std.specs.List.{Contains}
use Rattle.dl_text.specs.Readers.{Exact, whole_at}
use Rattle.dl_text.specs.Numbers.{number, number_at, IsWithin, IsRange}
use Rattle.dl_text.specs.Hex.{hex, hex_at, AllBytes}
use Rattle.dl_text.specs.Words.{words_from}
use Rattle.dl_text.specs.Fields.{bytes_field, place_field}
use Rattle.dl_text.specs.NameFields.{IsName, name_at}
use Rattle.dl_text.specs.PlaceFields.{IsPlaceFrom, place_at}
use Rattle.dl_text.specs.ListFields.{AreUpTo, list_field, list_at}
use Rattle.dl_text.specs.Columns.{column_of, ReadsWhole}
use Rattle.dl_text.specs.TextLines.{lines_of, has_feed, IsFirstLine}

-- each number field is read exactly
abbrev pub NumbersAreExact : Type 0
NumbersAreExact = (low high end : ℕ) → IsRange low high end → Exact (IsWithin low high) (number end) (number_at low high end)

-- bytes in hex are read exactly, whatever byte below `-` ends them
abbrev pub HexIsExact : Type 0
HexIsExact = (end : ℕ) → end < 45 → Exact AllBytes (hex end) (hex_at end)

-- names, places and lists of payloads are read exactly
pub record FieldsAreExact : Type 0 where
  pub names : (end : ℕ) → end < 45 → Exact IsName (bytes_field end) (name_at end)
  pub places : (low end : ℕ) → low ≤ 1 → end < 48 → Exact (IsPlaceFrom low) (place_field end) (place_at low end)
  pub payloads : (more : ℕ) → Exact (AreUpTo AllBytes more) (list_field hex) (list_at hex_at more)

-- words are read exactly, where each word of the list is read as itself, so that none hides another
abbrev pub WordsAreExact : {K : Type 0} → (K → List ℕ) → Type 0
WordsAreExact {K} text =
    (first : K) (words : List K)
    → ((word : K) (rest : List ℕ) → Contains (first ∷ words) word → words_from text 0 (first ∷ words) (text word ++ rest) ≡ Ok (word, rest))
    → Exact (Contains (first ∷ words)) text (words_from text 0 (first ∷ words))

-- a text that is to be one number field is read as it is spelt, or stops at the column at which no such number goes on
abbrev pub WholeNumbersAreRead : Type 0
WholeNumbersAreRead = (low high end : ℕ) → IsRange low high end → (bytes : List ℕ)
    → ReadsWhole (IsWithin low high) (number end) bytes (column_of bytes (whole_at (number_at low high end) bytes))

-- a line ends at the first line feed; bytes without one are one line
pub record LinesEndAtFeeds : Type 0 where
  pub first : (text line rest : List ℕ) → IsFirstLine text line rest → lines_of text ≡ line ∷ lines_of rest
  pub last : (b : ℕ) (bytes : List ℕ) → has_feed (b ∷ bytes) ≡ false → lines_of (b ∷ bytes) ≡ (b ∷ bytes) ∷ []
