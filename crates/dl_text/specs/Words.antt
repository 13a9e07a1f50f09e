-- Words of a closed list.
use Rattle.std.specs.Prelude.{ℕ, max, ◌-◌, Option, Some, None, List, [], ◌∷◌, length, Result, Ok, Err, ◌==◌, if◌then◌else◌}
use Rattle.dl_text.specs.Readers.{shared_length}

-- what stands behind a word at the front of a text
abbrev pub after : List ℕ → List ℕ → Option (List ℕ)
after [] bytes = Some bytes
after (w ∷ ws) [] = None
after (w ∷ ws) (b ∷ bs) = if b == w then after ws bs else None

-- this word, where something stands behind it, else another reading
abbrev pub word_or : {K : Type 0} → Option (List ℕ) → K → Result (K × List ℕ) ℕ → Result (K × List ℕ) ℕ
word_or (Some rest) word other = Ok (word, rest)
word_or None word other = other

-- the first of the words that stands at the front of a text; best is the most bytes that an earlier word shares
abbrev pub words_from : {K : Type 0} → (K → List ℕ) → ℕ → List K → List ℕ → Result (K × List ℕ) ℕ
words_from text best [] bytes = Err (length bytes - best)
words_from text best (word ∷ words) bytes = word_or (after (text word) bytes) word (words_from text (max best (shared_length bytes (text word))) words bytes)
