-- The commands, and the words that ask for them.
use Rattle.std.specs.Prelude.{ℕ, Bool, List, [], ◌∷◌, Result, Ok, Err, if◌then◌else◌, codes, nat_eq}
use Rattle.std.specs.Str.{is_utf8}
use Rattle.std.specs.Cmp.Lexicographic.{pointwise}
use Rattle.dlog.specs.declared.command.Command.{Command}
use Rattle.dlog.specs.declared.command.Command.TheVariants.{Replay}

-- the first word of the one command
abbrev pub is_replay : List ℕ → Bool
is_replay word = pointwise nat_eq word (codes "replay")

-- a command whose words end before this place: no word stands there
abbrev pub alone : Command → ℕ → List (List ℕ) → Result Command ℕ
alone command place [] = Ok command
alone command place (word ∷ words) = Err place

-- the command that the words ask for, or the place, from 1, of the first word at which no command goes on
abbrev pub command_of : List (List ℕ) → Result Command ℕ
command_of [] = Err 1
command_of (word ∷ words) = if is_replay word then alone Replay 2 words else Err 1

-- the word of these bytes; bytes that are not UTF-8 are the empty word, with which no command goes on
abbrev pub word_text : List ℕ → List ℕ
word_text bytes = if is_utf8 bytes then bytes else []
