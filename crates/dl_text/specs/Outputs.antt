-- What a printer does to the text that it writes to.
use Rattle.std.specs.Prelude.{◌≡◌, ℕ, List, ◌++◌, Result, Ok, Err}
use Rattle.dl_types.specs.declared.memory.NoMemory.{NoMemory}

-- the text has gained these bytes at its end, or memory ran out and it is as before
abbrev pub Puts : List ℕ → List ℕ → List ℕ → Result (Unit {0}) NoMemory → Type 0
Puts old new text (Ok done) = new ≡ old ++ text
Puts old new text (Err fault) = new ≡ old
