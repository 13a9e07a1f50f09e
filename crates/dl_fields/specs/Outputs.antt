-- What a writer does to the bytes that it writes to.
use Rattle.std.specs.Prelude.{◌≡◌, ℕ, List, ◌++◌, Result, Ok, Err}
use Rattle.dl_types.specs.declared.memory.NoMemory.{NoMemory}

-- the bytes have gained these at their end, or memory ran out and they are as before
abbrev pub Puts : List ℕ → List ℕ → List ℕ → Result (Unit {0}) NoMemory → Type 0
Puts old new bytes (Ok done) = new ≡ old ++ bytes
Puts old new bytes (Err fault) = new ≡ old
