-- A frame: bytes that grow in room that was taken for them.
use Rattle.std.specs.Prelude.{◌≡◌, ◌≤◌, ◌+◌, ℕ, List, ◌++◌, length, Vec, vec_len, vec_capacity}
use Rattle.std.specs.declared.alloc.Global.{Global}

-- there is room for so many bytes more
abbrev pub HasRoom : Vec ℕ Global → ℕ → Type 0
HasRoom frame count = vec_len frame + count ≤ vec_capacity frame

-- The frame has these bytes more at its end, and no less room in all.
pub record Grows (old new : Vec ℕ Global) (bytes : List ℕ) : Type 0 where
  pub items : new.items ≡ old.items ++ bytes
  pub len : vec_len new ≡ vec_len old + length bytes
  pub room : vec_capacity old ≤ vec_capacity new
