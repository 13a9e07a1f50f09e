-- Numbers as fields of bytes, the high byte first.
use Rattle.std.specs.Prelude.{ℕ, ◌+◌, ◌<◌, List, length, take, drop, slice_index, Result, Ok, Err, nat_le, if◌then◌else◌}
use Rattle.std.specs.Int.{Width, byte_len, from_be_bytes, to_be_bytes}
use Rattle.dl_codec.specs.declared.short.Short.{Short}

-- the bytes of a number: as many as the width has, the high byte first
unfoldable pub field : Width → ℕ → List ℕ
field w n = to_be_bytes w n

-- the number that a field's bytes spell
unfoldable pub number_of : Width → List ℕ → ℕ
number_of w bytes = from_be_bytes w bytes

-- the field at this place is cut short
abbrev pub short_at : ℕ → Short
short_at at = record { at = at }

-- the number in the field at a place, or that fewer bytes remain there than the field has
unfoldable pub number_at : Width → List ℕ → ℕ → Result ℕ Short
number_at w bytes at =
    if nat_le (at + byte_len w) (length bytes) then Ok (number_of w (take (byte_len w) (drop at bytes)))
    else Err (short_at at)

-- each item is a byte
abbrev pub IsBytes : List ℕ → Type 0
IsBytes bytes = (i : ℕ) → slice_index bytes i < 256
