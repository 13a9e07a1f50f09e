-- Numbers and runs of bytes at the front of the bytes.
use Rattle.std.specs.Prelude.{ℕ, ◌^◌, ◌<◌, List, ◌++◌, length, take, drop, Result, Ok, Err, nat_le, if◌then◌else◌}
use Rattle.std.specs.Int.{Width, byte_len}
use Rattle.dl_codec.specs.Fields.{field, number_of}
use Rattle.dl_fields.specs.declared.fault.Fault.{Fault}
use Rattle.dl_fields.specs.declared.fault.Fault.TheVariants.{Short}
use Rattle.dl_fields.specs.Readers.{then_at, map_at}

-- so many bytes
abbrev pub run_from : ℕ → List ℕ → Result (List ℕ × List ℕ) Fault
run_from n bytes = if nat_le n (length bytes) then Ok (take n bytes, drop n bytes) else Err (Short (length bytes))

-- the number of a width, the high byte first
unfoldable pub number_from : Width → List ℕ → Result (ℕ × List ℕ) Fault
number_from w = map_at (number_of w) (run_from (byte_len w))

-- a number fits a width
abbrev pub Fits : Width → ℕ → Type 0
Fits w n = n < 256 ^ byte_len w

-- bytes behind their length, which is a number of a width
abbrev pub counted_field_from : Width → List ℕ → Result (List ℕ × List ℕ) Fault
counted_field_from w = map_at (λ x. x.1) (then_at (number_from w) run_from)

-- the spelling of bytes behind their length
abbrev pub counted_field : Width → List ℕ → List ℕ
counted_field w run = field w (length run) ++ run

-- the length of the bytes fits a width
abbrev pub IsCounted : Width → List ℕ → Type 0
IsCounted w run = Fits w (length run)
