-- Sizes and limits of a journal's layout. Sizes are in bytes.
use Rattle.std.specs.Prelude.{◌+◌, ℕ}

-- the greatest size of a file, since a load holds the whole file in memory
abbrev pub journal_limit : ℕ
journal_limit = 268435456

-- the greatest number of a batch: a signed number of eight bytes holds it too
abbrev pub last_number : ℕ
last_number = 9223372036854775807

-- the bytes of a batch's number in a frame
abbrev pub number_size : ℕ
number_size = 8

-- the bytes of a body's length in a frame
abbrev pub length_size : ℕ
length_size = 4

-- what stands before a body
abbrev pub head_size : ℕ
head_size = number_size + length_size

-- a gate
abbrev pub gate_size : ℕ
gate_size = 1

-- what a frame has beside its body: the head, and the gate of the batch after it
abbrev pub around_body : ℕ
around_body = head_size + gate_size
