-- How many files a depot has.
use Rattle.std.specs.Prelude.{ℕ}

-- two for the metadata, and two for each of 16 bookies
abbrev pub file_count : ℕ
file_count = 34
