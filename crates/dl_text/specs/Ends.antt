-- The bytes that end fields and lines.
use Rattle.std.specs.Prelude.{ℕ}

-- between words
abbrev pub space : ℕ
space = 32

-- inside a place
abbrev pub colon : ℕ
colon = 58

-- at the end of a line
abbrev pub line_feed : ℕ
line_feed = 10
