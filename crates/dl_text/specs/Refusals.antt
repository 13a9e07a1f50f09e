-- What a line says of a refusal: its word, and the numbers and paths that decide it, to the end of the line.
use Rattle.std.specs.Prelude.{ℕ, List, [], ◌∷◌, ◌++◌, codes}
use Rattle.dl_types.specs.declared.refusal.Refusal.{Refusal}
use Rattle.dl_types.specs.declared.refusal.Refusal.TheVariants as refusal
use Rattle.dl_text.specs.Ends.{space, line_feed}
use Rattle.dl_text.specs.Numbers.{number}
use Rattle.dl_text.specs.Fields.{bytes_field, place_field}
use Rattle.dl_text.specs.declared.refusal_word.RefusalWord.{RefusalWord}
use Rattle.dl_text.specs.declared.refusal_word.RefusalWord.TheVariants as word

-- the word of a refusal, with the byte that ends it
abbrev pub refusal_text : RefusalWord → List ℕ
refusal_text word.Expired = codes "expired "
refusal_text word.Held = codes "held "
refusal_text word.Fenced = codes "fenced "
refusal_text word.Moved = codes "moved "
refusal_text word.NoStream = codes "nostream\n"
refusal_text word.StreamExists = codes "streamexists\n"
refusal_text word.TxidBack = codes "txidback "
refusal_text word.TooLong = codes "toolong "
refusal_text word.BeyondEnd = codes "beyondend "
refusal_text word.NoWriter = codes "nowriter\n"
refusal_text word.Truncated = codes "truncated "
refusal_text word.NotEmpty = codes "notempty "
refusal_text word.Busy = codes "busy "
refusal_text word.BadName = codes "badname "
refusal_text word.WindowFull = codes "windowfull\n"
refusal_text word.GaveUp = codes "gaveup "

-- the word that tells of a refusal
abbrev pub refusal_word : Refusal → RefusalWord
refusal_word (refusal.Expired session) = word.Expired
refusal_word (refusal.Held member) = word.Held
refusal_word (refusal.Fenced bookie) = word.Fenced
refusal_word (refusal.Moved path version) = word.Moved
refusal_word refusal.NoStream = word.NoStream
refusal_word refusal.StreamExists = word.StreamExists
refusal_word (refusal.TxidBack last given) = word.TxidBack
refusal_word (refusal.TooLong length) = word.TooLong
refusal_word (refusal.BeyondEnd end) = word.BeyondEnd
refusal_word refusal.NoWriter = word.NoWriter
refusal_word (refusal.Truncated point) = word.Truncated
refusal_word (refusal.NotEmpty count) = word.NotEmpty
refusal_word (refusal.Busy line) = word.Busy
refusal_word (refusal.BadName at) = word.BadName
refusal_word refusal.WindowFull = word.WindowFull
refusal_word (refusal.GaveUp path) = word.GaveUp

-- what a line says behind the word
abbrev pub refusal_rest : Refusal → List ℕ
refusal_rest (refusal.Expired session) = number line_feed session
refusal_rest (refusal.Held member) = number line_feed member
refusal_rest (refusal.Fenced bookie) = number line_feed bookie
refusal_rest (refusal.Moved path version) = bytes_field space path ++ number line_feed version
refusal_rest refusal.NoStream = []
refusal_rest refusal.StreamExists = []
refusal_rest (refusal.TxidBack last given) = number space last ++ number line_feed given
refusal_rest (refusal.TooLong length) = number line_feed length
refusal_rest (refusal.BeyondEnd end) = place_field line_feed end
refusal_rest refusal.NoWriter = []
refusal_rest (refusal.Truncated point) = place_field line_feed point
refusal_rest (refusal.NotEmpty count) = number line_feed count
refusal_rest (refusal.Busy line) = number line_feed line
refusal_rest (refusal.BadName at) = number line_feed at
refusal_rest refusal.WindowFull = []
refusal_rest (refusal.GaveUp path) = bytes_field line_feed path

-- a refusal, to the end of its line
abbrev pub refusal_field : Refusal → List ℕ
refusal_field r = refusal_text (refusal_word r) ++ refusal_rest r
