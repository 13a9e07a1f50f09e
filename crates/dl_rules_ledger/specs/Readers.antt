-- A ledger's reader by the calls that it was given (BookKeeper documentation, "read last add confirmed", "read entry"): how many
-- entries can be read, and their bytes.
use Rattle.std.specs.Prelude.{ℕ, false, if◌then◌else◌, List, [], ◌∷◌, Option, Some, None}
use Rattle.dl_quorum.specs.Pieces.{covers}
use Rattle.dl_msg.specs.declared.msg.Msg.{Msg}
use Rattle.dl_msg.specs.declared.msg.Msg.TheVariants.{AskLac, AskEntry, LacIs, EntryIs}
use Rattle.dl_msg.specs.declared.letters.Told.{Told}
use Rattle.dl_rules_ledger.specs.Subjects.{Subject, has_answered, known_count, tell_write_set, tell_last_piece, is_about, is_about_entry}

-- a call of a reader: it asks for the count, or for an entry, or hears a message of a bookie
pub data ReaderCall : Type 0 where
  AsksCount : ReaderCall
  Asks : (entry : ℕ) → ReaderCall
  Hears : (bookie : ℕ) (msg : Msg) → ReaderCall

-- what it waits for, with the counts heard so far, the newest first, or what it has got
pub data ReaderStage : Type 0 where
  Idle : ReaderStage
  Counting : (answers : List (ℕ × ℕ)) → ReaderStage
  Counted : (count : ℕ) → ReaderStage
  Fetching : (entry : ℕ) → ReaderStage
  Fetched : (bytes : List ℕ) → ReaderStage

-- what is told to ask for the count
abbrev pub asks_count : Subject → List Told
asks_count x = tell_last_piece x (AskLac x.tag x.ledger false)

-- what is told to ask for an entry
abbrev pub asks_entry : Subject → ℕ → List Told
asks_entry x entry = tell_write_set x entry (AskEntry x.tag x.ledger entry)

-- how many entries can be read, where those that answered cover
abbrev pub readable : Subject → List (ℕ × ℕ) → Option ℕ
readable x answers = if covers x.pieces (has_answered answers) then Some (known_count x answers) else None

-- the count at the first moment at which those that answered cover
abbrev pub after_count : List (ℕ × ℕ) → Option ℕ → ReaderStage
after_count answers None = Counting answers
after_count answers (Some n) = Counted n

-- what a reader does at a message of a bookie; the first bytes of an entry count
unfoldable pub hears : Subject → ReaderStage → ℕ → Msg → ReaderStage
hears x (Counting answers) b (LacIs t l f n) =
    if is_about x b t l then after_count ((b, n) ∷ answers) (readable x ((b, n) ∷ answers)) else Counting answers
hears x (Fetching entry) b (EntryIs t l e bytes) = if is_about_entry x entry b t l e then Fetched bytes else Fetching entry
hears x stage b m = stage

-- the stage after one call more
abbrev pub after_call : Subject → ReaderStage → ReaderCall → ReaderStage
after_call x stage AsksCount = Counting []
after_call x stage (Asks entry) = Fetching entry
after_call x stage (Hears b m) = hears x stage b m

-- the stage after the calls, the newest first
unfoldable pub stage_of : Subject → List ReaderCall → ReaderStage
stage_of x [] = Idle
stage_of x (call ∷ calls) = after_call x (stage_of x calls) call
