-- The recovery of a ledger from its fencing on (BookKeeper documentation, "ledger recovery"): it fences, reads forward from the
-- greatest confirmation, copies what it finds, and ends at the first entry that is denied. A phase holds what was heard in it.
use Rattle.std.specs.Prelude.{ℕ, ◌+◌, ◌-◌, ◌^◌, true, nat_le, if◌then◌else◌, List, [], ◌∷◌}
use Rattle.dl_quorum.specs.Pieces.{acks, blocks, covers}
use Rattle.dl_msg.specs.declared.msg.Msg.{Msg}
use Rattle.dl_msg.specs.declared.msg.Msg.TheVariants.{Copy, AskLac, AskEntry, CopyOk, LacIs, EntryIs, NoEntry}
use Rattle.dl_msg.specs.declared.letters.Told.{Told}
use Rattle.dl_rules_ledger.specs.Subjects.{Subject, among, has_answered, known_count, tell_write_set, tell_last_piece, is_about, is_about_entry}

-- the greatest number of an entry
abbrev pub greatest_entry : ℕ
greatest_entry = 2 ^ 64 - 1

-- who answered with the fenced bit, and with which counts; who denied an entry with the fenced bit; who has copied it; the end
-- of the ledger; or no number is left for an entry. Lists have the newest first.
pub data Phase : Type 0 where
  Fencing : (answers : List (ℕ × ℕ)) → Phase
  Reading : (start entry : ℕ) (denials : List ℕ) → Phase
  Copying : (start entry : ℕ) (copied : List ℕ) → Phase
  Ended : (count : ℕ) → Phase
  Exhausted : Phase

-- a phase, and what is told on the way to it
abbrev pub Move : Type 0
Move = Phase × List Told

-- the bookies of the last piece are asked to fence the ledger
abbrev pub fences : Subject → Move
fences x = (Fencing [], tell_last_piece x (AskLac x.tag x.ledger true))

-- an entry is asked of its write set
abbrev pub reads : Subject → (start entry : ℕ) → Move
reads x start entry =
    if nat_le entry greatest_entry then (Reading start entry [], tell_write_set x entry (AskEntry x.tag x.ledger entry)) else (Exhausted, [])

-- the first moment at which those that answered cover gives the start
abbrev pub after_answer : Subject → List (ℕ × ℕ) → Move
after_answer x answers = if covers x.pieces (has_answered answers) then reads x (known_count x answers) (known_count x answers) else (Fencing answers, [])

-- an entry that so many of its write set deny that the others are no ack quorum is the end
abbrev pub after_denial : Subject → (start entry : ℕ) → List ℕ → Move
after_denial x start entry denials = if blocks x.pieces entry (among denials) then (Ended entry, []) else (Reading start entry denials, [])

-- an entry that is found is copied to its write set; copies carry the start
abbrev pub after_entry : Subject → (start entry : ℕ) → List ℕ → Move
after_entry x start entry bytes = (Copying start entry [], tell_write_set x entry (Copy x.tag x.ledger entry start bytes))

-- an entry of which an ack quorum has copies is done
abbrev pub after_copy : Subject → (start entry : ℕ) → List ℕ → Move
after_copy x start entry copied = if acks x.pieces entry (among copied) then reads x start (entry + 1) else (Copying start entry copied, [])

-- what a recovery does at a message of a bookie
unfoldable pub recovers : Subject → Phase → ℕ → Msg → Move
recovers x (Fencing answers) b (LacIs t l true n) =
    if is_about x b t l then after_answer x ((b, n) ∷ answers) else (Fencing answers, [])
recovers x (Reading start entry denials) b (NoEntry t l e true) =
    if is_about_entry x entry b t l e then after_denial x start entry (b ∷ denials) else (Reading start entry denials, [])
recovers x (Reading start entry denials) b (EntryIs t l e bytes) =
    if is_about_entry x entry b t l e then after_entry x start entry bytes else (Reading start entry denials, [])
recovers x (Copying start entry copied) b (CopyOk t l e) =
    if is_about_entry x entry b t l e then after_copy x start entry (b ∷ copied) else (Copying start entry copied, [])
recovers x phase b m = (phase, [])

-- the phase after the messages that were heard, each with its bookie, the newest first
unfoldable pub phase_of : Subject → List Told → Phase
phase_of x [] = (fences x).0
phase_of x (h ∷ heard) = (recovers x (phase_of x heard) h.bookie h.msg).0
