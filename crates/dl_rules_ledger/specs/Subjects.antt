-- What a task asks bookies about a ledger, and what they answer.
use Rattle.std.specs.Prelude.{ℕ, max, Bool, ◌&&◌, ◌==◌, List, [], ◌∷◌, map}
use Rattle.std.specs.List.{list_any}
use Rattle.dl_quorum.specs.Pieces.{Pieces, members, last_piece}
use Rattle.dl_msg.specs.declared.msg.Msg.{Msg}
use Rattle.dl_msg.specs.declared.letters.Told.{Told}

-- The ledger with its pieces, and the tag of the messages.
pub record Subject : Type 0 where
  pub tag : ℕ
  pub ledger : ℕ
  pub pieces : Pieces

-- whether a number is in a list
abbrev pub among : List ℕ → ℕ → Bool
among xs n = list_any (λ x. x == n) xs

-- a message for each of these bookies, in their order
abbrev pub tell_each : List ℕ → Msg → List Told
tell_each bookies m = map (λ b. record { bookie = b; msg = m }) bookies

-- a message for the write set of an entry, in the order of places
abbrev pub tell_write_set : Subject → ℕ → Msg → List Told
tell_write_set x entry m = tell_each (members x.pieces entry) m

-- a message for all bookies of the last piece, in the order of places
abbrev pub tell_last_piece : Subject → Msg → List Told
tell_last_piece x m = tell_each (last_piece x.pieces).members m

-- whether a bookie is one of the last piece
abbrev pub is_in_last_piece : Subject → ℕ → Bool
is_in_last_piece x b = among (last_piece x.pieces).members b

-- whether a bookie is one of the write set of an entry
abbrev pub is_in_write_set : Subject → (entry bookie : ℕ) → Bool
is_in_write_set x entry b = among (members x.pieces entry) b

-- whether an answer of a bookie is about the ledger, and from a bookie of the last piece
abbrev pub is_about : Subject → (bookie tag ledger : ℕ) → Bool
is_about x b tag ledger = tag == x.tag && ledger == x.ledger && is_in_last_piece x b

-- whether an answer of a bookie is about an entry, and from a bookie of its write set
abbrev pub is_about_entry : Subject → ℕ → (bookie tag ledger entry : ℕ) → Bool
is_about_entry x entry b tag ledger e = tag == x.tag && ledger == x.ledger && e == entry && is_in_write_set x entry b

-- whether a bookie is among those that told a count
abbrev pub has_answered : List (ℕ × ℕ) → ℕ → Bool
has_answered answers b = list_any (λ (x : ℕ × ℕ). x.0 == b) answers

-- the greatest count that was told
abbrev pub greatest_count : List (ℕ × ℕ) → ℕ
greatest_count [] = 0
greatest_count (x ∷ xs) = max x.1 (greatest_count xs)

-- the greatest of the last piece's first entry and of the counts that were told: so many entries at least were confirmed
abbrev pub known_count : Subject → List (ℕ × ℕ) → ℕ
known_count x answers = max (last_piece x.pieces).from (greatest_count answers)
