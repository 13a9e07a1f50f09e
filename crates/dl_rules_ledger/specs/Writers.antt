-- A ledger's writer by the calls that it was given: which entries it has sent, who has acknowledged them, and how many of
-- the first are confirmed (BookKeeper documentation, "the ledger writer", last add confirmed).
use Rattle.std.specs.Prelude.{ℕ, suc, ◌+◌, Bool, false, ◌&&◌, ◌||◌, ◌==◌, nat_lt, nat_le, if◌then◌else◌, List, [], ◌∷◌, map, Option, Some, None}
use Rattle.dl_quorum.specs.Pieces.{Pieces, members, acks}
use Rattle.dl_msg.specs.declared.msg.Msg.{Msg}
use Rattle.dl_msg.specs.declared.msg.Msg.TheVariants.{Add, AddOk, AddFenced}
use Rattle.dl_msg.specs.declared.letters.Told.{Told}
use Rattle.dl_rules_ledger.specs.declared.window.TheConstants.{WINDOW}
use Rattle.dl_rules_ledger.specs.Leading.{leading_count}

-- a call that a writer was given: an entry's bytes to send, or a message of a bookie
pub data WriterCall : Type 0 where
  Sends : (bytes : List ℕ) → WriterCall
  Hears : (bookie : ℕ) (msg : Msg) → WriterCall

-- the ledger that a writer writes, the pieces of it, and the calls since the writer was made, the newest first
pub record WriterView : Type 0 where
  pub ledger : ℕ
  pub pieces : Pieces
  pub calls : List WriterCall

-- a writer that was given no call yet
abbrev pub new_view : ℕ → Pieces → WriterView
new_view ledger pieces = record { ledger = ledger; pieces = pieces; calls = [] }

-- a view with one call more
abbrev pub with_call : WriterView → WriterCall → WriterView
with_call v call = record v { calls = call ∷ v.calls }

-- how many entries were sent
abbrev pub sent_count : List WriterCall → ℕ
sent_count [] = 0
sent_count (Sends bytes ∷ calls) = suc (sent_count calls)
sent_count (Hears bookie msg ∷ calls) = sent_count calls

-- whether a message says that an entry of a ledger is stored
abbrev pub is_add_ok : ℕ → ℕ → Msg → Bool
is_add_ok ledger entry (AddOk l e) = l == ledger && e == entry
is_add_ok ledger entry _ = false

-- whether a message says that a ledger is fenced
abbrev pub is_add_fenced : ℕ → Msg → Bool
is_add_fenced ledger (AddFenced l e) = l == ledger
is_add_fenced ledger _ = false

-- whether a bookie has acknowledged an entry, after it was sent
abbrev pub has_acked : ℕ → List WriterCall → ℕ → ℕ → Bool
has_acked ledger [] entry bookie = false
has_acked ledger (Sends bytes ∷ calls) entry bookie = has_acked ledger calls entry bookie
has_acked ledger (Hears b msg ∷ calls) entry bookie =
    (b == bookie && is_add_ok ledger entry msg && nat_lt entry (sent_count calls))
    || has_acked ledger calls entry bookie

-- whether an entry has the acknowledgements of an ack quorum of its write set
abbrev pub has_ack_quorum : WriterView → ℕ → Bool
has_ack_quorum v entry = acks v.pieces entry (has_acked v.ledger v.calls entry)

-- how many of the first entries are confirmed: the greatest number, at most that of the entries sent, such that each entry
-- below it has an ack quorum
unfoldable pub confirmed_count : WriterView → ℕ
confirmed_count v = leading_count (has_ack_quorum v) (sent_count v.calls)

-- this one, or else the other
abbrev pub or_else : Option ℕ → Option ℕ → Option ℕ
or_else (Some b) other = Some b
or_else None other = other

-- the first bookie that said that a ledger is fenced
abbrev pub first_fence : ℕ → List WriterCall → Option ℕ
first_fence ledger [] = None
first_fence ledger (Sends bytes ∷ calls) = first_fence ledger calls
first_fence ledger (Hears b msg ∷ calls) =
    or_else (first_fence ledger calls) (if is_add_fenced ledger msg then Some b else None)

-- the bookie that fenced a writer: the first that said that its ledger is fenced
abbrev pub fence_bookie : WriterView → Option ℕ
fence_bookie v = first_fence v.ledger v.calls

-- why an entry is not sent: the fence that a bookie told, or a window without room
pub data SendStop : Type 0 where
  Fence : (bookie : ℕ) → SendStop
  FullWindow : SendStop

-- the fence goes before the window
abbrev pub stop_by : Option ℕ → Bool → Option SendStop
stop_by (Some bookie) full = Some (Fence bookie)
stop_by None full = if full then Some FullWindow else None

-- the reason why a writer sends no entry now, where there is one: the ledger is fenced, or else so many entries are
-- unconfirmed as may be
unfoldable pub send_stop : WriterView → Option SendStop
send_stop v = stop_by (fence_bookie v) (nat_le (confirmed_count v + WINDOW) (sent_count v.calls))

-- the message by which a bookie is told an entry
abbrev pub add_to : (ledger entry count : ℕ) → List ℕ → ℕ → Told
add_to ledger entry count bytes bookie = record { bookie = bookie; msg = Add ledger entry count bytes }

-- the messages by which an entry is sent: to each bookie of its write set in the order of places, with the confirmed count
unfoldable pub add_letters : WriterView → List ℕ → List Told
add_letters v bytes =
    map (add_to v.ledger (sent_count v.calls) (confirmed_count v) bytes) (members v.pieces (sent_count v.calls))

-- the count at which the ledger may be closed: that of the entries sent, where all are confirmed
abbrev pub closing_count : WriterView → Option ℕ
closing_count v = if confirmed_count v == sent_count v.calls then Some (sent_count v.calls) else None
