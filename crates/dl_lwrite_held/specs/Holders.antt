-- A client in small stands for what it was given; its writer stands for the calls that this determines.
use Rattle.std.specs.Prelude.{◌≡◌, ℕ, List, [], ◌∷◌}
use Rattle.dl_quorum.specs.Pieces.{Pieces}
use Rattle.dl_msg.specs.declared.msg.Msg.{Msg}
use Rattle.dl_rules_ledger.specs.Writers.{WriterCall, Sends, Hears, WriterView}
use Rattle.dl_lwrite.specs.Standing.{StandsFor}
use Rattle.dl_lwrite_held.specs.Facts.{HolderFacts}

-- what a client is given: a line with an entry's bytes, or a message of a bookie
pub data Input : Type 0 where
  Line : (bytes : List ℕ) → Input
  Message : (bookie : ℕ) (msg : Msg) → Input

-- what a client was started with, and what it was given since, the newest first
pub record HolderView : Type 0 where
  pub number : ℕ
  pub ledger : ℕ
  pub pieces : Pieces
  pub inputs : List Input

-- a client that was given nothing yet
abbrev pub new_view : ℕ → ℕ → Pieces → HolderView
new_view number ledger pieces = record { number = number; ledger = ledger; pieces = pieces; inputs = [] }

-- a view with one input more
abbrev pub with_input : HolderView → Input → HolderView
with_input v x = record v { inputs = x ∷ v.inputs }

-- the call that an input is to the writer
abbrev pub call_of : Input → WriterCall
call_of (Line bytes) = Sends bytes
call_of (Message bookie msg) = Hears bookie msg

-- the calls that inputs are to the writer
abbrev pub calls_of : List Input → List WriterCall
calls_of [] = []
calls_of (x ∷ inputs) = call_of x ∷ calls_of inputs

-- the view of the client's writer
abbrev pub writer_view : HolderView → WriterView
writer_view v = record { ledger = v.ledger; pieces = v.pieces; calls = calls_of v.inputs }

-- a client stands for a view where its writer stands for the view that this determines
pub record HolderStands (v : HolderView) (h : HolderFacts) : Type 0 where
  pub number : h.number ≡ v.number
  pub writer : StandsFor (writer_view v) h.writer
