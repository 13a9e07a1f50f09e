-- A writer stands for a view: what it was started with, and the calls since.
use Rattle.std.specs.Prelude.{◌≡◌, ℕ, ◌+◌, ◌<◌, List, slice_index, Some, None}
use Rattle.dl_quorum.specs.Places.{holds}
use Rattle.dl_quorum.specs.Sizes.{sizes_of}
use Rattle.dl_quorum.specs.Pieces.{one_piece, ensemble_members}
use Rattle.dl_msg.specs.declared.letters.Told.{Told}
use Rattle.dl_rules_ledger.specs.Writers.{WriterView, Sends, with_call, sent_count, has_acked, confirmed_count}
use Rattle.dl_rules_ledger.specs.Writers.{fence_bookie, Fence, FullWindow, send_stop, add_letters}
use Rattle.dl_lwrite.specs.Facts.{WriterFacts}
use Rattle.dl_lwrite.specs.declared.send_fault.SendFault.{SendFault}
use Rattle.dl_lwrite.specs.declared.send_fault.SendFault.TheVariants.{Fenced, WindowFull, NoMemory}

-- each thing that a writer keeps is what the view says
pub record StandsFor (v : WriterView) (w : WriterFacts) : Type 0 where
  pub ledger : w.ledger ≡ v.ledger
  pub pieces : one_piece (sizes_of w.q) (ensemble_members w.ensemble) ≡ v.pieces
  pub sent : w.sent ≡ sent_count v.calls
  pub confirmed : w.confirmed ≡ confirmed_count v
  pub fenced : w.fenced ≡ fence_bookie v
  pub answers : (i place : ℕ) → w.confirmed + i < w.sent → place < w.q.e
      → holds (slice_index w.answers i) place
      ≡ has_acked v.ledger v.calls (w.confirmed + i) (slice_index (ensemble_members w.ensemble) place)

-- a sending that the view lets pass: the entry has the next number, the letters are the view's, and the writer stands for
-- the view with the call
pub record IsSending (v : WriterView) (bytes : List ℕ) (number : ℕ) (told : List Told) (w : WriterFacts) : Type 0 where
  pub free : send_stop v ≡ None
  pub entry : number ≡ sent_count v.calls
  pub letters : told ≡ add_letters v bytes
  pub stands : StandsFor (with_call v (Sends bytes)) w

-- a refusal to send is the one that the view gives; want of memory says nothing
abbrev pub Refuses : WriterView → SendFault → Type 0
Refuses v (Fenced bookie) = send_stop v ≡ Some (Fence bookie)
Refuses v WindowFull = send_stop v ≡ Some FullWindow
Refuses v NoMemory = Unit {0}
