-- What a log writer keeps.
use Rattle.std.specs.Prelude.{◌≡◌, ℕ, ◌+◌, ◌≤◌, Option, Some, None, List, length}
use Rattle.dl_types.specs.declared.bookie.TheConstants.{MAX_BOOKIE}
use Rattle.dl_types.specs.declared.dlsn.Dlsn.{Dlsn}
use Rattle.dl_types.specs.declared.row.Origin.{Origin}
use Rattle.dl_record.specs.declared.stored.Stored.{Stored}
use Rattle.dl_rules_stream.specs.LogWriters.{Pending}
use Rattle.dl_lwrite.specs.Facts.{WriterFacts}
use Rattle.dl_writer.specs.declared.mode.Mode.{Mode}
use Rattle.dl_writer.specs.declared.sent.Sent.{Sent}

-- The entry under way: its stored records and their rows, the position of the next stored record, and the id taken last.
pub record DraftFacts : Type 0 where
  pub parts : List Stored
  pub pending : List Pending
  pub next : ℕ
  pub last : ℕ

-- The segment and its ledger's writer; the entry under way; where the rows of each unconfirmed entry come from and stand; the
-- entry sent last; how many rows were sent, and the last id that was; and the mode.
pub record LogFacts : Type 0 where
  pub segment : ℕ
  pub ledger : WriterFacts
  pub draft : DraftFacts
  pub waiting : List (List (Origin × Dlsn))
  pub last : Option Sent
  pub rows_sent : ℕ
  pub last_sent : ℕ
  pub mode : Mode

-- a fence, where there is one, was told by a bookie
abbrev pub IsBookie : Option ℕ → Type 0
IsBookie None = Unit {0}
IsBookie (Some b) = b ≤ MAX_BOOKIE

-- What fits together: positions count rows, each unconfirmed entry waits, and who told of a fence is a bookie.
pub record IsLog (f : LogFacts) : Type 0 where
  pub next : f.draft.next ≡ f.rows_sent + length f.draft.pending
  pub waiting : f.ledger.confirmed + length f.waiting ≡ f.ledger.sent
  pub fence : IsBookie f.ledger.fenced

-- A ledger's writer that has sent and heard nothing.
pub record IsFresh (w : WriterFacts) : Type 0 where
  pub sent : w.sent ≡ 0
  pub confirmed : w.confirmed ≡ 0
  pub fenced : w.fenced ≡ None
