-- Entries that are sent on a ledger's writer.
use Rattle.std.specs.Prelude.{◌≡◌, ℕ, ◌+◌, ◌<◌, ◌^◌, None, List}
use Rattle.dl_types.specs.declared.dlsn.Dlsn.{Dlsn}
use Rattle.dl_types.specs.declared.row.Origin.{Origin}
use Rattle.dl_types.specs.declared.row.Row.{Row}
use Rattle.dl_msg.specs.declared.letters.Told.{Told}
use Rattle.dl_rules_ledger.specs.declared.window.TheConstants.{WINDOW}
use Rattle.dl_rules_ledger.specs.Writers.{WriterView}
use Rattle.dl_rules_stream.specs.LogWriters.{Pending}
use Rattle.dl_lwrite.specs.Facts.{WriterFacts}
use Rattle.dl_lwrite.specs.Standing.{StandsFor, IsSending}
use Rattle.dl_lwrite.specs.Steps.{HasSent}

-- where a row comes from and stands
abbrev pub row_spot : Row → Origin × Dlsn
row_spot row = (row.origin, row.place)

-- a record that was taken
abbrev pub pending_of : Origin → ℕ → List ℕ → Pending
pending_of origin txid payload = record { origin = origin; txid = txid; payload = payload }

-- the origin whose call has so many before it from another one on
abbrev pub nth_origin : Origin → ℕ → Origin
nth_origin origin before = record origin { call = origin.call + before }

-- a record at its place
abbrev pub row_at : Dlsn → Pending → Row
row_at place p = record { place = place; txid = p.txid; payload = p.payload; origin = p.origin }

-- The ledger is not fenced, its window has room, and there is a number for one entry more.
pub record MaySend (w : WriterFacts) : Type 0 where
  pub free : w.fenced ≡ None
  pub room : w.sent < w.confirmed + WINDOW
  pub few : w.sent + 1 < 2 ^ 64

-- For every view that a writer stands for, the entry is sent by the rule.
pub record SendsOn (old : WriterFacts) (bytes : List ℕ) (told : List Told) (new : WriterFacts) : Type 0 where
  pub sends : (v : WriterView) → StandsFor v old → IsSending v bytes old.sent told new
  pub counts : HasSent old new
