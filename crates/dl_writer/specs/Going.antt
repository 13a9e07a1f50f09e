-- How a commit or a close goes on, by what is kept of the ledger's writer.
use Rattle.std.specs.Prelude.{ℕ, Bool, true, false, ◌==◌, nat_lt, if◌then◌else◌, is_some}
use Rattle.dl_lwrite.specs.Facts.{WriterFacts}
use Rattle.dl_writer.specs.declared.mode.Mode.{Mode}
use Rattle.dl_writer.specs.declared.mode.Mode.TheVariants as kept
use Rattle.dl_writer.specs.declared.going.Going.{Going}
use Rattle.dl_writer.specs.declared.going.Going.TheVariants.{Turns, SendsControl}

-- this mode turns into the other where a test holds
abbrev pub going_if : Bool → (other mode : Mode) → Going
going_if holds other mode = if holds then Turns other else Turns mode

-- how a mode goes on, by whether the ledger is fenced, whether all that was sent is confirmed, and how many entries are
abbrev pub going_by : (fenced all : Bool) → ℕ → Mode → Going
going_by true all confirmed mode = Turns mode
going_by false all confirmed kept.Awaiting = if all then SendsControl else Turns kept.Awaiting
going_by false all confirmed (kept.Committing control) = going_if (nat_lt control confirmed) (kept.Committed control) (kept.Committing control)
going_by false all confirmed kept.Closing = going_if all kept.Closable kept.Closing
going_by false all confirmed mode = Turns mode

-- how a mode goes on with a ledger's writer
abbrev pub going : WriterFacts → Mode → Going
going w mode = going_by (is_some w.fenced) (w.confirmed == w.sent) w.confirmed mode
