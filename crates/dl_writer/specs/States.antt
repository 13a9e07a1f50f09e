-- What a writer tells of its state.
use Rattle.std.specs.Prelude.{ℕ, Option, Some, None}
use Rattle.dl_rules_stream.specs.LogWriters as rule
use Rattle.dl_rules_stream.specs.LogWriters.{LogState}
use Rattle.dl_writer.specs.declared.mode.Mode.{Mode}
use Rattle.dl_writer.specs.declared.mode.Mode.TheVariants as kept
use Rattle.dl_writer.specs.declared.writer_state.WriterState.{WriterState}
use Rattle.dl_writer.specs.declared.writer_state.WriterState.TheVariants as told

-- the rule's state for which this one stands
abbrev pub state_of : WriterState → LogState
state_of told.Open = rule.IsOpen
state_of told.Committing = rule.IsCommitting
state_of (told.Committed control) = rule.HasCommitted control
state_of told.Closing = rule.IsClosing
state_of (told.Closable entries rows last) = rule.MayClose entries rows last
state_of (told.Fenced bookie) = rule.IsFenced bookie

-- the state in a mode, where a fence takes the place of every other one but the last
abbrev pub state_at : Mode → Option ℕ → (entries rows last : ℕ) → LogState
state_at kept.Closable fenced entries rows last = rule.MayClose entries rows last
state_at mode (Some bookie) entries rows last = rule.IsFenced bookie
state_at kept.Open None entries rows last = rule.IsOpen
state_at kept.Awaiting None entries rows last = rule.IsCommitting
state_at (kept.Committing control) None entries rows last = rule.IsCommitting
state_at (kept.Committed control) None entries rows last = rule.HasCommitted control
state_at kept.Closing None entries rows last = rule.IsClosing
