-- What a call does to what a writer keeps, whatever view it stands for.
use Rattle.std.specs.Prelude.{◌≡◌, ℕ, ◌+◌, ◌≤◌, if◌then◌else◌, Option, Some, None}
use Rattle.dl_msg.specs.declared.msg.Msg.{Msg}
use Rattle.dl_rules_ledger.specs.declared.window.TheConstants.{WINDOW}
use Rattle.dl_rules_ledger.specs.Writers.{is_add_fenced, or_else}
use Rattle.dl_lwrite.specs.Facts.{WriterFacts}
use Rattle.dl_lwrite.specs.declared.send_fault.SendFault.{SendFault}
use Rattle.dl_lwrite.specs.declared.send_fault.SendFault.TheVariants.{Fenced, WindowFull, NoMemory}

-- one entry more was sent, and nothing was confirmed
pub record HasSent (old new : WriterFacts) : Type 0 where
  pub sent : new.sent ≡ old.sent + 1
  pub confirmed : new.confirmed ≡ old.confirmed
  pub below : old.confirmed ≤ old.sent
  pub fenced : new.fenced ≡ old.fenced

-- a message was heard: what was confirmed stays so, and so does a fence
pub record HasHeard (old : WriterFacts) (bookie : ℕ) (msg : Msg) (new : WriterFacts) : Type 0 where
  pub sent : new.sent ≡ old.sent
  pub grows : old.confirmed ≤ new.confirmed
  pub below : new.confirmed ≤ new.sent
  pub fenced : new.fenced ≡ or_else old.fenced (if is_add_fenced old.ledger msg then Some bookie else None)

-- why an entry is not sent, by what the writer keeps
abbrev pub IsStop : WriterFacts → SendFault → Type 0
IsStop w (Fenced bookie) = w.fenced ≡ Some bookie
IsStop w WindowFull = w.confirmed + WINDOW ≤ w.sent
IsStop w NoMemory = Unit {0}
