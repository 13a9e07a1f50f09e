-- Why a call is refused, by what is kept.
use Rattle.std.specs.Prelude.{◌≡◌, ℕ, ◌+◌, ◌≤◌, ◌<◌, Bool, true, false, not, ◌&&◌, nat_lt, nat_le, Option, Some, None, Result, Ok, Err, length}
use Rattle.dl_types.specs.declared.refusal.Refusal.{Refusal}
use Rattle.dl_types.specs.declared.refusal.Refusal.TheVariants as refused
use Rattle.dl_types.specs.declared.txid.TheConstants.{MAX_TXID}
use Rattle.dl_rules_ledger.specs.declared.window.TheConstants.{WINDOW}
use Rattle.dl_rules_stream.specs.LogWriters.{is_closing, longest_payload, writer_fault, or_fault, fault_if}
use Rattle.dl_writer.specs.Facts.{LogFacts}
use Rattle.dl_writer.specs.Modes.{log_mode}
use Rattle.dl_writer.specs.Drafts.{fits_parts}

-- the refusal of an answer, where it is one
abbrev pub error_of : {A : Type 0} → Result A Refusal → Option Refusal
error_of (Ok x) = None
error_of (Err refusal) = Some refusal

-- why a record of this length and id is refused, by the last id before it, and else for another reason
abbrev pub record_fault : (size last txid : ℕ) → Option Refusal → Option Refusal
record_fault size last txid other =
    or_fault (fault_if (nat_lt longest_payload size) (refused.TooLong size)) (or_fault (fault_if (nat_lt txid last) (refused.TxidBack last txid)) other)

-- whether as many entries are unconfirmed as may be
abbrev pub is_full_in : LogFacts → Bool
is_full_in f = nat_le (f.ledger.confirmed + WINDOW) f.ledger.sent

-- why any call but hearing is refused, and else for another reason
abbrev pub call_fault : LogFacts → Option Refusal → Option Refusal
call_fault f other = or_fault (writer_fault (is_closing (log_mode f.mode)) f.ledger.fenced) other

-- why a call that sends the entry under way is refused
abbrev pub send_fault_in : LogFacts → Option Refusal
send_fault_in f = call_fault f (fault_if (nat_lt 0 (length f.draft.parts) && is_full_in f) refused.WindowFull)

-- why a record of this length and id is refused
abbrev pub take_fault_in : LogFacts → (size txid : ℕ) → Option Refusal
take_fault_in f size txid =
    call_fault f (record_fault size f.draft.last txid (fault_if (not (fits_parts f.draft.parts size) && is_full_in f) refused.WindowFull))

-- What is known where a call that sends the entry under way isn't refused.
pub record MayFlush (f : LogFacts) : Type 0 where
  pub free : f.ledger.fenced ≡ None
  pub room : nat_lt 0 (length f.draft.parts) ≡ true → f.ledger.sent < f.ledger.confirmed + WINDOW

-- What is known where a record isn't refused.
pub record MayCome (f : LogFacts) (size txid : ℕ) : Type 0 where
  pub free : f.ledger.fenced ≡ None
  pub short : size ≤ longest_payload
  pub order : f.draft.last ≤ txid
  pub bound : txid ≤ MAX_TXID
  pub room : fits_parts f.draft.parts size ≡ false → f.ledger.sent < f.ledger.confirmed + WINDOW
