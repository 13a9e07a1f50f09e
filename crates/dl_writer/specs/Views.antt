-- A log writer stands for a view: what it was started with, and the calls since.
use Rattle.std.specs.Prelude.{◌≡◌, ℕ, Option, Some, None, Result, Ok, Err, List, [], ◌∷◌, length, map, drop}
use Rattle.dl_types.specs.declared.refusal.Refusal.{Refusal}
use Rattle.dl_types.specs.declared.dlsn.Dlsn.{Dlsn}
use Rattle.dl_types.specs.declared.row.Origin.{Origin}
use Rattle.dl_types.specs.declared.row.Row.{Row}
use Rattle.dl_msg.specs.declared.letters.Told.{Told}
use Rattle.dl_msg.specs.declared.msg.Msg.{Msg}
use Rattle.dl_quorum.specs.Pieces.{Pieces}
use Rattle.dl_rules_stream.specs.LogWriters as rule
use Rattle.dl_rules_stream.specs.LogWriters.{LogArgs, LogCall, Appends, AppendsSet, Flushes, Commits, Closes, HearsFrom}
use Rattle.dl_rules_stream.specs.LogWriters.{LogNow, LogMove, SentEntry, log_of, last_sent_entry}
use Rattle.dl_rules_stream.specs.LogWriters.{in_mode, has_parts, flushes, then_goes_on, send_fault, unless}
use Rattle.dl_lwrite.specs.Standing as lwrite
use Rattle.dl_writer.specs.declared.acked.Acked.{Acked}
use Rattle.dl_writer.specs.declared.sent.Sent.{Sent}
use Rattle.dl_writer.specs.declared.write_fault.WriteFault.{WriteFault}
use Rattle.dl_writer.specs.declared.write_fault.WriteFault.TheVariants as fault
use Rattle.dl_writer.specs.Facts.{LogFacts}
use Rattle.dl_writer.specs.Modes.{log_mode}
use Rattle.dl_writer.specs.Sending.{row_spot}

-- What a writer was started with, and the calls since, the newest first.
pub record LogView : Type 0 where
  pub args : LogArgs
  pub calls : List LogCall

-- a writer of a segment, behind this transaction id, on a ledger with its pieces
abbrev pub args_of : (segment last ledger : ℕ) → Pieces → LogArgs
args_of segment last ledger pieces = record { segment = segment; last = last; ledger = ledger; pieces = pieces }

-- a writer that was given no call yet
abbrev pub new_view : LogArgs → LogView
new_view x = record { args = x; calls = [] }

-- a view with one call more
abbrev pub with_call : LogView → LogCall → LogView
with_call v call = record v { calls = call ∷ v.calls }

-- what a writer is by its view
abbrev pub now_of : LogView → LogNow
now_of v = log_of v.args v.calls

-- an entry that was sent, as the rule says it
abbrev pub entry_of : Option Sent → Option SentEntry
entry_of None = None
entry_of (Some sent) = Some (record { entry = sent.entry; rows = sent.rows })

-- where the rows of entries come from and stand
abbrev pub spots : List (List Row) → List (List (Origin × Dlsn))
spots entries = map (λ rows. map row_spot rows) entries

-- each thing that is kept is what the rule says
pub record NowStands (w : LogNow) (f : LogFacts) : Type 0 where
  pub segment : f.segment ≡ w.segment
  pub ledger : lwrite.StandsFor w.ledger f.ledger
  pub parts : f.draft.parts ≡ w.parts
  pub pending : f.draft.pending ≡ w.pending
  pub last_taken : f.draft.last ≡ w.last_taken
  pub entries : length w.entries ≡ f.ledger.sent
  pub waiting : f.waiting ≡ spots (drop f.ledger.confirmed w.entries)
  pub last : entry_of f.last ≡ last_sent_entry w
  pub rows_sent : f.rows_sent ≡ w.rows_sent
  pub last_sent : f.last_sent ≡ w.last_sent
  pub mode : log_mode f.mode ≡ w.mode

-- a writer stands for a view where all that is kept does
abbrev pub StandsFor : LogView → LogFacts → Type 0
StandsFor v f = NowStands (now_of v) f

-- ---- what a call answers

-- what the rule says of a call; hearing is never refused
abbrev pub answer_to : LogNow → LogCall → Result LogMove Refusal
answer_to w (Appends origin txid payload) = rule.appends w origin txid payload
answer_to w (AppendsSet origin txid payloads) = rule.appends_set w origin txid payloads
answer_to w Flushes = rule.log_flushes w
answer_to w Commits = rule.commits w
answer_to w Closes = rule.closes w
answer_to w (HearsFrom bookie msg) = Ok (rule.log_hears w bookie msg)

-- what was taken is sent, and then a commit or a close goes on, in this mode
abbrev pub ends_in : rule.LogMode → LogNow → Result LogMove Refusal
ends_in mode w = unless (send_fault w (has_parts w)) (then_goes_on (flushes (in_mode mode w)))

-- these messages are told, and the writer stands for what is so
pub record IsMove (m : LogMove) (letters : List Told) (f : LogFacts) : Type 0 where
  pub told : letters ≡ m.letters
  pub stands : NowStands m.now f

-- a call was taken by the rule
abbrev pub Takes : Result LogMove Refusal → List Told → LogFacts → Type 0
Takes (Ok m) letters f = IsMove m letters f
Takes (Err refusal) letters f = ⊥

-- a call was refused by the rule; want of memory says nothing
abbrev pub Refuses : Result LogMove Refusal → WriteFault → Type 0
Refuses answer (fault.Refused refusal) = answer ≡ Err refusal
Refuses answer fault.NoMemory = Unit {0}

-- A call that is taken: the messages are the rule's, and the writer stands for the view with the call.
pub record IsTaking (v : LogView) (call : LogCall) (letters : List Told) (f : LogFacts) : Type 0 where
  pub taken : Takes (answer_to (now_of v) call) letters f
  pub stands : StandsFor (with_call v call) f

-- A message that is heard: what is told then, and the writer stands for the view with it.
pub record IsHearing (v : LogView) (bookie : ℕ) (msg : Msg) (acked : Acked) (f : LogFacts) : Type 0 where
  pub confirmed : acked.confirmed ≡ rule.confirmed_count (now_of (with_call v (HearsFrom bookie msg)))
  pub rows : acked.rows ≡ map row_spot (rule.log_hears (now_of v) bookie msg).rows
  pub letters : acked.letters ≡ (rule.log_hears (now_of v) bookie msg).letters
  pub stands : StandsFor (with_call v (HearsFrom bookie msg)) f
