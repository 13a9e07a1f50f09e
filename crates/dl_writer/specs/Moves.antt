-- What a call does to what is kept, whatever view the writer stands for.
use Rattle.std.specs.Prelude.{◌≡◌, ℕ, ◌+◌, ◌-◌, ◌≤◌, Bool, true, false, Some, List, [], ◌∷◌, ◌++◌, length, map, drop}
use Rattle.dl_types.specs.declared.row.Row.{Row}
use Rattle.dl_record.specs.declared.stored.Stored.{Stored}
use Rattle.dl_record.specs.declared.stored.Stored.TheVariants.{Control}
use Rattle.dl_record.specs.Grammar.{payload_bytes, entry_bytes}
use Rattle.dl_msg.specs.declared.letters.Told.{Told}
use Rattle.dl_rules_stream.specs.LogWriters.{Pending, rows_at}
use Rattle.dl_lwrite.specs.Facts.{WriterFacts}
use Rattle.dl_writer.specs.declared.mode.Mode.{Mode}
use Rattle.dl_writer.specs.declared.mode.Mode.TheVariants as kept
use Rattle.dl_writer.specs.declared.going.Going.{Going}
use Rattle.dl_writer.specs.declared.going.Going.TheVariants.{Turns, SendsControl}
use Rattle.dl_writer.specs.declared.sent.Sent.{Sent}
use Rattle.dl_writer.specs.Facts.{DraftFacts, LogFacts}
use Rattle.dl_writer.specs.Drafts.{empty_draft, with_part, fits_parts, HasRoom}
use Rattle.dl_writer.specs.Sending.{SendsOn, row_spot}

-- an entry that was sent
abbrev pub sent_of : ℕ → List Row → Sent
sent_of entry rows = record { entry = entry; rows = rows }

-- the rows of the entry under way, at the places that they get as it is sent now
abbrev pub draft_rows : LogFacts → List Row
draft_rows f = rows_at f.segment f.ledger.sent 0 f.draft.pending

-- The entry under way was sent, the writer goes on with the next one, and its mode is this one.
pub record SendsDraft (f : LogFacts) (next : DraftFacts) (mode : Mode) (told : List Told) (new : LogFacts) : Type 0 where
  pub ledger : SendsOn f.ledger (entry_bytes f.draft.parts) told new.ledger
  pub segment : new.segment ≡ f.segment
  pub draft : new.draft ≡ next
  pub waiting : new.waiting ≡ f.waiting ++ map row_spot (draft_rows f) ∷ []
  pub last : new.last ≡ Some (sent_of f.ledger.sent (draft_rows f))
  pub rows_sent : new.rows_sent ≡ f.rows_sent + length f.draft.pending
  pub last_sent : new.last_sent ≡ f.draft.last
  pub mode_is : new.mode ≡ mode

-- A control entry was sent behind all that was.
pub record IsControl (f : LogFacts) (told : List Told) (new : LogFacts) : Type 0 where
  pub ledger : SendsOn f.ledger (entry_bytes (Control f.rows_sent f.last_sent ∷ [])) told new.ledger
  pub segment : new.segment ≡ f.segment
  pub draft : new.draft ≡ f.draft
  pub waiting : new.waiting ≡ f.waiting ++ [] ∷ []
  pub last : new.last ≡ Some (sent_of f.ledger.sent [])
  pub rows_sent : new.rows_sent ≡ f.rows_sent
  pub last_sent : new.last_sent ≡ f.last_sent
  pub mode_is : new.mode ≡ kept.Committing f.ledger.sent

-- Nothing was told.
pub record IsQuiet (f : LogFacts) (told : List Told) (new : LogFacts) : Type 0 where
  pub letters : told ≡ []
  pub now : new ≡ f

-- the writer went on so
abbrev pub GoesBy : Going → LogFacts → List Told → LogFacts → Type 0
GoesBy (Turns mode) f told new = IsQuiet (record f { mode = mode }) told new
GoesBy SendsControl f told new = IsControl f told new

-- what is kept with another ledger's writer, with which so many entries wait no more, and in another mode
abbrev pub with_ledger : LogFacts → WriterFacts → ℕ → Mode → LogFacts
with_ledger f ledger passed mode = record f { ledger = ledger; waiting = drop passed f.waiting; mode = mode }

-- Another ledger's writer with which so many entries wait no more.
pub record IsAhead (f : LogFacts) (ledger : WriterFacts) (passed : ℕ) : Type 0 where
  pub sent : ledger.sent ≡ f.ledger.sent
  pub confirmed : ledger.confirmed ≡ f.ledger.confirmed + passed
  pub below : ledger.confirmed ≤ ledger.sent

-- a stored record was taken with its rows, where it fits the entry under way, or else into a next one, behind which that is sent
abbrev pub TakesBy : Bool → LogFacts → Stored → List Pending → Mode → List Told → LogFacts → Type 0
TakesBy true f part rows mode told new = IsQuiet (record f { draft = with_part f.draft part rows; mode = mode }) told new
TakesBy false f part rows mode told new = SendsDraft f (with_part (empty_draft f.draft.next f.draft.last) part rows) mode told new

-- whether a stored record fits the entry under way
abbrev pub part_fits : LogFacts → Stored → Bool
part_fits f part = fits_parts f.draft.parts (length (payload_bytes part))

-- the mode in which a commit or a close begins
abbrev pub IsEnding : Mode → Type 0
IsEnding kept.Awaiting = Unit {0}
IsEnding kept.Closing = Unit {0}
IsEnding mode = ⊥
