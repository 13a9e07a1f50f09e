-- A walk over a segment's ledger stands at a stage of the ledger's reader.
use Rattle.std.specs.Prelude.{◌≡◌, List}
use Rattle.dl_types.specs.declared.read_row.ReadRow.{ReadRow}
use Rattle.dl_msg.specs.declared.turn.Turn.{Turn}
use Rattle.dl_rules_ledger.specs.Readers.{ReaderStage}
use Rattle.dl_rules_stream.specs.Orders.{Next}
use Rattle.dl_rules_stream.specs.LogReaders as rule
use Rattle.dl_rules_stream.specs.Seeks.{Position}
use Rattle.dl_lread.specs.declared.got.Got.{Got}
use Rattle.dl_lread.specs.Standing.{StandsAt, got_in}
use Rattle.dl_requests.specs.Turns.{turn_of}
use Rattle.dl_reader.specs.declared.walk.Walk.{Walk}

-- a kept walk is that of the rule: its number, and its ledger's reader at a stage
pub record IsWalk (w : rule.Walk) (s : ReaderStage) (k : Walk) : Type 0 where
  pub segment : k.segment ≡ w.segment
  pub reader : StandsAt w.subject s k.reader

-- what is next gives no rows: the position stays
abbrev pub IsQuiet : Next (List ReadRow) → Type 0
IsQuiet next = (p : Position) → rule.position_behind p next ≡ p

-- a walk asks by the rule: it is at this stage then, and answers with this turn
pub record AsksBy (w : rule.Walk) (s : ReaderStage) (next : Next (List ReadRow)) (k : Walk) (t : Turn (List ReadRow)) : Type 0 where
  pub walk : IsWalk w s k
  pub turn : t ≡ turn_of next
  pub quiet : IsQuiet next

-- a walk has heard a message: it is at this stage then, and the ledger's reader has got what the stage says
pub record HearsBy (w : rule.Walk) (s : ReaderStage) (k : Walk) (g : Got) : Type 0 where
  pub walk : IsWalk w s k
  pub got : g ≡ got_in s
