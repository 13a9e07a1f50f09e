-- A recovery stands for a view: what it was started with, and all that it heard.
use Rattle.std.specs.Prelude.{◌≡◌, ℕ, List, [], ◌∷◌, Option, Some}
use Rattle.dl_msg.specs.declared.heard.Heard.{Heard}
use Rattle.dl_msg.specs.declared.turn.Turn.{Turn}
use Rattle.dl_formats.specs.declared.conf.Conf.{Conf}
use Rattle.dl_rules_ledger.specs.Subjects.{among}
use Rattle.dl_rules_stream.specs.Nodes.{LedgerNode}
use Rattle.dl_rules_stream.specs.Orders.{Next}
use Rattle.dl_rules_stream.specs.Listings.{pieces_of}
use Rattle.dl_rules_stream.specs.LedgerRecoveries as rule
use Rattle.dl_subject.specs.Sets.{IsSetOf}
use Rattle.dl_requests.specs.Turns.{turn_of}
use Rattle.dl_lrecover.specs.declared.ending.Ending.{Ending}
use Rattle.dl_lrecover.specs.declared.ending.Ending.TheVariants as ending
use Rattle.dl_lrecover.specs.declared.outcome.Missing.{Missing}
use Rattle.dl_lrecover.specs.declared.outcome.Missing.TheVariants as lacks
use Rattle.dl_lrecover.specs.declared.outcome.Outcome.{Outcome}
use Rattle.dl_lrecover.specs.declared.outcome.Outcome.TheVariants as outcome
use Rattle.dl_lrecover.specs.Facts.{RecoveryFacts}
use Rattle.dl_lrecover.specs.Standing.{IsNodeAt, StageStands}

-- What a recovery was started with, and what it heard, the newest first.
pub record RecoveryView : Type 0 where
  pub args : rule.RecoveryArgs
  pub heard : List Heard

-- the tag of the messages, the ledger, and the configuration
abbrev pub args : (tag ledger : ℕ) → Conf → rule.RecoveryArgs
args tag ledger conf = record { tag = tag; ledger = ledger; conf = conf }

-- a recovery that has heard nothing yet
abbrev pub new_view : rule.RecoveryArgs → RecoveryView
new_view x = record { args = x; heard = [] }

-- a view with one thing more that was heard
abbrev pub with_heard : RecoveryView → Heard → RecoveryView
with_heard v h = record v { heard = h ∷ v.heard }

-- the stage of a view
abbrev pub stage_in : RecoveryView → rule.RecoveryStage
stage_in v = rule.recovery_stage v.args v.heard

-- a recovery stands at a stage of the rule
pub record StandsAt (x : rule.RecoveryArgs) (stage : rule.RecoveryStage) (f : RecoveryFacts) : Type 0 where
  pub args : f.args ≡ x
  pub at : StageStands x stage f.stage

-- a recovery stands for a view: each thing that it keeps is what the view says
abbrev pub StandsFor : RecoveryView → RecoveryFacts → Type 0
StandsFor v f = StandsAt v.args (stage_in v) f

-- a recovery goes on as the rule does: it answers with this turn, and stands then at this stage
pub record GoesBy (x : rule.RecoveryArgs) (move : rule.RecoveryStage × Next ℕ) (t : Turn ℕ) (f : RecoveryFacts) : Type 0 where
  pub turn : t ≡ turn_of move.1
  pub stands : StandsAt x move.0 f

-- a recovery answers by what its view says, and stands then for the view with what it heard
pub record IsHearing (v : RecoveryView) (h : Heard) (t : Turn ℕ) (f : RecoveryFacts) : Type 0 where
  pub turn : t ≡ turn_of (rule.recovery_hears v.args (stage_in v) h).1
  pub stands : StandsFor (with_heard v h) f

-- ---- what is known of it

-- a set of places is that of these bookies, among those of the node
abbrev pub IsSetIn : rule.RecoveryArgs → LedgerNode → List ℕ → ℕ → Type 0
IsSetIn x m bookies set = IsSetOf (pieces_of x.conf x.ledger m) (among bookies) set

-- what is lacking is what the rule says, with the places of the bookies
abbrev pub LacksBy : rule.RecoveryArgs → Option LedgerNode → rule.Missing → Missing → Type 0
LacksBy x known rule.LacksReply lacks.Reply = Unit {0}
LacksBy x (Some m) (rule.LacksCover bookies) (lacks.Cover set) = IsSetIn x m bookies set
LacksBy x (Some m) (rule.LacksEntry entry bookies) (lacks.Entry e set) = (e ≡ entry) × IsSetIn x m bookies set
LacksBy x known _ _ = ⊥

-- the outcome is what the rule says
abbrev pub ComesTo : rule.RecoveryArgs → Option LedgerNode → rule.Outcome → Outcome → Type 0
ComesTo x known (rule.NotYet missing) (outcome.NotYet l) = LacksBy x known missing l
ComesTo x known (rule.ClosedAt count) (outcome.Closed n) = n ≡ count
ComesTo x known rule.Gone outcome.Gone = Unit {0}
ComesTo x known _ _ = ⊥

-- the outcome of a view
abbrev pub IsOutcome : RecoveryView → Outcome → Type 0
IsOutcome v o = ComesTo v.args (rule.node_of (stage_in v)) (rule.outcome_of (stage_in v)) o

-- how a recovery has ended is what the rule says: the node of a closed ledger, or that its node is gone
abbrev pub EndsBy : rule.RecoveryArgs → rule.RecoveryStage → Ending → Type 0
EndsBy x (rule.IsClosed m) (ending.Closed at) = IsNodeAt x m at
EndsBy x (rule.IsClosed m) _ = ⊥
EndsBy x (rule.IsGone old) ending.Gone = Unit {0}
EndsBy x (rule.IsGone old) _ = ⊥
EndsBy x stage ending.Open = Unit {0}
EndsBy x stage _ = ⊥
