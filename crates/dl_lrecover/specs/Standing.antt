-- A recovery stands at a stage of the rule.
use Rattle.std.specs.Prelude.{◌≡◌, ℕ, Option, Some, None}
use Rattle.dl_quorum.specs.Sizes.{sizes_of}
use Rattle.dl_quorum.specs.Pieces.{one_piece, ensemble_members}
use Rattle.dl_msg.specs.declared.turn.Turn.{Turn}
use Rattle.dl_rules_stream.specs.Nodes.{LedgerNode}
use Rattle.dl_rules_stream.specs.Orders.{Next}
use Rattle.dl_rules_stream.specs.Listings.{pieces_of}
use Rattle.dl_rules_stream.specs.LedgerRecoveries as rule
use Rattle.dl_requests.specs.LedgerNodes.{node_of_meta}
use Rattle.dl_requests.specs.Turns.{turn_of}
use Rattle.dl_lrecover.specs.declared.stage.Stage.{Stage}
use Rattle.dl_lrecover.specs.declared.stage.Stage.TheVariants as kept
use Rattle.dl_lrecover.specs.declared.target.Target.{Target}
use Rattle.dl_lrecover.specs.declared.target.Located.{Located}
use Rattle.dl_lrecover.specs.Finding.{PhaseStands}

-- what is recovered
abbrev pub args_of : Target → rule.RecoveryArgs
args_of t = record { tag = t.tag; ledger = t.ledger; conf = t.conf }

-- a kept node is that of the rule, and its ensemble is the ledger's ring
pub record IsNodeAt (x : rule.RecoveryArgs) (m : LedgerNode) (at : Located) : Type 0 where
  pub node : node_of_meta at.meta ≡ m
  pub pieces : one_piece (sizes_of at.meta.q) (ensemble_members at.ensemble) ≡ pieces_of x.conf x.ledger m

-- the same where there may be none
abbrev pub IsNodeIn : rule.RecoveryArgs → Option LedgerNode → Option Located → Type 0
IsNodeIn x None None = Unit {0}
IsNodeIn x (Some m) (Some at) = IsNodeAt x m at
IsNodeIn x _ _ = ⊥

-- a node and its version
pub record IsVersionAt (x : rule.RecoveryArgs) (m : LedgerNode) (version : ℕ) (at : Located) (v : ℕ) : Type 0 where
  pub node : IsNodeAt x m at
  pub version_is : v ≡ version

-- a kept stage stands for a stage of the rule
abbrev pub StageStands : rule.RecoveryArgs → rule.RecoveryStage → Stage → Type 0
StageStands x (rule.GettingNode old) (kept.GettingNode node) = IsNodeIn x old node
StageStands x (rule.Marking m version) (kept.Marking at v) = IsVersionAt x m version at v
StageStands x (rule.Searching m version p) (kept.Searching at v phase) = IsVersionAt x m version at v × PhaseStands (rule.subject_of x m) p phase
StageStands x (rule.Closing m version count) (kept.Closing at v n) = IsVersionAt x m version at v × (n ≡ count)
StageStands x (rule.IsClosed m) (kept.IsClosed at) = IsNodeAt x m at
StageStands x (rule.IsGone old) (kept.IsGone node) = IsNodeIn x old node
StageStands x (rule.WasRefused old) (kept.WasRefused node) = IsNodeIn x old node
StageStands x _ _ = ⊥

-- a stage and a turn are those to which the rule goes
pub record IsMove (x : rule.RecoveryArgs) (move : rule.RecoveryStage × Next ℕ) (result : Stage × Turn ℕ) : Type 0 where
  pub stage : StageStands x move.0 result.0
  pub turn : result.1 ≡ turn_of move.1
