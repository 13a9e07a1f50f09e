-- What a failed setting of the ledger's node means.
use Rattle.std.specs.Prelude.{ℕ, Some}
use Rattle.dl_types.specs.declared.why.Why.{Why}
use Rattle.dl_types.specs.declared.why.Why.TheVariants.{NoNode, BadVersion}
use Rattle.dl_rules_stream.specs.Nodes.{LedgerNode}
use Rattle.dl_rules_stream.specs.Requests.{Request}
use Rattle.dl_rules_stream.specs.Orders.{Next, Refused, no_way_on}
use Rattle.dl_rules_stream.specs.LedgerRecoveries.{RecoveryArgs, RecoveryStage, IsGone, WasRefused, gives_up, again}

-- the node is gone, or has moved on and is read again, or there is no way on
abbrev pub failed_setting : RecoveryArgs → LedgerNode → Request → ℕ → Why → RecoveryStage × Next ℕ
failed_setting x m set place NoNode = gives_up x (IsGone (Some m))
failed_setting x m set place (BadVersion now) = again x m
failed_setting x m set place w = (WasRefused (Some m), Refused (no_way_on set place w))
