-- What the rule says of a request that failed.
use Rattle.std.proofs.Common.{◌≡◌, ◌≢◌, ℕ, Option, Some, refl, sym, ap}
use Rattle.dl_types.specs.declared.why.Why.{Why}
use Rattle.dl_types.specs.declared.why.Why.TheVariants.{NoNode, NodeExists, BadVersion, NotEmpty, EphemeralParent, Spent}
use Rattle.dl_types.specs.declared.meta_answer.MetaAnswer.TheVariants as answer
use Rattle.dl_rules_stream.specs.Nodes.{LedgerNode}
use Rattle.dl_rules_stream.specs.Requests.{Request, GetLedger, MarkLedger, CloseLedger}
use Rattle.dl_rules_stream.specs.Orders.{Refused, no_way_on}
use Rattle.dl_rules_stream.specs.LedgerRecoveries.{RecoveryArgs, GettingNode, Marking, Closing, IsGone, WasRefused, gives_up, recovery_answers}
use Rattle.dl_lrecover.specs.Failures.{failed_setting}

-- where a node can't be read, and is there, there is no way on
pub failed_getting : (x : RecoveryArgs) (old : Option LedgerNode) (place : ℕ) (w : Why) → w ≢ NoNode
    → recovery_answers x (GettingNode old) (answer.Failed place w) ≡ (WasRefused old, Refused (no_way_on (GetLedger x.ledger) place w))
unfolding recovery_answers
failed_getting x old place NoNode other = absurd (other refl)
failed_getting x old place NodeExists other = refl
failed_getting x old place (BadVersion now) other = refl
failed_getting x old place (NotEmpty count) other = refl
failed_getting x old place EphemeralParent other = refl
failed_getting x old place Spent other = refl

-- where it isn't there, it is gone
pub gone_getting : (x : RecoveryArgs) (old : Option LedgerNode) (place : ℕ) (w : Why) → w ≡ NoNode
    → gives_up x (IsGone old) ≡ recovery_answers x (GettingNode old) (answer.Failed place w)
unfolding recovery_answers
gone_getting x old place w gone = sym (ap (λ y. recovery_answers x (GettingNode old) (answer.Failed place y)) gone)

-- a setting of a node that isn't there
pub gone_setting : (x : RecoveryArgs) (m : LedgerNode) (set : Request) (place : ℕ) (w : Why) → w ≡ NoNode
    → gives_up x (IsGone (Some m)) ≡ failed_setting x m set place w
gone_setting x m set place w gone = sym (ap (failed_setting x m set place) gone)

-- a setting from whose failure there is no way on
pub refused_setting : (x : RecoveryArgs) (m : LedgerNode) (set : Request) (place : ℕ) (w : Why) → w ≢ NoNode
    → ((now : ℕ) → w ≢ BadVersion now) → (WasRefused (Some m), Refused (no_way_on set place w)) ≡ failed_setting x m set place w
refused_setting x m set place NoNode other moved = absurd (other refl)
refused_setting x m set place NodeExists other moved = refl
refused_setting x m set place (BadVersion now) other moved = absurd (moved now refl)
refused_setting x m set place (NotEmpty count) other moved = refl
refused_setting x m set place EphemeralParent other moved = refl
refused_setting x m set place Spent other moved = refl

-- a mark that failed
pub failed_marking : (x : RecoveryArgs) (m : LedgerNode) (version place : ℕ) (w : Why)
    → recovery_answers x (Marking m version) (answer.Failed place w) ≡ failed_setting x m (MarkLedger x.ledger m.q version) place w
unfolding recovery_answers
failed_marking x m version place NoNode = refl
failed_marking x m version place NodeExists = refl
failed_marking x m version place (BadVersion now) = refl
failed_marking x m version place (NotEmpty count) = refl
failed_marking x m version place EphemeralParent = refl
failed_marking x m version place Spent = refl

-- a closing that failed
pub failed_closing : (x : RecoveryArgs) (m : LedgerNode) (version count place : ℕ) (w : Why)
    → recovery_answers x (Closing m version count) (answer.Failed place w) ≡ failed_setting x m (CloseLedger x.ledger m.q count version) place w
unfolding recovery_answers
failed_closing x m version count place NoNode = refl
failed_closing x m version count place NodeExists = refl
failed_closing x m version count place (BadVersion now) = refl
failed_closing x m version count place (NotEmpty n) = refl
failed_closing x m version count place EphemeralParent = refl
failed_closing x m version count place Spent = refl
