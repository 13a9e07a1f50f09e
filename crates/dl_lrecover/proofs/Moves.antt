-- Where the rule goes at what it waited for.
use Rattle.std.proofs.Common.{◌≡◌, ℕ, List, [], ◌∷◌, map, ◌||◌, ◌==◌, Option, Some, Ok, Err, refl, sym, ap, ◌∙◌, subst, slice_index}
use Rattle.dl_types.specs.declared.refusal.Refusal.TheVariants.{GaveUp}
use Rattle.dl_types.specs.declared.one_answer.OneAnswer.TheVariants.{Version, Bytes}
use Rattle.dl_types.specs.declared.meta_answer.MetaAnswer.TheVariants as answer
use Rattle.dl_formats.specs.declared.ledger.LedgerState.TheVariants as state
use Rattle.dl_formats.specs.Keys.{Ledger, path_of}
use Rattle.dl_quorum.specs.Pieces.{last_piece}
use Rattle.dl_rules_ledger.specs.Subjects.{Subject, among, has_answered}
use Rattle.dl_rules_ledger.specs.Recoveries as search
use Rattle.dl_rules_stream.specs.Nodes.{LedgerNode}
use Rattle.dl_rules_stream.specs.Orders.{Done, or_refused}
use Rattle.dl_rules_stream.specs.Listings.{ledger_node_of}
use Rattle.dl_rules_stream.specs.LedgerRecoveries as rule
use Rattle.dl_lrecover.specs.declared.phase.Step.{Step}
use Rattle.dl_lrecover.specs.declared.phase.Step.TheVariants as step
use Rattle.dl_lrecover.specs.declared.phase.Phase.TheVariants as kept
use Rattle.dl_lrecover.specs.declared.outcome.Missing.TheVariants as lacks
use Rattle.dl_lrecover.specs.Finding.{PhaseStands, StepStands}
use Rattle.dl_lrecover.specs.Views.{LacksBy}

-- a node that was read
pub read_node : (x : rule.RecoveryArgs) (old : Option LedgerNode) (bytes : List ℕ) (version : ℕ) (m : LedgerNode)
    → ledger_node_of x.conf x.ledger bytes ≡ Ok m
    → rule.after_node x version m m.state ≡ rule.recovery_answers x (rule.GettingNode old) (answer.One (Bytes bytes version))
unfolding rule.recovery_answers
read_node x old bytes version m read = sym (ap (or_refused (rule.WasRefused old) (λ n. rule.after_node x version n n.state)) read)

-- a node that can't be read
pub unread_node : (x : rule.RecoveryArgs) (old : Option LedgerNode) (bytes : List ℕ) (version : ℕ)
    → ledger_node_of x.conf x.ledger bytes ≡ Err (GaveUp (path_of (Ledger x.ledger)))
    → rule.gives_up x (rule.WasRefused old) ≡ rule.recovery_answers x (rule.GettingNode old) (answer.One (Bytes bytes version))
unfolding rule.recovery_answers
unread_node x old bytes version read = sym (ap (or_refused (rule.WasRefused old) (λ n. rule.after_node x version n n.state)) read)

-- a node that is marked
pub marked : (x : rule.RecoveryArgs) (m : LedgerNode) (version now : ℕ)
    → rule.after_mark x (rule.come_to state.Recovering 0 m) now ≡ rule.recovery_answers x (rule.Marking m version) (answer.One (Version now))
unfolding rule.recovery_answers
marked x m version now = refl

-- a node that is closed
pub closed : (x : rule.RecoveryArgs) (m : LedgerNode) (version count now : ℕ)
    → (rule.IsClosed (rule.come_to state.Closed count m), Done count) ≡ rule.recovery_answers x (rule.Closing m version count) (answer.One (Version now))
unfolding rule.recovery_answers
closed x m version count now = refl

-- a search that has no number left for an entry
pub exhausted : (x : rule.RecoveryArgs) (m : LedgerNode) (version : ℕ) (s : Subject) (move : search.Move) (k : Step) → k ≡ step.Exhausted
    → StepStands s move k → rule.gives_up x (rule.WasRefused (Some m)) ≡ rule.after_move x m version move
exhausted x m version s (search.Exhausted, letters) k e h = refl
exhausted x m version s (search.Ended n, letters) k e h = absurd (subst (StepStands s (search.Ended n, letters)) e h)
exhausted x m version s (search.Fencing answers, letters) k e h = absurd (subst (StepStands s (search.Fencing answers, letters)) e h)
exhausted x m version s (search.Reading a b c, letters) k e h = absurd (subst (StepStands s (search.Reading a b c, letters)) e h)
exhausted x m version s (search.Copying a b c, letters) k e h = absurd (subst (StepStands s (search.Copying a b c, letters)) e h)

-- the bookies that told a count
among_first : (answers : List (ℕ × ℕ)) (b : ℕ) → among (map (λ (a : ℕ × ℕ). a.0) answers) b ≡ has_answered answers b
among_first [] b = refl
among_first (a ∷ answers) b = ap (λ t. a.0 == b || t) (among_first answers b)

-- what a search that fences lacks
pub lacks_cover : (x : rule.RecoveryArgs) (m : LedgerNode) (p : search.Phase) (set greatest : ℕ)
    → PhaseStands (rule.subject_of x m) p (kept.Fencing set greatest) → LacksBy x (Some m) (rule.missing_in p) (lacks.Cover set)
lacks_cover x m (search.Fencing answers) set greatest h =
    record {
      places = λ place below. h.who.places place below
          ∙ sym (among_first answers (slice_index (last_piece (rule.subject_of x m).pieces).members place));
    }
lacks_cover x m (search.Reading a b c) set greatest h = absurd h
lacks_cover x m (search.Copying a b c) set greatest h = absurd h
lacks_cover x m (search.Ended n) set greatest h = absurd h
lacks_cover x m search.Exhausted set greatest h = absurd h
