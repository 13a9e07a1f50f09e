-- What each request leaves, by its kind.
use Rattle.std.proofs.Common.{◌≡◌, ℕ, List, [], ◌∷◌, None, Ok, Err, refl, sym, subst}
use Rattle.dl_types.specs.declared.one_op.OneOp.{OneOp}
use Rattle.dl_types.specs.declared.one_op.OneOp.TheVariants.{Delete}
use Rattle.dl_types.specs.declared.meta_op.MetaOp.{MetaOp}
use Rattle.dl_types.specs.declared.meta_op.MetaOp.TheVariants as op
use Rattle.dl_types.specs.declared.one_answer.OneAnswer.{OneAnswer}
use Rattle.dl_types.specs.declared.meta_answer.MetaAnswer.TheVariants as answer
use Rattle.dl_tree.specs.Trees.{Nodes, Outcome, Run, outcome_of, run_of, after_request, after_one, after_all}
use Rattle.dl_formats.specs.declared.ledger.LedgerState.TheVariants.{Recovering, Closed}
use Rattle.dl_formats.specs.Keys.{MaxSeq, Cut, Alloc, Ledger, Locks, Segs}
use Rattle.dl_rules_stream.specs.Requests.{Request, MakeStream, MakeAgain, RemoveStream, MakeMember, ListMembers, LeaveLock, Look, MakeLedger, TakeLedger}
use Rattle.dl_rules_stream.specs.Requests.{StartSegment, GetSegment, GetLedger, MarkLedger, CloseLedger, CompleteSegment, ListCut, LookCut, SetCut}
use Rattle.dl_rules_stream.specs.Requests.{DropSegment, ledger_node, segment_key, op_of}
use Rattle.dl_law_meta.specs.Effects.{ChildrenOf, ContentOf, answer_to, tree_after, Leaves, LeavesBy}
use Rattle.dl_law_meta.specs.Laws.{EachRequestLeaves}
use Rattle.dl_law_meta.proofs.Told.{several_read, single_read}
use Rattle.dl_law_meta.proofs.Streams.{stream_made, stream_made_again, stream_removed, member_made, member_left, cut_set}
use Rattle.dl_law_meta.proofs.Ledgers.{ledger_made, ledger_set, ledger_taken}
use Rattle.dl_law_meta.proofs.Segments.{segment_started, segment_completed, segment_dropped}

-- what a request of several operations leaves, by what they leave when they are done
several_leave : (t : Nodes) (session : ℕ) (r : Request) (ops : List OneOp) → op_of r ≡ op.Multi ops
    → ((x : List OneAnswer × Nodes) → run_of t session 0 ops ≡ Ok x → Leaves t session r (answer.Many x.0) x.1)
    → LeavesBy t session r (answer_to t session r) (tree_after t session r)
unfolding after_request
several_leave t session r ops is each =
    subst (λ (o : MetaOp). LeavesBy t session r (after_request t session o).0 (after_request t session o).1) (sym is) (go (run_of t session 0 ops) refl)
  where
    go : (o : Run) → run_of t session 0 ops ≡ o → LeavesBy t session r (after_all t o).0 (after_all t o).1
    go (Ok x) k = each x k
    go (Err w) k = refl

-- the same of a request of one operation
one_leaves : (t : Nodes) (session : ℕ) (r : Request) (x : OneOp) → op_of r ≡ op.One x
    → ((a : OneAnswer × Nodes) → outcome_of t session x ≡ Ok a → Leaves t session r (answer.One a.0) a.1)
    → LeavesBy t session r (answer_to t session r) (tree_after t session r)
unfolding after_request
one_leaves t session r x is each =
    subst (λ (o : MetaOp). LeavesBy t session r (after_request t session o).0 (after_request t session o).1) (sym is) (go (outcome_of t session x) refl)
  where
    go : (o : Outcome) → outcome_of t session x ≡ o → LeavesBy t session r (after_one t o).0 (after_one t o).1
    go (Ok a) k = each a k
    go (Err w) k = refl

-- what each request leaves
pub each_leaves : EachRequestLeaves
unfolding op_of
each_leaves t session (MakeStream s) h = several_leave t session (MakeStream s) _ refl (λ x e. stream_made t session s x h e)
each_leaves t session (MakeAgain s) h = several_leave t session (MakeAgain s) _ refl (λ x e. stream_made_again t session s x h e)
each_leaves t session (RemoveStream s) h = several_leave t session (RemoveStream s) _ refl (λ x e. stream_removed t session s x h e)
each_leaves t session (MakeMember s) h = one_leaves t session (MakeMember s) _ refl (λ a e. member_made t session s a h e)
each_leaves t session (ListMembers s) h = one_leaves t session (ListMembers s) _ refl (λ a e. single_read t session (ChildrenOf (Locks s)) a e)
each_leaves t session (LeaveLock member) h =
    one_leaves t session (LeaveLock member) _ refl
    (λ a e s n key path. member_left t session s n a key (subst (λ (p : List ℕ). outcome_of t session (Delete p None) ≡ Ok a) path e))
each_leaves t session (Look s) h =
    several_leave t session (Look s) _ refl (λ x e. several_read t session (ChildrenOf (Segs s) ∷ ContentOf (MaxSeq s) ∷ ContentOf (Alloc s) ∷ []) x e)
each_leaves t session (MakeLedger q) h = one_leaves t session (MakeLedger q) _ refl (λ a e. ledger_made t session q a e)
each_leaves t session (TakeLedger s member old version ledger) h =
    several_leave t session (TakeLedger s member old version ledger) _ refl (λ x e. ledger_taken t session s member old version ledger x h.0 h.1 e)
each_leaves t session (StartSegment b) h = several_leave t session (StartSegment b) _ refl (λ x e. segment_started t session b x h e)
each_leaves t session (GetSegment s segment) h =
    one_leaves t session (GetSegment s segment) _ refl (λ a e. single_read t session (ContentOf (segment_key s segment)) a e)
each_leaves t session (GetLedger ledger) h = one_leaves t session (GetLedger ledger) _ refl (λ a e. single_read t session (ContentOf (Ledger ledger)) a e)
each_leaves t session (MarkLedger ledger q version) h =
    one_leaves t session (MarkLedger ledger q version) _ refl (λ a e. ledger_set t session ledger version (ledger_node Recovering q 0) a h e)
each_leaves t session (CloseLedger ledger q count version) h =
    one_leaves t session (CloseLedger ledger q count version) _ refl (λ a e. ledger_set t session ledger version (ledger_node Closed q count) a h e)
each_leaves t session (CompleteSegment c) h = several_leave t session (CompleteSegment c) _ refl (λ x e. segment_completed t session c x h e)
each_leaves t session (ListCut s) h =
    several_leave t session (ListCut s) _ refl (λ x e. several_read t session (ChildrenOf (Segs s) ∷ ContentOf (Cut s) ∷ []) x e)
each_leaves t session (LookCut s) h =
    several_leave t session (LookCut s) _ refl (λ x e. several_read t session (ChildrenOf (Segs s) ∷ ContentOf (Cut s) ∷ ContentOf (MaxSeq s) ∷ []) x e)
each_leaves t session (SetCut s point version) h = one_leaves t session (SetCut s point version) _ refl (λ a e. cut_set t session s point version a h e)
each_leaves t session (DropSegment s segment ledger) h =
    several_leave t session (DropSegment s segment ledger) _ refl (λ x e. segment_dropped t session s segment ledger x h.0 h.1.1 h.2 e)
