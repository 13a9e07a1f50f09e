-- What holds of each request on the tree.
use Rattle.std.specs.Prelude.{◌≡◌, ℕ, ◌+◌, ◌≤◌, List, Some, Ok, false, Option}
use Rattle.std.specs.FinMap.{get}
use Rattle.dl_types.specs.declared.one_op.OneOp.{OneOp}
use Rattle.dl_types.specs.declared.one_op.OneOp.TheVariants.{Set}
use Rattle.dl_types.specs.declared.one_answer.OneAnswer.{OneAnswer}
use Rattle.dl_types.specs.declared.meta_op.MetaOp.{MetaOp}
use Rattle.dl_types.specs.declared.why.Why.{Why}
use Rattle.dl_types.specs.declared.meta_answer.MetaAnswer.TheVariants as answer
use Rattle.dl_tree.specs.declared.node.Node.{Node}
use Rattle.dl_tree.specs.Trees.{Nodes, outcome_of, after_request, is_owned, without_session}

-- a request that fails changes nothing
abbrev pub FailedIsNothing : Type 0
FailedIsNothing =
    (t : Nodes) (session place : ℕ) (op : MetaOp) (why : Why) → (after_request t session op).0 ≡ answer.Failed place why → (after_request t session op).1 ≡ t

-- a node that was set: its version is one more, and owner and counter stay
abbrev pub set_node : List ℕ → Node → Node
set_node bytes n = record n { bytes = bytes; version = n.version + 1 }

-- a set raises the version of its node by one, and changes no other node
abbrev pub SetRaisesByOne : Type 0
SetRaisesByOne =
    (t : Nodes) (session : ℕ) (path bytes : List ℕ) (version : Option ℕ) (r : OneAnswer × Nodes) → outcome_of t session (Set path bytes version) ≡ Ok r
    → (n : Node) × (get t path ≡ Some n) × (get r.1 path ≡ Some (set_node bytes n)) × ((q : List ℕ) → (q ≡ path → ⊥) → get r.1 q ≡ get t q)

-- while a node stays, its owner stays, and neither its version nor its counter falls
abbrev pub OwnerStays : Type 0
OwnerStays =
    (t : Nodes) (session : ℕ) (x : OneOp) (r : OneAnswer × Nodes) (q : List ℕ) (n m : Node) → outcome_of t session x ≡ Ok r → get t q ≡ Some n
    → get r.1 q ≡ Some m
    → (m.owner ≡ n.owner) × (n.version ≤ m.version) × (n.counter ≤ m.counter)

-- a session owns no node
abbrev pub OwnsNone : Nodes → ℕ → Type 0
OwnsNone t session = (q : List ℕ) → is_owned session (get t q) ≡ false

-- a session that ended owns no node, and requests of other sessions, and their ends, leave it so
abbrev pub EndedOwnsNone : Type 0
EndedOwnsNone = ((t : Nodes) (session : ℕ) → OwnsNone (without_session t session) session)
    × ((t : Nodes) (session other : ℕ) (op : MetaOp) → (session ≡ other → ⊥) → OwnsNone t session → OwnsNone (after_request t other op).1 session)
    × ((t : Nodes) (session other : ℕ) → OwnsNone t session → OwnsNone (without_session t other) session)
