-- The metadata tree: a finite map from paths to nodes, and what each operation answers and leaves.
use Rattle.std.specs.Prelude.{ℕ, ◌+◌, ◌-◌, ◌^◌, Bool, true, false, if◌then◌else◌, not, ◌&&◌, ◌==◌, nat_le, ◌≤◌, List, []}
use Rattle.std.specs.Prelude.{◌∷◌, ◌++◌, length, map, filter, Option, Some, None, is_some, Result, Ok, Err, bytes_eq}
use Rattle.std.specs.FinMap.{FinMap, empty, get, insert, remove, retain_keys, keys}
use Rattle.std.specs.Cmp.Lexicographic.{slice_cmp}
use Rattle.std.specs.Ordering.{nat_cmp}
use Rattle.dl_types.specs.declared.mode.Mode.{Mode}
use Rattle.dl_types.specs.declared.mode.Mode.TheVariants.{Lasting, Ephemeral, Counted, EphemeralCounted}
use Rattle.dl_types.specs.declared.one_op.OneOp.{OneOp}
use Rattle.dl_types.specs.declared.one_op.OneOp.TheVariants.{Create, Delete, Set, Check, Get, Children}
use Rattle.dl_types.specs.declared.meta_op.MetaOp.{MetaOp}
use Rattle.dl_types.specs.declared.meta_op.MetaOp.TheVariants as op
use Rattle.dl_types.specs.declared.one_answer.OneAnswer.{OneAnswer}
use Rattle.dl_types.specs.declared.one_answer.OneAnswer.TheVariants.{Made, Done, Version, Bytes, Names}
use Rattle.dl_types.specs.declared.meta_answer.MetaAnswer.{MetaAnswer}
use Rattle.dl_types.specs.declared.meta_answer.MetaAnswer.TheVariants as answer
use Rattle.dl_types.specs.declared.why.Why.{Why}
use Rattle.dl_types.specs.declared.why.Why.TheVariants.{NoNode, NodeExists, BadVersion, NotEmpty, EphemeralParent, Spent}
use Rattle.dl_tree.specs.declared.node.Node.{Node}
use Rattle.dl_fields.specs.Digits.{digits}
use Rattle.dl_tree.specs.Paths.{root, parent_of, name_of, is_child}

-- a finite map from paths, in byte order, to nodes
abbrev pub Nodes : Type 0
Nodes = FinMap (slice_cmp nat_cmp) Node

-- a node of these fields
abbrev pub node : List ℕ → ℕ → Option ℕ → ℕ → Node
node bytes version owner counter = record { bytes = bytes; version = version; owner = owner; counter = counter }

-- the root alone
abbrev pub root_alone : Nodes
root_alone = insert empty root (node [] 0 None 0)

-- the paths of a node's children, in byte order
abbrev pub children : Nodes → List ℕ → List (List ℕ)
children t path = filter (is_child path) (keys t)

-- the names of a node's children, in byte order
abbrev pub child_names : Nodes → List ℕ → List (List ℕ)
child_names t path = map name_of (children t path)

-- whether a mode adds the parent's counter to the name
abbrev pub is_counted : Mode → Bool
is_counted Lasting = false
is_counted Ephemeral = false
is_counted Counted = true
is_counted EphemeralCounted = true

-- who owns a node that a session makes in a mode
abbrev pub owner_of : Mode → ℕ → Option ℕ
owner_of Lasting session = None
owner_of Ephemeral session = Some session
owner_of Counted session = None
owner_of EphemeralCounted session = Some session

-- an answer with the tree that is left, or why there is none
abbrev pub Outcome : Type 0
Outcome = Result (OneAnswer × Nodes) Why

-- whether a version that may be named is the node's
abbrev pub fits : Option ℕ → Node → Bool
fits None n = true
fits (Some v) n = v == n.version

-- the path that a creation makes
abbrev pub made_path : List ℕ → Mode → Node → List ℕ
made_path path mode parent = if is_counted mode then path ++ digits 10 parent.counter else path

-- the parent after a creation: a counted one raises its counter
abbrev pub parent_after : Mode → Node → Node
parent_after mode parent = record parent { counter = if is_counted mode then parent.counter + 1 else parent.counter }

-- a new node
abbrev pub new_node : List ℕ → Mode → ℕ → Node
new_node bytes mode session = node bytes 0 (owner_of mode session) 0

-- a creation below a parent that is there
unfoldable pub child_outcome : Nodes → ℕ → List ℕ → List ℕ → Mode → Node → Outcome
child_outcome t session path bytes mode parent =
    if is_some parent.owner then Err EphemeralParent
    else (if is_counted mode && nat_le (10 ^ 10) parent.counter then Err Spent
    else (if is_some (get t (made_path path mode parent)) then Err NodeExists
    else Ok (
      Made (made_path path mode parent),
      insert (insert t (parent_of path) (parent_after mode parent)) (made_path path mode parent) (new_node bytes mode session),
    )))

-- the parent of a node to be made; the root has none, but a name that is counted at the root has the root
abbrev pub parent_in : Nodes → List ℕ → Mode → Option Node
parent_in t path mode = if bytes_eq path root && not (is_counted mode) then None else get t (parent_of path)

-- a creation, below the parent that is there or not
abbrev pub create_outcome : Nodes → ℕ → List ℕ → List ℕ → Mode → Option Node → Outcome
create_outcome t session path bytes mode None = Err NoNode
create_outcome t session path bytes mode (Some parent) = child_outcome t session path bytes mode parent

-- a deletion; the root is never deleted
abbrev pub delete_outcome : Nodes → List ℕ → Option ℕ → Option Node → Outcome
delete_outcome t path version None = Err NoNode
delete_outcome t path version (Some n) =
    if bytes_eq path root then Err (NotEmpty (length (child_names t path)))
    else (if not (fits version n) then Err (BadVersion n.version)
    else (if not (length (child_names t path) == 0) then Err (NotEmpty (length (child_names t path)))
    else Ok (Done, remove t path)))

-- a set of the node that is there or not: its version rises by one
abbrev pub set_outcome : Nodes → List ℕ → List ℕ → Option ℕ → Option Node → Outcome
set_outcome t path bytes version None = Err NoNode
set_outcome t path bytes version (Some n) =
    if not (fits version n) then Err (BadVersion n.version)
    else (if n.version == 2 ^ 64 - 1 then Err Spent
    else Ok (Version (n.version + 1), insert t path (record n { bytes = bytes; version = n.version + 1 })))

-- a check of the version of the node that is there or not
abbrev pub check_outcome : Nodes → Option ℕ → Option Node → Outcome
check_outcome t version None = Err NoNode
check_outcome t version (Some n) = if fits version n then Ok (Done, t) else Err (BadVersion n.version)

-- a read of the bytes and the version of the node that is there or not
abbrev pub get_outcome : Nodes → Option Node → Outcome
get_outcome t None = Err NoNode
get_outcome t (Some n) = Ok (Bytes n.bytes n.version, t)

-- a listing of the names of the children of the node that is there or not
abbrev pub children_outcome : Nodes → List ℕ → Option Node → Outcome
children_outcome t path None = Err NoNode
children_outcome t path (Some n) = Ok (Names (child_names t path), t)

-- one operation of a session, the first row that holds
unfoldable pub outcome_of : Nodes → ℕ → OneOp → Outcome
outcome_of t session (Create path bytes mode) = create_outcome t session path bytes mode (parent_in t path mode)
outcome_of t session (Delete path version) = delete_outcome t path version (get t path)
outcome_of t session (Set path bytes version) = set_outcome t path bytes version (get t path)
outcome_of t session (Check path version) = check_outcome t version (get t path)
outcome_of t session (Get path) = get_outcome t (get t path)
outcome_of t session (Children path) = children_outcome t path (get t path)

-- all answers and the last tree, or the place and the reason of the first failure
abbrev pub Run : Type 0
Run = Result (List OneAnswer × Nodes) (ℕ × Why)

-- a run with one answer before its answers; a failure is the same
abbrev pub with_front : OneAnswer → Run → Run
with_front a (Ok r) = Ok (a ∷ r.0, r.1)
with_front a (Err e) = Err e

-- an operation and the rest of its run: a failure names the operation's place, and ends the run
abbrev pub then_rest : Outcome → ℕ → (Nodes → Run) → Run
then_rest (Ok r) place rest = with_front r.0 (rest r.1)
then_rest (Err why) place rest = Err (place, why)

-- operations in order, each on the tree that the earlier ones leave
unfoldable pub run_of : Nodes → ℕ → ℕ → List OneOp → Run
run_of t session place [] = Ok ([], t)
run_of t session place (x ∷ xs) = then_rest (outcome_of t session x) place (λ next. run_of next session (place + 1) xs)

-- what a request of one operation answers and leaves; a failure leaves the tree before
abbrev pub after_one : Nodes → Outcome → MetaAnswer × Nodes
after_one t (Ok r) = (answer.One r.0, r.1)
after_one t (Err why) = (answer.Failed 0 why, t)

-- what a request of many operations answers and leaves; a failure leaves the tree before
abbrev pub after_all : Nodes → Run → MetaAnswer × Nodes
after_all t (Ok r) = (answer.Many r.0, r.1)
after_all t (Err e) = (answer.Failed e.0 e.1, t)

-- a request: its answer, and the tree that it leaves; after a failure that is the tree before
unfoldable pub after_request : Nodes → ℕ → MetaOp → MetaAnswer × Nodes
after_request t session (op.One x) = after_one t (outcome_of t session x)
after_request t session (op.Multi ops) = after_all t (run_of t session 0 ops)

-- a request has no more operations than there are places
abbrev pub HasPlaces : MetaOp → Type 0
HasPlaces (op.One x) = Unit {0}
HasPlaces (op.Multi ops) = length ops ≤ 65535

-- whether a session is the owner that a node has or lacks
abbrev pub is_owner : ℕ → Option ℕ → Bool
is_owner session None = false
is_owner session (Some k) = k == session

-- whether a node is there and a session owns it
abbrev pub is_owned : ℕ → Option Node → Bool
is_owned session None = false
is_owned session (Some n) = is_owner session n.owner

-- a session's end takes its ephemeral nodes, as one change
unfoldable pub without_session : Nodes → ℕ → Nodes
without_session t session = retain_keys t (λ path. not (is_owned session (get t path)))
