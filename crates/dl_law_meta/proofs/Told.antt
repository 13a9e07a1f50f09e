-- What requests that only read tell.
use Rattle.std.proofs.Common.{◌≡◌, ℕ, ◌+◌, List, [], ◌∷◌, map, Option, Some, None, Ok, refl, sym, ap, subst}
use Rattle.dl_types.specs.declared.one_op.OneOp.{OneOp}
use Rattle.dl_types.specs.declared.one_op.OneOp.TheVariants.{Get, Children}
use Rattle.dl_types.specs.declared.one_answer.OneAnswer.{OneAnswer}
use Rattle.dl_types.specs.declared.one_answer.OneAnswer.TheVariants.{Bytes, Names}
use Rattle.dl_types.specs.declared.meta_answer.MetaAnswer.TheVariants as answer
use Rattle.dl_tree.specs.declared.node.Node.{Node}
use Rattle.dl_tree.specs.Trees.{Nodes, Outcome, get_outcome, children_outcome, child_names, outcome_of, run_of}
use Rattle.dl_formats.specs.Keys.{Key, path_of}
use Rattle.dl_law_meta.specs.Keyed.{node}
use Rattle.dl_law_meta.specs.Effects.{Reading, ChildrenOf, ContentOf, Tells, TellAll, OnlyReads}
use Rattle.dl_law_meta.proofs.Done.{goes_told, none_told}

-- the operation that reads
abbrev pub reads : Reading → OneOp
reads (ChildrenOf k) = Children (path_of k)
reads (ContentOf k) = Get (path_of k)

-- outcomes that are the same have the same value
same_ok : (x y : OneAnswer × Nodes) → ◌≡◌ {A = Outcome} (Ok x) (Ok y) → y ≡ x
same_ok x y e = cc

-- a reading that succeeded
abbrev Reads : Nodes → Reading → OneAnswer × Nodes → Type 0
Reads t x a = Tells t x a.0 × (a.1 ≡ t)

-- a get that is done has read the node
content_by : (t : Nodes) (k : Key) (a : OneAnswer × Nodes) (o : Option Node) → node t k ≡ o → get_outcome t o ≡ Ok a → Reads t (ContentOf k) a
content_by t k a None is e = absurd (cc)
content_by t k a (Some n) is e =
    let same = same_ok (Bytes n.bytes n.version, t) a e in ((n, is, ap (λ (x : OneAnswer × Nodes). x.0) same), ap (λ (x : OneAnswer × Nodes). x.1) same)

-- a listing that is done has read the names of the children
children_by : (t : Nodes) (k : Key) (a : OneAnswer × Nodes) (o : Option Node) → children_outcome t (path_of k) o ≡ Ok a → Reads t (ChildrenOf k) a
children_by t k a None e = absurd (cc)
children_by t k a (Some n) e =
    let same = same_ok (Names (child_names t (path_of k)), t) a e in (ap (λ (x : OneAnswer × Nodes). x.0) same, ap (λ (x : OneAnswer × Nodes). x.1) same)

-- an operation that reads and is done has read what it asks for
one_reads : (t : Nodes) (session : ℕ) (x : Reading) (a : OneAnswer × Nodes) → outcome_of t session (reads x) ≡ Ok a → Reads t x a
unfolding outcome_of
one_reads t session (ChildrenOf k) a e = children_by t k a (node t k) e
one_reads t session (ContentOf k) a e = content_by t k a (node t k) refl e

-- operations that read have each read what it asks for, and leave the tree
abbrev ReadAll : Nodes → List Reading → List OneAnswer × Nodes → Type 0
ReadAll t xs r = TellAll t xs r.0 × (r.1 ≡ t)

-- operations that read and are done have each read what it asks for
all_read : (t : Nodes) (session place : ℕ) (xs : List Reading) (r : List OneAnswer × Nodes) → run_of t session place (map reads xs) ≡ Ok r → ReadAll t xs r
all_read t session place [] r e = subst (ReadAll t []) (sym (none_told t session place r e)) (tt, refl)
all_read t session place (x ∷ xs) r e =
    let g = goes_told (Reads t x) t session place (reads x) (map reads xs) r (one_reads t session x) e in
    let rest = all_read t session (place + 1) xs g.others (subst (λ (u : Nodes). run_of u session (place + 1) (map reads xs) ≡ Ok g.others) g.met.1 g.rest) in
    subst (ReadAll t (x ∷ xs)) (sym g.is) ((g.met.0, rest.0), rest.1)

-- a request of several readings leaves the tree, and answers what stands there
pub several_read : (t : Nodes) (session : ℕ) (xs : List Reading) (r : List OneAnswer × Nodes) → run_of t session 0 (map reads xs) ≡ Ok r
    → OnlyReads t r.1 (answer.Many r.0) xs
several_read t session xs r e = let a = all_read t session 0 xs r e in record { same = a.1; told = a.0 }

-- the same of a request of one reading
pub single_read : (t : Nodes) (session : ℕ) (x : Reading) (a : OneAnswer × Nodes) → outcome_of t session (reads x) ≡ Ok a
    → OnlyReads t a.1 (answer.One a.0) (x ∷ [])
single_read t session x a e = let r = one_reads t session x a e in record { same = r.1; told = (r.0, tt) }
