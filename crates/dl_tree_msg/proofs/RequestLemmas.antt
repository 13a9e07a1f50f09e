-- Requests on the metadata tree are read exactly, for any test of the nodes that may be deleted and set.
use Rattle.std.proofs.Common.{◌≡◌, ℕ, eqb, not, Bool, true, List, [], ◌∷◌, length, Option, refl, ap, arith}
use Rattle.std.proofs.lemmas.Bool.Decides.{nat_tests}
use Rattle.std.specs.List.{AllByRecursion}
use Rattle.std.specs.Int.{w16, w32}
use Rattle.dl_codec.specs.Fields.{field}
use Rattle.dl_fields.specs.Readers.{Exact}
use Rattle.dl_fields.specs.Fields.{number_from, Fits, counted_field, IsCounted}
use Rattle.dl_fields.specs.Lists.{list_bytes}
use Rattle.dl_fields.specs.Paths.{IsPathField, path_from}
use Rattle.dl_fields.proofs.ReaderLemmas.{then_exact, made_exact, with_test_exact}
use Rattle.dl_fields.proofs.FieldLemmas.{u16_exact, run32_exact}
use Rattle.dl_fields.proofs.ListLemmas.{list_exact}
use Rattle.dl_fields.proofs.PathLemmas.{path_exact, stem_exact, exact_as}
use Rattle.dl_types.specs.declared.mode.Mode.{Mode}
use Rattle.dl_types.specs.declared.mode.Mode.TheVariants as mode
use Rattle.dl_types.specs.declared.one_op.OneOp.{OneOp}
use Rattle.dl_types.specs.declared.one_op.OneOp.TheVariants as one
use Rattle.dl_types.specs.declared.meta_op.MetaOp.{MetaOp}
use Rattle.dl_types.specs.declared.meta_op.MetaOp.TheVariants as meta
use Rattle.dl_tree_msg.specs.declared.op_kind.OpKind.{OpKind}
use Rattle.dl_tree_msg.specs.declared.op_kind.OpKind.TheVariants as op
use Rattle.dl_tree_msg.specs.declared.op_kind.RequestKind.{RequestKind}
use Rattle.dl_tree_msg.specs.declared.op_kind.RequestKind.TheVariants as request
use Rattle.dl_tree_msg.specs.Versions.{IsVersion}
use Rattle.dl_tree_msg.specs.declared.rule.PathRule.TheVariants.{All}
use Rattle.dl_tree_msg.specs.Rules.{allows}
use Rattle.dl_tree_msg.specs.Requests.{op_kind, op_rest, op_bytes, IsNewPath, IsOp, IsOpAllowed, request_kind}
use Rattle.dl_tree_msg.specs.Requests.{request_rest, request_bytes, IsOpCount, IsRequest, IsAllowed}
use Rattle.dl_tree_msg.specs.RequestReading.{new_path_from, allowed_path_from, create_from, delete_from, set_from, check_from, get_from}
use Rattle.dl_tree_msg.specs.RequestReading.{children_from, op_rest_from, op_from, op_count_from, ops_from, request_rest_from, request_from}
use Rattle.dl_fields.proofs.KindLemmas.{also_exact, kinded_exact}
use Rattle.dl_tree_msg.proofs.KindLemmas.{op_kind_exact, request_kind_exact, mode_exact, version_exact}

-- ---- one operation

-- an operation that is allowed
abbrev IsOpIn : (List ℕ → Bool) → OneOp → Type 0
IsOpIn t o = IsOp o × IsOpAllowed t o

-- an operation of this kind that is allowed
abbrev IsOpOf : (List ℕ → Bool) → OpKind → OneOp → Type 0
IsOpOf t k o = IsOpIn t o × (op_kind o ≡ k)

-- a path that passes the test
abbrev IsPathIn : (List ℕ → Bool) → List ℕ → Type 0
IsPathIn t path = IsPathField path × (t path ≡ true)

-- the path of a creation
new_path_exact : (m : Mode) → Exact (IsNewPath m) (counted_field w16) (new_path_from m)
new_path_exact mode.Lasting = path_exact
new_path_exact mode.Ephemeral = path_exact
new_path_exact mode.Counted = stem_exact
new_path_exact mode.EphemeralCounted = stem_exact

-- the path of a deletion or a set
allowed_path_exact : (t : List ℕ → Bool) → Exact (IsPathIn t) (counted_field w16) (allowed_path_from t)
allowed_path_exact t = with_test_exact IsPathField (counted_field w16) path_from t path_exact

-- a creation
create_exact : (t : List ℕ → Bool) → Exact (IsOpOf t op.Create) op_rest create_from
create_exact t = made_exact _ _ _ (λ x. one.Create x.1.0 x.1.1 x.0) (IsOpOf t op.Create) op_rest
    (then_exact _ _ _ _ _ _ mode_exact (λ m u. also_exact (new_path_exact m) run32_exact)) (λ x v. (((v.1, tt), refl), refl)) from
  where
    from : (o : OneOp) → IsOpOf t op.Create o
        → (x : Mode × (List ℕ × List ℕ)) × (Unit {0} × (IsNewPath x.0 x.1.0 × IsCounted w32 x.1.1)) × (one.Create x.1.0 x.1.1 x.0 ≡ o)
    from (one.Create path bytes m) w = ((m, (path, bytes)), (tt, w.0.0), refl)
    from _ w = absurd (let e = w.1 in cc)

-- a deletion
delete_exact : (t : List ℕ → Bool) → Exact (IsOpOf t op.Delete) op_rest (delete_from t)
delete_exact t = made_exact _ _ _ (λ x. one.Delete x.0 x.1) (IsOpOf t op.Delete) op_rest
    (also_exact (allowed_path_exact t) version_exact) (λ x v. ((((v.0.0, v.1), v.0.1), refl), refl)) from
  where
    from : (o : OneOp) → IsOpOf t op.Delete o → (x : List ℕ × Option ℕ) × (IsPathIn t x.0 × IsVersion x.1) × (one.Delete x.0 x.1 ≡ o)
    from (one.Delete path version) w = ((path, version), ((w.0.0.0, w.0.1), w.0.0.1), refl)
    from _ w = absurd (let e = w.1 in cc)

-- a set
set_exact : (t : List ℕ → Bool) → Exact (IsOpOf t op.Set) op_rest (set_from t)
set_exact t = made_exact _ _ _ (λ x. one.Set x.0 x.1.0 x.1.1) (IsOpOf t op.Set) op_rest
    (also_exact (allowed_path_exact t) (also_exact run32_exact version_exact)) (λ x v. ((((v.0.0, v.1), v.0.1), refl), refl)) from
  where
    from : (o : OneOp) → IsOpOf t op.Set o
        → (x : List ℕ × (List ℕ × Option ℕ)) × (IsPathIn t x.0 × (IsCounted w32 x.1.0 × IsVersion x.1.1)) × (one.Set x.0 x.1.0 x.1.1 ≡ o)
    from (one.Set path bytes version) w = ((path, (bytes, version)), ((w.0.0.0, w.0.1), w.0.0.1), refl)
    from _ w = absurd (let e = w.1 in cc)

-- a check
check_exact : (t : List ℕ → Bool) → Exact (IsOpOf t op.Check) op_rest check_from
check_exact t = made_exact _ _ _ (λ x. one.Check x.0 x.1) (IsOpOf t op.Check) op_rest (also_exact path_exact version_exact)
    (λ x v. (((v, tt), refl), refl)) from
  where
    from : (o : OneOp) → IsOpOf t op.Check o → (x : List ℕ × Option ℕ) × (IsPathField x.0 × IsVersion x.1) × (one.Check x.0 x.1 ≡ o)
    from (one.Check path version) w = ((path, version), w.0.0, refl)
    from _ w = absurd (let e = w.1 in cc)

-- a look at the bytes
get_exact : (t : List ℕ → Bool) → Exact (IsOpOf t op.Get) op_rest get_from
get_exact t = made_exact _ _ _ one.Get (IsOpOf t op.Get) op_rest path_exact (λ x v. (((v, tt), refl), refl)) from
  where
    from : (o : OneOp) → IsOpOf t op.Get o → (x : List ℕ) × IsPathField x × (one.Get x ≡ o)
    from (one.Get path) w = (path, w.0.0, refl)
    from _ w = absurd (let e = w.1 in cc)

-- a look at the children
children_exact : (t : List ℕ → Bool) → Exact (IsOpOf t op.Children) op_rest children_from
children_exact t = made_exact _ _ _ one.Children (IsOpOf t op.Children) op_rest path_exact (λ x v. (((v, tt), refl), refl)) from
  where
    from : (o : OneOp) → IsOpOf t op.Children o → (x : List ℕ) × IsPathField x × (one.Children x ≡ o)
    from (one.Children path) w = (path, w.0.0, refl)
    from _ w = absurd (let e = w.1 in cc)

-- an operation behind its kind
op_rest_exact : (t : List ℕ → Bool) (k : OpKind) → Exact (IsOpOf t k) op_rest (op_rest_from t k)
op_rest_exact t op.Create = create_exact t
op_rest_exact t op.Delete = delete_exact t
op_rest_exact t op.Set = set_exact t
op_rest_exact t op.Check = check_exact t
op_rest_exact t op.Get = get_exact t
op_rest_exact t op.Children = children_exact t

-- An operation is read exactly.
pub op_exact : (t : List ℕ → Bool) → Exact (IsOpIn t) op_bytes (op_from t)
op_exact t = kinded_exact op_kind (IsOpIn t) op_rest (op_rest_from t) op_kind_exact (op_rest_exact t)

-- ---- a request

-- a count of operations
op_count_exact : Exact IsOpCount (field w16) op_count_from
op_count_exact = exact_as (with_test_exact (Fits w16) (field w16) (number_from w16) (λ n. not (eqb n 0)) u16_exact)
    (λ n v. let t = v.1 in (v.0, grind (arith, nat_tests))) (λ n v. let t = v.1 in (v.0, grind (arith, nat_tests)))

-- what each item has of two properties
both_all : {A : Type 0} (V W : A → Type 0) (xs : List A) → AllByRecursion (λ x. V x × W x) xs → AllByRecursion V xs × AllByRecursion W xs
both_all V W [] all = (tt, tt)
both_all V W (x ∷ xs) all = let more = both_all V W xs all.1 in ((all.0.0, more.0), (all.0.1, more.1))

-- two properties that each item has
all_both : {A : Type 0} (V W : A → Type 0) (xs : List A) → AllByRecursion V xs → AllByRecursion W xs → AllByRecursion (λ x. V x × W x) xs
all_both V W [] v w = tt
all_both V W (x ∷ xs) v w = ((v.0, w.0), all_both V W xs v.1 w.1)

-- operations of a request that are allowed
abbrev AreOpsIn : (List ℕ → Bool) → List OneOp → Type 0
AreOpsIn t ops = IsOpCount (length ops) × AllByRecursion (IsOpIn t) ops

-- operations behind their count are read exactly
ops_exact : (t : List ℕ → Bool) → Exact (AreOpsIn t) (list_bytes w16 op_bytes) (ops_from t)
ops_exact t = list_exact (IsOpIn t) op_bytes (op_from t) (op_exact t) IsOpCount w16 op_count_from op_count_exact

-- a request that is allowed
abbrev pub IsRequestIn : (List ℕ → Bool) → MetaOp → Type 0
IsRequestIn t r = IsRequest r × IsAllowed t r

-- a request of this kind that is allowed
abbrev IsRequestOf : (List ℕ → Bool) → RequestKind → MetaOp → Type 0
IsRequestOf t k r = IsRequestIn t r × (request_kind r ≡ k)

-- what stands behind a kind of request is read exactly
request_rest_exact : (t : List ℕ → Bool) (k : RequestKind) → Exact (IsRequestOf t k) request_rest (request_rest_from t k)
request_rest_exact t (request.One k) =
    made_exact _ _ _ meta.One (IsRequestOf t (request.One k)) request_rest (op_rest_exact t k) (λ o v. ((v.0, ap request.One v.1), refl)) from
  where
    from : (r : MetaOp) → IsRequestOf t (request.One k) r → (o : OneOp) × IsOpOf t k o × (meta.One o ≡ r)
    from (meta.One o) w = (o, (w.0, (let e : request.One (op_kind o) ≡ request.One k = w.1 in cc)), refl)
    from (meta.Multi ops) w = absurd (let e = w.1 in cc)
request_rest_exact t request.Multi = made_exact _ _ _ meta.Multi (IsRequestOf t request.Multi) request_rest (ops_exact t)
    (λ ops v. let all = both_all IsOp (IsOpAllowed t) ops v.1 in ((((v.0, all.0), all.1), refl), refl)) from
  where
    from : (r : MetaOp) → IsRequestOf t request.Multi r → (ops : List OneOp) × AreOpsIn t ops × (meta.Multi ops ≡ r)
    from (meta.One o) w = absurd (let e = w.1 in cc)
    from (meta.Multi ops) w = (ops, (w.0.0.0, all_both IsOp (IsOpAllowed t) ops w.0.0.1 w.0.1), refl)

-- A request is read exactly.
pub request_exact : (t : List ℕ → Bool) → Exact (IsRequestIn t) request_bytes (request_from t)
request_exact t = kinded_exact request_kind (IsRequestIn t) request_rest (request_rest_from t) request_kind_exact (request_rest_exact t)

-- ---- where all nodes may be deleted and set

-- an operation is allowed
op_allowed : (o : OneOp) → IsOpAllowed (allows All) o
op_allowed (one.Create path bytes m) = tt
op_allowed (one.Delete path version) = refl
op_allowed (one.Set path bytes version) = refl
op_allowed (one.Check path version) = tt
op_allowed (one.Get path) = tt
op_allowed (one.Children path) = tt

-- operations are allowed
ops_allowed : (ops : List OneOp) → AllByRecursion (IsOpAllowed (allows All)) ops
ops_allowed [] = tt
ops_allowed (o ∷ ops) = (op_allowed o, ops_allowed ops)

-- Each request is allowed.
pub all_allowed : (r : MetaOp) → IsAllowed (allows All) r
all_allowed (meta.One o) = op_allowed o
all_allowed (meta.Multi ops) = ops_allowed ops
