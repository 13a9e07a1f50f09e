-- Reading requests on the metadata tree. A test says which nodes may be deleted and set.
use Rattle.std.specs.Prelude.{ℕ, Bool, not, ◌==◌, List, Result}
use Rattle.std.specs.Int.{w16, w32}
use Rattle.dl_types.specs.declared.mode.Mode.{Mode}
use Rattle.dl_types.specs.declared.mode.Mode.TheVariants as mode
use Rattle.dl_types.specs.declared.one_op.OneOp.{OneOp}
use Rattle.dl_types.specs.declared.one_op.OneOp.TheVariants as one
use Rattle.dl_types.specs.declared.meta_op.MetaOp.{MetaOp}
use Rattle.dl_types.specs.declared.meta_op.MetaOp.TheVariants as meta
use Rattle.dl_fields.specs.declared.fault.Fault.{Fault}
use Rattle.dl_fields.specs.Readers.{then_at, map_at, with_test}
use Rattle.dl_fields.specs.Fields.{number_from, counted_field_from}
use Rattle.dl_fields.specs.Codes.{code_from}
use Rattle.dl_fields.specs.Lists.{list_from}
use Rattle.dl_fields.specs.Paths.{path_from, stem_from}
use Rattle.dl_tree_msg.specs.declared.op_kind.OpKind.{OpKind}
use Rattle.dl_tree_msg.specs.declared.op_kind.OpKind.TheVariants as op
use Rattle.dl_tree_msg.specs.declared.op_kind.RequestKind.{RequestKind}
use Rattle.dl_tree_msg.specs.declared.op_kind.RequestKind.TheVariants as request
use Rattle.dl_tree_msg.specs.Kinds.{op_code, op_kinds, request_code, request_kinds, mode_field_code, mode_fields}
use Rattle.dl_tree_msg.specs.Versions.{version_from}

-- ---- one operation

-- the mode of a creation
abbrev pub mode_from : List ℕ → Result (Mode × List ℕ) Fault
mode_from = map_at (λ field. field.mode) (code_from mode_field_code mode_fields)

-- the path of a node to be made: with a counted mode it has room for ten digits
abbrev pub new_path_from : Mode → List ℕ → Result (List ℕ × List ℕ) Fault
new_path_from mode.Lasting = path_from
new_path_from mode.Ephemeral = path_from
new_path_from mode.Counted = stem_from
new_path_from mode.EphemeralCounted = stem_from

-- the path of a node to be deleted or set; one that fails the test is bad at the first byte of its length
abbrev pub allowed_path_from : (List ℕ → Bool) → List ℕ → Result (List ℕ × List ℕ) Fault
allowed_path_from allowed = with_test allowed path_from

-- a creation
abbrev pub create_from : List ℕ → Result (OneOp × List ℕ) Fault
create_from = map_at (λ (mode, (path, bytes)). one.Create path bytes mode)
    (then_at mode_from (λ m. then_at (new_path_from m) (λ path. counted_field_from w32)))

-- a deletion
abbrev pub delete_from : (List ℕ → Bool) → List ℕ → Result (OneOp × List ℕ) Fault
delete_from allowed = map_at (λ (path, version). one.Delete path version)
    (then_at (allowed_path_from allowed) (λ path. version_from))

-- a set
abbrev pub set_from : (List ℕ → Bool) → List ℕ → Result (OneOp × List ℕ) Fault
set_from allowed = map_at (λ (path, (bytes, version)). one.Set path bytes version)
    (then_at (allowed_path_from allowed) (λ path. then_at (counted_field_from w32) (λ bytes. version_from)))

-- a check
abbrev pub check_from : List ℕ → Result (OneOp × List ℕ) Fault
check_from = map_at (λ (path, version). one.Check path version) (then_at path_from (λ path. version_from))

-- a look at the bytes
abbrev pub get_from : List ℕ → Result (OneOp × List ℕ) Fault
get_from = map_at one.Get path_from

-- a look at the children
abbrev pub children_from : List ℕ → Result (OneOp × List ℕ) Fault
children_from = map_at one.Children path_from

-- an operation behind its kind
abbrev pub op_rest_from : (List ℕ → Bool) → OpKind → List ℕ → Result (OneOp × List ℕ) Fault
op_rest_from allowed op.Create = create_from
op_rest_from allowed op.Delete = delete_from allowed
op_rest_from allowed op.Set = set_from allowed
op_rest_from allowed op.Check = check_from
op_rest_from allowed op.Get = get_from
op_rest_from allowed op.Children = children_from

-- an operation
abbrev pub op_from : (List ℕ → Bool) → List ℕ → Result (OneOp × List ℕ) Fault
op_from allowed = map_at (λ (kind, op). op) (then_at (code_from op_code op_kinds) (op_rest_from allowed))

-- ---- a request: one operation, or several

-- a count of operations: at least one
abbrev pub op_count_from : List ℕ → Result (ℕ × List ℕ) Fault
op_count_from = with_test (λ n. not (n == 0)) (number_from w16)

-- operations behind their count
abbrev pub ops_from : (List ℕ → Bool) → List ℕ → Result (List OneOp × List ℕ) Fault
ops_from allowed = list_from op_count_from (op_from allowed)

-- a request behind its kind
abbrev pub request_rest_from : (List ℕ → Bool) → RequestKind → List ℕ → Result (MetaOp × List ℕ) Fault
request_rest_from allowed (request.One k) = map_at meta.One (op_rest_from allowed k)
request_rest_from allowed request.Multi = map_at meta.Multi (ops_from allowed)

-- a request
abbrev pub request_from : (List ℕ → Bool) → List ℕ → Result (MetaOp × List ℕ) Fault
request_from allowed =
    map_at (λ (kind, request). request) (then_at (code_from request_code request_kinds) (request_rest_from allowed))
