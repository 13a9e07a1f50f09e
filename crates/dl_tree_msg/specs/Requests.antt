-- Operations on the metadata tree: the one spelling of each, and which have one.
use Rattle.std.specs.Prelude.{◌≡◌, ℕ, ◌<◌, Bool, true, List, ◌++◌, length}
use Rattle.std.specs.List.{AllByRecursion}
use Rattle.std.specs.Int.{w16, w32}
use Rattle.dl_types.specs.declared.mode.Mode.{Mode}
use Rattle.dl_types.specs.declared.mode.Mode.TheVariants as mode
use Rattle.dl_types.specs.declared.one_op.OneOp.{OneOp}
use Rattle.dl_types.specs.declared.one_op.OneOp.TheVariants as one
use Rattle.dl_types.specs.declared.meta_op.MetaOp.{MetaOp}
use Rattle.dl_types.specs.declared.meta_op.MetaOp.TheVariants as meta
use Rattle.dl_fields.specs.Fields.{Fits, counted_field, IsCounted}
use Rattle.dl_fields.specs.Codes.{code_byte}
use Rattle.dl_fields.specs.Lists.{list_bytes}
use Rattle.dl_fields.specs.Paths.{IsPathField, IsStemField}
use Rattle.dl_tree_msg.specs.declared.op_kind.OpKind.{OpKind}
use Rattle.dl_tree_msg.specs.declared.op_kind.OpKind.TheVariants as op
use Rattle.dl_tree_msg.specs.declared.op_kind.RequestKind.{RequestKind}
use Rattle.dl_tree_msg.specs.declared.op_kind.RequestKind.TheVariants as request
use Rattle.dl_tree_msg.specs.Kinds.{op_code, request_code, mode_field_code, mode_field}
use Rattle.dl_tree_msg.specs.Versions.{version_bytes, IsVersion}

-- ---- one operation

-- the kind of an operation
abbrev pub op_kind : OneOp → OpKind
op_kind (one.Create path bytes m) = op.Create
op_kind (one.Delete path version) = op.Delete
op_kind (one.Set path bytes version) = op.Set
op_kind (one.Check path version) = op.Check
op_kind (one.Get path) = op.Get
op_kind (one.Children path) = op.Children

-- an operation behind its kind
abbrev pub op_rest : OneOp → List ℕ
op_rest (one.Create path bytes m) = code_byte mode_field_code (mode_field m) ++ (counted_field w16 path ++ counted_field w32 bytes)
op_rest (one.Delete path version) = counted_field w16 path ++ version_bytes version
op_rest (one.Set path bytes version) = counted_field w16 path ++ (counted_field w32 bytes ++ version_bytes version)
op_rest (one.Check path version) = counted_field w16 path ++ version_bytes version
op_rest (one.Get path) = counted_field w16 path
op_rest (one.Children path) = counted_field w16 path

-- the spelling of an operation
abbrev pub op_bytes : OneOp → List ℕ
op_bytes o = code_byte op_code (op_kind o) ++ op_rest o

-- the path of a node to be made: with a counted mode it has room for ten digits
abbrev pub IsNewPath : Mode → List ℕ → Type 0
IsNewPath mode.Lasting path = IsPathField path
IsNewPath mode.Ephemeral path = IsPathField path
IsNewPath mode.Counted path = IsStemField path
IsNewPath mode.EphemeralCounted path = IsStemField path

-- the operations that have a spelling
abbrev pub IsOp : OneOp → Type 0
IsOp (one.Create path bytes m) = IsNewPath m path × IsCounted w32 bytes
IsOp (one.Delete path version) = IsPathField path × IsVersion version
IsOp (one.Set path bytes version) = IsPathField path × (IsCounted w32 bytes × IsVersion version)
IsOp (one.Check path version) = IsPathField path × IsVersion version
IsOp (one.Get path) = IsPathField path
IsOp (one.Children path) = IsPathField path

-- the operation deletes or sets no node but one whose path passes the test
abbrev pub IsOpAllowed : (List ℕ → Bool) → OneOp → Type 0
IsOpAllowed allowed (one.Delete path version) = allowed path ≡ true
IsOpAllowed allowed (one.Set path bytes version) = allowed path ≡ true
IsOpAllowed allowed o = Unit {0}

-- ---- a request: one operation, or several

-- the kind of a request
abbrev pub request_kind : MetaOp → RequestKind
request_kind (meta.One o) = request.One (op_kind o)
request_kind (meta.Multi ops) = request.Multi

-- a request behind its kind
abbrev pub request_rest : MetaOp → List ℕ
request_rest (meta.One o) = op_rest o
request_rest (meta.Multi ops) = list_bytes w16 op_bytes ops

-- the spelling of a request
abbrev pub request_bytes : MetaOp → List ℕ
request_bytes request = code_byte request_code (request_kind request) ++ request_rest request

-- a count of operations: 1 to 65,535
abbrev pub IsOpCount : ℕ → Type 0
IsOpCount n = Fits w16 n × (0 < n)

-- the requests that have a spelling
abbrev pub IsRequest : MetaOp → Type 0
IsRequest (meta.One o) = IsOp o
IsRequest (meta.Multi ops) = IsOpCount (length ops) × AllByRecursion IsOp ops

-- the request deletes or sets no node but those whose paths pass the test
abbrev pub IsAllowed : (List ℕ → Bool) → MetaOp → Type 0
IsAllowed allowed (meta.One o) = IsOpAllowed allowed o
IsAllowed allowed (meta.Multi ops) = AllByRecursion (IsOpAllowed allowed) ops
