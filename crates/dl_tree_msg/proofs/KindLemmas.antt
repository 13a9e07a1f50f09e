-- Kinds and versions are read exactly.
use Rattle.std.proofs.Common.{◌≡◌, ℕ, Bool, true, false, Option, Some, None, refl, lit<}
use Rattle.std.specs.Int.{w64}
use Rattle.dl_fields.specs.Readers.{map_at, Exact}
use Rattle.dl_fields.specs.Fields.{Fits}
use Rattle.dl_fields.specs.Codes.{code_byte, code_from}
use Rattle.dl_fields.proofs.ReaderLemmas.{made_exact}
use Rattle.dl_fields.proofs.FieldLemmas.{u64_exact}
use Rattle.dl_fields.proofs.KindLemmas.{Coded, kinds_exact, nothing_exact, kinded_exact, flag_exact}
use Rattle.dl_types.specs.declared.mode.Mode.{Mode}
use Rattle.dl_types.specs.declared.mode.Mode.TheVariants as mode
use Rattle.dl_tree_msg.specs.declared.op_kind.OpKind.{OpKind}
use Rattle.dl_tree_msg.specs.declared.op_kind.OpKind.TheVariants as op
use Rattle.dl_tree_msg.specs.declared.op_kind.RequestKind.{RequestKind}
use Rattle.dl_tree_msg.specs.declared.op_kind.RequestKind.TheVariants as request
use Rattle.dl_tree_msg.specs.declared.answer_kind.AnswerKind.{AnswerKind}
use Rattle.dl_tree_msg.specs.declared.answer_kind.AnswerKind.TheVariants as answer
use Rattle.dl_tree_msg.specs.declared.answer_kind.OutcomeKind.{OutcomeKind}
use Rattle.dl_tree_msg.specs.declared.answer_kind.OutcomeKind.TheVariants as outcome
use Rattle.dl_tree_msg.specs.declared.answer_kind.WhyKind.{WhyKind}
use Rattle.dl_tree_msg.specs.declared.answer_kind.WhyKind.TheVariants as reason
use Rattle.dl_tree_msg.specs.Kinds.{op_code, op_kinds, request_code, request_kinds, mode_field_code, mode_field, mode_fields}
use Rattle.dl_tree_msg.specs.Kinds.{answer_code, answer_kinds, outcome_code, outcome_kinds, why_code, why_kinds}
use Rattle.dl_tree_msg.specs.Versions.{is_named, version_rest, version_bytes, IsVersion, version_rest_from, version_from}

-- each of them is of the list, by its code
op_coded : (k : OpKind) → Coded op_code op_kinds k
op_coded op.Create = ((0, lit< tt, refl), (refl, lit< tt))
op_coded op.Delete = ((1, lit< tt, refl), (refl, lit< tt))
op_coded op.Set = ((2, lit< tt, refl), (refl, lit< tt))
op_coded op.Check = ((3, lit< tt, refl), (refl, lit< tt))
op_coded op.Get = ((4, lit< tt, refl), (refl, lit< tt))
op_coded op.Children = ((5, lit< tt, refl), (refl, lit< tt))

-- They are read exactly.
pub op_kind_exact : Exact (λ (k : OpKind). Unit {0}) (code_byte op_code) (code_from op_code op_kinds)
op_kind_exact = kinds_exact op_code op_kinds op_coded

-- each of them is of the list, by its code
request_coded : (k : RequestKind) → Coded request_code request_kinds k
request_coded (request.One op.Create) = ((0, lit< tt, refl), (refl, lit< tt))
request_coded (request.One op.Delete) = ((1, lit< tt, refl), (refl, lit< tt))
request_coded (request.One op.Set) = ((2, lit< tt, refl), (refl, lit< tt))
request_coded (request.One op.Check) = ((3, lit< tt, refl), (refl, lit< tt))
request_coded (request.One op.Get) = ((4, lit< tt, refl), (refl, lit< tt))
request_coded (request.One op.Children) = ((5, lit< tt, refl), (refl, lit< tt))
request_coded request.Multi = ((6, lit< tt, refl), (refl, lit< tt))

-- They are read exactly.
pub request_kind_exact : Exact (λ (k : RequestKind). Unit {0}) (code_byte request_code) (code_from request_code request_kinds)
request_kind_exact = kinds_exact request_code request_kinds request_coded

-- each of them is of the list, by its code
mode_coded : (m : Mode) → Coded mode_field_code mode_fields (mode_field m)
mode_coded mode.Lasting = ((0, lit< tt, refl), (refl, lit< tt))
mode_coded mode.Ephemeral = ((1, lit< tt, refl), (refl, lit< tt))
mode_coded mode.Counted = ((2, lit< tt, refl), (refl, lit< tt))
mode_coded mode.EphemeralCounted = ((3, lit< tt, refl), (refl, lit< tt))

-- They are read exactly.
pub mode_exact : Exact (λ (m : Mode). Unit {0}) (λ m. code_byte mode_field_code (mode_field m))
    (map_at (λ field. field.mode) (code_from mode_field_code mode_fields))
mode_exact = made_exact _ _ _ (λ field. field.mode) (λ m. Unit {0}) (λ m. code_byte mode_field_code (mode_field m))
    (kinds_exact mode_field_code mode_fields (λ field. mode_coded field.mode)) (λ field v. (tt, refl)) (λ m w. (mode_field m, tt, refl))

-- each of them is of the list, by its code
answer_coded : (k : AnswerKind) → Coded answer_code answer_kinds k
answer_coded answer.Made = ((0, lit< tt, refl), (refl, lit< tt))
answer_coded answer.Done = ((1, lit< tt, refl), (refl, lit< tt))
answer_coded answer.Version = ((2, lit< tt, refl), (refl, lit< tt))
answer_coded answer.Bytes = ((3, lit< tt, refl), (refl, lit< tt))
answer_coded answer.Names = ((4, lit< tt, refl), (refl, lit< tt))

-- They are read exactly.
pub answer_kind_exact : Exact (λ (k : AnswerKind). Unit {0}) (code_byte answer_code) (code_from answer_code answer_kinds)
answer_kind_exact = kinds_exact answer_code answer_kinds answer_coded

-- each of them is of the list, by its code
outcome_coded : (k : OutcomeKind) → Coded outcome_code outcome_kinds k
outcome_coded (outcome.One answer.Made) = ((0, lit< tt, refl), (refl, lit< tt))
outcome_coded (outcome.One answer.Done) = ((1, lit< tt, refl), (refl, lit< tt))
outcome_coded (outcome.One answer.Version) = ((2, lit< tt, refl), (refl, lit< tt))
outcome_coded (outcome.One answer.Bytes) = ((3, lit< tt, refl), (refl, lit< tt))
outcome_coded (outcome.One answer.Names) = ((4, lit< tt, refl), (refl, lit< tt))
outcome_coded outcome.Many = ((5, lit< tt, refl), (refl, lit< tt))
outcome_coded outcome.Failed = ((6, lit< tt, refl), (refl, lit< tt))

-- They are read exactly.
pub outcome_kind_exact : Exact (λ (k : OutcomeKind). Unit {0}) (code_byte outcome_code) (code_from outcome_code outcome_kinds)
outcome_kind_exact = kinds_exact outcome_code outcome_kinds outcome_coded

-- each of them is of the list, by its code
why_coded : (k : WhyKind) → Coded why_code why_kinds k
why_coded reason.NoNode = ((0, lit< tt, refl), (refl, lit< tt))
why_coded reason.NodeExists = ((1, lit< tt, refl), (refl, lit< tt))
why_coded reason.BadVersion = ((2, lit< tt, refl), (refl, lit< tt))
why_coded reason.NotEmpty = ((3, lit< tt, refl), (refl, lit< tt))
why_coded reason.EphemeralParent = ((4, lit< tt, refl), (refl, lit< tt))
why_coded reason.Spent = ((5, lit< tt, refl), (refl, lit< tt))

-- They are read exactly.
pub why_kind_exact : Exact (λ (k : WhyKind). Unit {0}) (code_byte why_code) (code_from why_code why_kinds)
why_kind_exact = kinds_exact why_code why_kinds why_coded

-- a version behind this flag
abbrev IsVersionOf : Bool → Option ℕ → Type 0
IsVersionOf b v = IsVersion v × (is_named v ≡ b)

-- behind each flag
version_rest_exact : (b : Bool) → Exact (IsVersionOf b) version_rest (version_rest_from b)
version_rest_exact false = nothing_exact None (IsVersionOf false) version_rest (tt, refl) refl from
  where
    from : (v : Option ℕ) → IsVersionOf false v → None ≡ v
    from None w = refl
    from (Some n) w = absurd (let e : true ≡ false = w.1 in cc)
version_rest_exact true = made_exact _ _ _ Some (IsVersionOf true) version_rest u64_exact (λ n v. ((v, refl), refl)) from
  where
    from : (v : Option ℕ) → IsVersionOf true v → (n : ℕ) × Fits w64 n × (Some n ≡ v)
    from None w = absurd (let e : false ≡ true = w.1 in cc)
    from (Some n) w = (n, w.0, refl)

-- They are read exactly.
pub version_exact : Exact IsVersion version_bytes version_from
version_exact = kinded_exact is_named IsVersion version_rest version_rest_from flag_exact version_rest_exact
