-- The codes of the kinds: the byte that stands for each, and all kinds there are.
use Rattle.std.specs.Prelude.{ℕ, List, [], ◌∷◌}
use Rattle.dl_types.specs.declared.mode.Mode.{Mode}
use Rattle.dl_types.specs.declared.mode.Mode.TheVariants as mode
use Rattle.dl_tree_msg.specs.declared.op_kind.OpKind.{OpKind}
use Rattle.dl_tree_msg.specs.declared.op_kind.OpKind.TheVariants as op
use Rattle.dl_tree_msg.specs.declared.op_kind.RequestKind.{RequestKind}
use Rattle.dl_tree_msg.specs.declared.op_kind.RequestKind.TheVariants as request
use Rattle.dl_tree_msg.specs.declared.op_kind.ModeField.{ModeField}
use Rattle.dl_tree_msg.specs.declared.answer_kind.AnswerKind.{AnswerKind}
use Rattle.dl_tree_msg.specs.declared.answer_kind.AnswerKind.TheVariants as answer
use Rattle.dl_tree_msg.specs.declared.answer_kind.OutcomeKind.{OutcomeKind}
use Rattle.dl_tree_msg.specs.declared.answer_kind.OutcomeKind.TheVariants as outcome
use Rattle.dl_tree_msg.specs.declared.answer_kind.WhyKind.{WhyKind}
use Rattle.dl_tree_msg.specs.declared.answer_kind.WhyKind.TheVariants as why

-- the byte of a kind of operation
abbrev pub op_code : OpKind → ℕ
op_code op.Create = 1
op_code op.Delete = 2
op_code op.Set = 3
op_code op.Check = 4
op_code op.Get = 5
op_code op.Children = 6

-- all kinds of operations
abbrev pub op_kinds : List OpKind
op_kinds = op.Create ∷ op.Delete ∷ op.Set ∷ op.Check ∷ op.Get ∷ op.Children ∷ []

-- the byte of a kind of request
abbrev pub request_code : RequestKind → ℕ
request_code (request.One k) = op_code k
request_code request.Multi = 7

-- all kinds of requests
abbrev pub request_kinds : List RequestKind
request_kinds =
    request.One op.Create ∷ request.One op.Delete ∷ request.One op.Set ∷ request.One op.Check
    ∷ request.One op.Get ∷ request.One op.Children ∷ request.Multi ∷ []

-- the byte of a mode
abbrev pub mode_code : Mode → ℕ
mode_code mode.Lasting = 0
mode_code mode.Ephemeral = 1
mode_code mode.Counted = 2
mode_code mode.EphemeralCounted = 3

-- the byte of a field of a mode
abbrev pub mode_field_code : ModeField → ℕ
mode_field_code field = mode_code field.mode

-- the field of a mode
abbrev pub mode_field : Mode → ModeField
mode_field m = record { mode = m }

-- the fields of all modes
abbrev pub mode_fields : List ModeField
mode_fields = mode_field mode.Lasting ∷ mode_field mode.Ephemeral ∷ mode_field mode.Counted ∷ mode_field mode.EphemeralCounted ∷ []

-- the byte of a kind of answer to one operation
abbrev pub answer_code : AnswerKind → ℕ
answer_code answer.Made = 1
answer_code answer.Done = 2
answer_code answer.Version = 3
answer_code answer.Bytes = 4
answer_code answer.Names = 5

-- all kinds of answers to one operation
abbrev pub answer_kinds : List AnswerKind
answer_kinds = answer.Made ∷ answer.Done ∷ answer.Version ∷ answer.Bytes ∷ answer.Names ∷ []

-- the byte of a kind of answer to a request
abbrev pub outcome_code : OutcomeKind → ℕ
outcome_code (outcome.One k) = answer_code k
outcome_code outcome.Many = 6
outcome_code outcome.Failed = 7

-- all kinds of answers to a request
abbrev pub outcome_kinds : List OutcomeKind
outcome_kinds =
    outcome.One answer.Made ∷ outcome.One answer.Done ∷ outcome.One answer.Version
    ∷ outcome.One answer.Bytes ∷ outcome.One answer.Names ∷ outcome.Many ∷ outcome.Failed ∷ []

-- the byte of a kind of failure
abbrev pub why_code : WhyKind → ℕ
why_code why.NoNode = 1
why_code why.NodeExists = 2
why_code why.BadVersion = 3
why_code why.NotEmpty = 4
why_code why.EphemeralParent = 5
why_code why.Spent = 6

-- all kinds of failures
abbrev pub why_kinds : List WhyKind
why_kinds = why.NoNode ∷ why.NodeExists ∷ why.BadVersion ∷ why.NotEmpty ∷ why.EphemeralParent ∷ why.Spent ∷ []
