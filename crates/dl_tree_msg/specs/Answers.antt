-- Answers to requests on the metadata tree: the one spelling of each, and which have one.
use Rattle.std.specs.Prelude.{ℕ, List, [], ◌++◌, length}
use Rattle.std.specs.List.{AllByRecursion}
use Rattle.std.specs.Int.{w16, w32, w64}
use Rattle.dl_codec.specs.Fields.{field}
use Rattle.dl_types.specs.declared.why.Why.{Why}
use Rattle.dl_types.specs.declared.why.Why.TheVariants as why
use Rattle.dl_types.specs.declared.one_answer.OneAnswer.{OneAnswer}
use Rattle.dl_types.specs.declared.one_answer.OneAnswer.TheVariants as one
use Rattle.dl_types.specs.declared.meta_answer.MetaAnswer.{MetaAnswer}
use Rattle.dl_types.specs.declared.meta_answer.MetaAnswer.TheVariants as meta
use Rattle.dl_fields.specs.Fields.{Fits, counted_field, IsCounted}
use Rattle.dl_fields.specs.Codes.{code_byte}
use Rattle.dl_fields.specs.Lists.{list_bytes}
use Rattle.dl_fields.specs.Paths.{IsPart, IsPathField}
use Rattle.dl_tree_msg.specs.declared.answer_kind.AnswerKind.{AnswerKind}
use Rattle.dl_tree_msg.specs.declared.answer_kind.AnswerKind.TheVariants as answer
use Rattle.dl_tree_msg.specs.declared.answer_kind.OutcomeKind.{OutcomeKind}
use Rattle.dl_tree_msg.specs.declared.answer_kind.OutcomeKind.TheVariants as outcome
use Rattle.dl_tree_msg.specs.declared.answer_kind.WhyKind.{WhyKind}
use Rattle.dl_tree_msg.specs.declared.answer_kind.WhyKind.TheVariants as reason
use Rattle.dl_tree_msg.specs.Kinds.{answer_code, outcome_code, why_code}

-- ---- why an operation fails

-- the kind of a reason
abbrev pub why_kind : Why → WhyKind
why_kind why.NoNode = reason.NoNode
why_kind why.NodeExists = reason.NodeExists
why_kind (why.BadVersion version) = reason.BadVersion
why_kind (why.NotEmpty children) = reason.NotEmpty
why_kind why.EphemeralParent = reason.EphemeralParent
why_kind why.Spent = reason.Spent

-- a reason behind its kind
abbrev pub why_rest : Why → List ℕ
why_rest why.NoNode = []
why_rest why.NodeExists = []
why_rest (why.BadVersion version) = field w64 version
why_rest (why.NotEmpty children) = field w64 children
why_rest why.EphemeralParent = []
why_rest why.Spent = []

-- the spelling of a reason
abbrev pub why_bytes : Why → List ℕ
why_bytes w = code_byte why_code (why_kind w) ++ why_rest w

-- the reasons that have a spelling
abbrev pub IsWhy : Why → Type 0
IsWhy why.NoNode = Unit {0}
IsWhy why.NodeExists = Unit {0}
IsWhy (why.BadVersion version) = Fits w64 version
IsWhy (why.NotEmpty children) = Fits w64 children
IsWhy why.EphemeralParent = Unit {0}
IsWhy why.Spent = Unit {0}

-- ---- the answer to one operation

-- the kind of an answer to one operation
abbrev pub answer_kind : OneAnswer → AnswerKind
answer_kind (one.Made path) = answer.Made
answer_kind one.Done = answer.Done
answer_kind (one.Version version) = answer.Version
answer_kind (one.Bytes bytes version) = answer.Bytes
answer_kind (one.Names names) = answer.Names

-- an answer behind its kind
abbrev pub answer_rest : OneAnswer → List ℕ
answer_rest (one.Made path) = counted_field w16 path
answer_rest one.Done = []
answer_rest (one.Version version) = field w64 version
answer_rest (one.Bytes bytes version) = counted_field w32 bytes ++ field w64 version
answer_rest (one.Names names) = list_bytes w32 (counted_field w16) names

-- the spelling of an answer to one operation
abbrev pub answer_bytes : OneAnswer → List ℕ
answer_bytes a = code_byte answer_code (answer_kind a) ++ answer_rest a

-- the answers that have a spelling
abbrev pub IsAnswer : OneAnswer → Type 0
IsAnswer (one.Made path) = IsPathField path
IsAnswer one.Done = Unit {0}
IsAnswer (one.Version version) = Fits w64 version
IsAnswer (one.Bytes bytes version) = IsCounted w32 bytes × Fits w64 version
IsAnswer (one.Names names) = Fits w32 (length names) × AllByRecursion IsPart names

-- ---- the answer to a request

-- the kind of an answer to a request
abbrev pub outcome_kind : MetaAnswer → OutcomeKind
outcome_kind (meta.One a) = outcome.One (answer_kind a)
outcome_kind (meta.Many answers) = outcome.Many
outcome_kind (meta.Failed place w) = outcome.Failed

-- an answer to a request behind its kind
abbrev pub outcome_rest : MetaAnswer → List ℕ
outcome_rest (meta.One a) = answer_rest a
outcome_rest (meta.Many answers) = list_bytes w16 answer_bytes answers
outcome_rest (meta.Failed place w) = field w16 place ++ why_bytes w

-- the spelling of an answer to a request
abbrev pub outcome_bytes : MetaAnswer → List ℕ
outcome_bytes a = code_byte outcome_code (outcome_kind a) ++ outcome_rest a

-- the answers to requests that have a spelling
abbrev pub IsOutcome : MetaAnswer → Type 0
IsOutcome (meta.One a) = IsAnswer a
IsOutcome (meta.Many answers) = Fits w16 (length answers) × AllByRecursion IsAnswer answers
IsOutcome (meta.Failed place w) = Fits w16 place × IsWhy w
