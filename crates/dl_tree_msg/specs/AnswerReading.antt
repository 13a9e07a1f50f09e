-- Reading answers to requests on the metadata tree.
use Rattle.std.specs.Prelude.{ℕ, List, Result}
use Rattle.std.specs.Int.{w16, w32, w64}
use Rattle.dl_types.specs.declared.why.Why.{Why}
use Rattle.dl_types.specs.declared.why.Why.TheVariants as why
use Rattle.dl_types.specs.declared.one_answer.OneAnswer.{OneAnswer}
use Rattle.dl_types.specs.declared.one_answer.OneAnswer.TheVariants as one
use Rattle.dl_types.specs.declared.meta_answer.MetaAnswer.{MetaAnswer}
use Rattle.dl_types.specs.declared.meta_answer.MetaAnswer.TheVariants as meta
use Rattle.dl_fields.specs.declared.fault.Fault.{Fault}
use Rattle.dl_fields.specs.Readers.{then_at, map_at, nothing_from}
use Rattle.dl_fields.specs.Fields.{number_from, counted_field_from}
use Rattle.dl_fields.specs.Codes.{code_from}
use Rattle.dl_fields.specs.Lists.{list_from}
use Rattle.dl_fields.specs.Paths.{path_from, name_from}
use Rattle.dl_tree_msg.specs.declared.answer_kind.AnswerKind.{AnswerKind}
use Rattle.dl_tree_msg.specs.declared.answer_kind.AnswerKind.TheVariants as answer
use Rattle.dl_tree_msg.specs.declared.answer_kind.OutcomeKind.{OutcomeKind}
use Rattle.dl_tree_msg.specs.declared.answer_kind.OutcomeKind.TheVariants as outcome
use Rattle.dl_tree_msg.specs.declared.answer_kind.WhyKind.{WhyKind}
use Rattle.dl_tree_msg.specs.declared.answer_kind.WhyKind.TheVariants as reason
use Rattle.dl_tree_msg.specs.Kinds.{answer_code, answer_kinds, outcome_code, outcome_kinds, why_code, why_kinds}

-- ---- why an operation fails

-- a reason behind its kind
abbrev pub why_rest_from : WhyKind → List ℕ → Result (Why × List ℕ) Fault
why_rest_from reason.NoNode = nothing_from why.NoNode
why_rest_from reason.NodeExists = nothing_from why.NodeExists
why_rest_from reason.BadVersion = map_at why.BadVersion (number_from w64)
why_rest_from reason.NotEmpty = map_at why.NotEmpty (number_from w64)
why_rest_from reason.EphemeralParent = nothing_from why.EphemeralParent
why_rest_from reason.Spent = nothing_from why.Spent

-- a reason
abbrev pub why_from : List ℕ → Result (Why × List ℕ) Fault
why_from = map_at (λ (kind, why). why) (then_at (code_from why_code why_kinds) why_rest_from)

-- ---- the answer to one operation

-- names behind their count
abbrev pub names_from : List ℕ → Result (List (List ℕ) × List ℕ) Fault
names_from = list_from (number_from w32) name_from

-- an answer behind its kind
abbrev pub answer_rest_from : AnswerKind → List ℕ → Result (OneAnswer × List ℕ) Fault
answer_rest_from answer.Made = map_at one.Made path_from
answer_rest_from answer.Done = nothing_from one.Done
answer_rest_from answer.Version = map_at one.Version (number_from w64)
answer_rest_from answer.Bytes = map_at (λ (bytes, version). one.Bytes bytes version) (then_at (counted_field_from w32) (λ bytes. number_from w64))
answer_rest_from answer.Names = map_at one.Names names_from

-- an answer to one operation
abbrev pub answer_from : List ℕ → Result (OneAnswer × List ℕ) Fault
answer_from = map_at (λ (kind, answer). answer) (then_at (code_from answer_code answer_kinds) answer_rest_from)

-- ---- the answer to a request

-- answers behind their count
abbrev pub answers_from : List ℕ → Result (List OneAnswer × List ℕ) Fault
answers_from = list_from (number_from w16) answer_from

-- an answer to a request behind its kind
abbrev pub outcome_rest_from : OutcomeKind → List ℕ → Result (MetaAnswer × List ℕ) Fault
outcome_rest_from (outcome.One k) = map_at meta.One (answer_rest_from k)
outcome_rest_from outcome.Many = map_at meta.Many answers_from
outcome_rest_from outcome.Failed =
    map_at (λ (place, why). meta.Failed place why) (then_at (number_from w16) (λ place. why_from))

-- an answer to a request
abbrev pub outcome_from : List ℕ → Result (MetaAnswer × List ℕ) Fault
outcome_from =
    map_at (λ (kind, answer). answer) (then_at (code_from outcome_code outcome_kinds) outcome_rest_from)
