-- The laws of the readers of this crate.
use Rattle.std.specs.Prelude.{ℕ, Bool, List}
use Rattle.dl_fields.specs.Readers.{Exact}
use Rattle.dl_tree_msg.specs.Requests.{op_bytes, IsOp, IsOpAllowed, request_bytes, IsRequest, IsAllowed}
use Rattle.dl_tree_msg.specs.RequestReading.{op_from, request_from}
use Rattle.dl_tree_msg.specs.Answers.{answer_bytes, IsAnswer, outcome_bytes, IsOutcome}
use Rattle.dl_tree_msg.specs.AnswerReading.{answer_from, outcome_from}

-- Operations and requests that delete and set allowed nodes alone are read exactly.
pub record RequestsAreExact : Type 0 where
  pub one : (allowed : List ℕ → Bool) → Exact (λ o. IsOp o × IsOpAllowed allowed o) op_bytes (op_from allowed)
  pub request : (allowed : List ℕ → Bool) → Exact (λ r. IsRequest r × IsAllowed allowed r) request_bytes (request_from allowed)

-- Answers to one operation and to a request are read exactly.
pub record AnswersAreExact : Type 0 where
  pub one : Exact IsAnswer answer_bytes answer_from
  pub request : Exact IsOutcome outcome_bytes outcome_from
