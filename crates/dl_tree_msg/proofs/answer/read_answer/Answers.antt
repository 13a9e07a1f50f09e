use Rattle.std.proofs.Common.{arith}
use Rattle.dl_tree_msg.proofs.AnswerLemmas.{outcome_exact}
use Rattle.dl_tree_msg.proofs.answer.read_answer.Goals as goal

pub returns-clause-found : goal.returns-clause-found
returns-clause-found c =
    outcome_exact.found c.args.bytes.now c.in_ok-answer.answer c.in_ok-answer.rest.now (λ i. omega (arith, c.type_inv.bytes i)) c.in_ok-answer.ensures
