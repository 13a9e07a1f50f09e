use Rattle.dl_tree_msg.proofs.AnswerLemmas.{answer_exact, outcome_exact}
use Rattle.dl_tree_msg.proofs.laws.answers_are_exact.Goals as goal

pub returns : goal.returns
returns c = record { one = answer_exact; request = outcome_exact }
