use Rattle.std.proofs.lemmas.Result.{IfOk-weaker}
use Rattle.dl_client.specs.Hearing.{replied}
use Rattle.dl_client.proofs.Hearing.{present_answer}
use Rattle.dl_client.proofs.client.Client.hear_present.Goals as goal

pub returns-in-Answer-clause-goes : goal.returns-in-Answer-clause-goes
returns-in-Answer-clause-goes c =
    rw c.in-Answer.is
    (IfOk-weaker c.hear_answer.result _ _
    (λ parts goes me n h. present_answer me (replied n) c.hear_answer.new.self n.order c.in-Answer.answer parts (goes me n h))
    c.hear_answer.ensures.goes)

pub returns-in-Expired-clause-goes : goal.returns-in-Expired-clause-goes
returns-in-Expired-clause-goes c = rw c.in-Expired.is c.hear_expired.ensures
