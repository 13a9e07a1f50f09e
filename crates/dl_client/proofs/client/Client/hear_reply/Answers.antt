use Rattle.std.proofs.Common.{◌∙◌, sym}
use Rattle.std.proofs.lemmas.Result.{IfOk-weaker}
use Rattle.dl_client.proofs.Hearing.{present_reply}
use Rattle.dl_client.proofs.client.Client.hear_reply.Goals as goal

pub returns-then-is_present-clause-goes : goal.returns-then-is_present-clause-goes
returns-then-is_present-clause-goes c =
    IfOk-weaker c.hear_present.result _ _
    (λ parts goes me n h. present_reply me n c.args.self.now c.hear_present.new.self c.args.session c.args.number c.args.reply.now parts h
    (sym c.is_present.ensures ∙ c.if-is_present.true) (goes me n h))
    c.hear_present.ensures.goes
