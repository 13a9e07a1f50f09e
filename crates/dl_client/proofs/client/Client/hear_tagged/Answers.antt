use Rattle.std.proofs.Common.{◌∙◌, sym}
use Rattle.std.proofs.lemmas.Result.{IfOk-weaker}
use Rattle.dl_client.proofs.Hearing.{own_tag}
use Rattle.dl_client.proofs.client.Client.hear_tagged.Goals as goal

pub returns-then-has_tag-clause-goes : goal.returns-then-has_tag-clause-goes
returns-then-has_tag-clause-goes c =
    rw (← c.bookie_in.ensures)
    (IfOk-weaker c.order_hears.result _ _
    (λ parts goes me n h. own_tag me n c.order_hears.new.self c.args.tag c.bookie_in.result c.args.msg n.order c.args.self.now.order parts h.order
    (sym c.has_tag.ensures ∙ c.if-has_tag.true) (goes me n h))
    c.order_hears.ensures.goes)
