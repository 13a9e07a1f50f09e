use Rattle.std.proofs.Common.{◌∙◌}
use Rattle.dl_links.proofs.OrderLemmas.{end_order}
use Rattle.dl_links.proofs.mail.is_end_before.Goals as goal

pub returns : goal.returns
returns c = c.lt.ensures ∙ end_order c.args.end c.args.other
