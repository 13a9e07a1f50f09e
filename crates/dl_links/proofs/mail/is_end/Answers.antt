use Rattle.std.proofs.Common.{◌∙◌}
use Rattle.dl_links.proofs.TableLemmas.{end_test}
use Rattle.dl_links.proofs.mail.is_end.Goals as goal

pub returns : goal.returns
returns c = c.eq.ensures ∙ end_test c.args.end c.args.other
