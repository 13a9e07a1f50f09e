use Rattle.std.proofs.Common.{ap, ◌∙◌}
use Rattle.dl_marks.specs.Tables.{marks_at}
use Rattle.dl_bookie.specs.Facts.{BookieFacts}
use Rattle.dl_bookie.specs.Rows.{is_there}
use Rattle.dl_bookie.proofs.RowLemmas.{there_is}
use Rattle.dl_bookie.proofs.bookie.Bookie.holds.Goals as goal

pub returns : goal.returns
returns c b s =
    c.is_there.ensures ∙ ap is_there c.get.ensures
    ∙ ap (λ (k : BookieFacts). is_there (marks_at k.entries c.args.ledger c.args.entry)) c.self.view_is
    ∙ there_is b c.args.self.now s.tables c.args.ledger c.args.entry
