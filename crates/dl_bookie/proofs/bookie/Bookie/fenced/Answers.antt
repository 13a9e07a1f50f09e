use Rattle.std.proofs.Common.{ap, ◌∙◌}
use Rattle.dl_marks.specs.Tables.{ledger_at}
use Rattle.dl_bookie.specs.Facts.{BookieFacts}
use Rattle.dl_bookie.specs.Rows.{is_fenced}
use Rattle.dl_bookie.proofs.RowLemmas.{fenced_is}
use Rattle.dl_bookie.proofs.bookie.Bookie.fenced.Goals as goal

pub returns : goal.returns
returns c b s =
    c.is_fenced.ensures ∙ ap is_fenced c.get.ensures
    ∙ ap (λ (k : BookieFacts). is_fenced (ledger_at k.ledgers c.args.ledger)) c.self.view_is
    ∙ fenced_is b c.args.self.now s.tables c.args.ledger
