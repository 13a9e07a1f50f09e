use Rattle.std.proofs.Common.{Ok, sym, ap, subst, ◌∙◌}
use Rattle.dl_msg.specs.declared.msg.Msg.{Msg}
use Rattle.dl_marks.specs.Tables.{ledger_at}
use Rattle.dl_bookie.specs.Facts.{BookieFacts}
use Rattle.dl_bookie.specs.Rows.{marked_lac}
use Rattle.dl_bookie.specs.Looking.{LooksUp}
use Rattle.dl_bookie.proofs.FindLemmas.{answers_lac}
use Rattle.dl_bookie.proofs.bookie.Bookie.look.Goals as goal

pub returns-in-AskLac-clause-looked : goal.returns-in-AskLac-clause-looked
returns-in-AskLac-clause-looked g c b s =
    let v = g.D.Depot.view c.args.depot.now in
    let k = c.args.self.now in
    let t = c.in-AskLac.tag in
    let l = c.in-AskLac.ledger in
    subst (λ (m : Msg). LooksUp v v b k m (Ok c.lac_of.result)) (sym c.in-AskLac.is)
    (subst (λ (r : Msg). LooksUp v v b k (Rattle.dl_msg.specs.declared.msg.Msg.TheVariants.AskLac t l c.in-AskLac.fence) (Ok r))
    (sym (c.lac_of.ensures ∙ ap (λ o. marked_lac o t l) c.get.ensures ∙ ap (λ (kept : BookieFacts). marked_lac (ledger_at kept.ledgers l) t l) c.self.view_is))
    (answers_lac v b k t l c.in-AskLac.fence s))
