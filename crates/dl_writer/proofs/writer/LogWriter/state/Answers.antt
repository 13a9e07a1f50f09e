use Rattle.std.proofs.Common.{sym, subst, ap₂, ◌∙◌}
use Rattle.dl_writer.specs.States.{state_at}
use Rattle.dl_writer.specs.Views.{NowStands, now_of}
use Rattle.dl_writer.specs.contracts.writer.LogWriter.{the_view}
use Rattle.dl_writer.proofs.Ending.{state_is}
use Rattle.dl_writer.proofs.writer.LogWriter.state.Goals as goal

pub returns : goal.returns
returns c = λ v h.
    c.state_by.ensures
    ∙ ap₂ (λ o n. state_at c.self.inside.mode o n c.self.inside.rows_sent c.self.inside.last_sent) c.fenced.ensures.value c.sent.ensures.value
    ∙ state_is (now_of v) (the_view c.self.inside) (subst (NowStands (now_of v)) (sym c.self.view_is) h)
