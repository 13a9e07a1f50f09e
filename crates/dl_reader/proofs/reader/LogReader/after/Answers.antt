use Rattle.std.proofs.Common.{IfOk, subst}
use Rattle.dl_reader.specs.Facts.{ReaderFacts}
use Rattle.dl_reader.proofs.Lifting.{AnswersBy}
use Rattle.dl_reader.proofs.reader.LogReader.after.Goals as goal

pub returns : goal.returns
returns c = subst (λ (f : ReaderFacts). IfOk c.after_heard.result (AnswersBy f c.args.heard.now)) c.self.view_is c.after_heard.ensures
