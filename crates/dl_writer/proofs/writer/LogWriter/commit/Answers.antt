use Rattle.std.proofs.Common.{None}
use Rattle.std.proofs.lemmas.Result.{IfOk-weaker, IfErr-weaker}
use Rattle.dl_rules_stream.specs.LogWriters as rule
use Rattle.dl_rules_stream.specs.LogWriters.{LogNow, Commits}
use Rattle.dl_writer.specs.Views.{LogView, NowStands, StandsFor, now_of, ends_in, Takes, IsTaking, Refuses}
use Rattle.dl_writer.proofs.Ending.{commits_taken, commits_refused}
use Rattle.dl_writer.proofs.writer.LogWriter.commit.Goals as goal

pub returns-clause-taken : goal.returns-clause-taken
returns-clause-taken c =
    IfOk-weaker c.end_in.result (λ told. (w : LogNow) → NowStands w c.args.self.now → Takes (ends_in (rule.Committing None) w) told c.end_in.new.self)
    (λ told. (v : LogView) → StandsFor v c.args.self.now → IsTaking v Commits told c.end_in.new.self)
    (λ told t v h. commits_taken v told c.end_in.new.self (t (now_of v) h)) c.end_in.ensures.sent

pub returns-clause-refused : goal.returns-clause-refused
returns-clause-refused c =
    IfErr-weaker c.end_in.result (λ fault. (w : LogNow) → NowStands w c.args.self.now → Refuses (ends_in (rule.Committing None) w) fault)
    (λ fault. (v : LogView) → StandsFor v c.args.self.now → Refuses (rule.commits (now_of v)) fault)
    (λ fault r v h. commits_refused (now_of v) fault (r (now_of v) h)) c.end_in.ensures.refused
