use Rattle.std.proofs.Common.{None}
use Rattle.std.proofs.lemmas.Result.{IfOk-weaker, IfErr-weaker}
use Rattle.dl_rules_stream.specs.LogWriters as rule
use Rattle.dl_rules_stream.specs.LogWriters.{LogNow, Closes}
use Rattle.dl_writer.specs.Views.{LogView, NowStands, StandsFor, now_of, ends_in, Takes, IsTaking, Refuses}
use Rattle.dl_writer.proofs.Ending.{closes_taken, closes_refused}
use Rattle.dl_writer.proofs.writer.LogWriter.close.Goals as goal

pub returns-clause-taken : goal.returns-clause-taken
returns-clause-taken c =
    IfOk-weaker c.end_in.result (λ told. (w : LogNow) → NowStands w c.args.self.now → Takes (ends_in rule.Closing w) told c.end_in.new.self)
    (λ told. (v : LogView) → StandsFor v c.args.self.now → IsTaking v Closes told c.end_in.new.self)
    (λ told t v h. closes_taken v told c.end_in.new.self (t (now_of v) h)) c.end_in.ensures.sent

pub returns-clause-refused : goal.returns-clause-refused
returns-clause-refused c =
    IfErr-weaker c.end_in.result (λ fault. (w : LogNow) → NowStands w c.args.self.now → Refuses (ends_in rule.Closing w) fault)
    (λ fault. (v : LogView) → StandsFor v c.args.self.now → Refuses (rule.closes (now_of v)) fault)
    (λ fault r v h. closes_refused (now_of v) fault (r (now_of v) h)) c.end_in.ensures.refused
