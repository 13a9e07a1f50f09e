use Rattle.dl_rules_stream.specs.LogReaders.{Reads}
use Rattle.dl_reader.specs.Views.{now_in}
use Rattle.dl_reader.proofs.Lifting.{if_ok, viewed}
use Rattle.dl_reader.proofs.reader.LogReader.read.Goals as goal

pub returns-clause-view : goal.returns-clause-view
returns-clause-view c = if_ok c.begin.result c.begin.ensures.goes (λ turn goes v stands.
    viewed v (Reads c.args.line c.args.count) turn c.begin.new.self (goes v.args (now_in v) stands))
