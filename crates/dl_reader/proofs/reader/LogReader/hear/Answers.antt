use Rattle.dl_rules_stream.specs.LogReaders.{HearsAll}
use Rattle.dl_reader.specs.Views.{now_in}
use Rattle.dl_reader.proofs.Lifting.{if_ok, viewed}
use Rattle.dl_reader.proofs.reader.LogReader.hear.Goals as goal

pub returns-clause-view : goal.returns-clause-view
returns-clause-view c = if_ok c.go_on.result c.go_on.ensures.goes (λ turn goes v stands.
    viewed v (HearsAll c.args.heard.now) turn c.go_on.new.self (goes v.args (now_in v) stands))
