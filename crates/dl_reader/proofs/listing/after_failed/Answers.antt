use Rattle.std.proofs.Common.{sym, subst}
use Rattle.dl_rules_stream.specs.Requests.{ListCut}
use Rattle.dl_rules_stream.specs.LogReaders.{ReadMove}
use Rattle.dl_reader.specs.Steps.{IsStep}
use Rattle.dl_reader.proofs.Failures.{failed_list}
use Rattle.dl_reader.proofs.Lifting.{if_ok}
use Rattle.dl_reader.proofs.listing.after_failed.Goals as goal

pub returns-in_ok-list-in_default : goal.returns-in_ok-list-in_default
returns-in_ok-list-in_default c =
    let x = c.args.given.now in
    if_ok c.gives_up.result c.gives_up.ensures (λ step gives r left.
    subst (λ (m : ReadMove). IsStep x r left m step) (sym (failed_list x r c.args.place c.args.why c.in_default.not-NoNode))
    (gives x r left (ListCut x.stream) c.in_ok-list-in_default.ensures))
