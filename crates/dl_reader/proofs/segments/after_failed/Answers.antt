use Rattle.std.proofs.Common.{sym, subst}
use Rattle.dl_rules_stream.specs.Requests.{GetSegment}
use Rattle.dl_rules_stream.specs.LogReaders.{ReadMove}
use Rattle.dl_reader.specs.Steps.{IsStep}
use Rattle.dl_reader.proofs.Failures.{failed_segment}
use Rattle.dl_reader.proofs.Lifting.{if_ok}
use Rattle.dl_reader.proofs.segments.after_failed.Goals as goal

pub returns-in_ok-get-in_default : goal.returns-in_ok-get-in_default
returns-in_ok-get-in_default c =
    let x = c.args.given.now in
    if_ok c.gives_up.result c.gives_up.ensures (λ step gives r left.
    subst (λ (m : ReadMove). IsStep x r left m step) (sym (failed_segment x r c.args.name left c.args.place c.args.why c.in_default.not-NoNode))
    (gives x r left (GetSegment x.stream c.args.name) c.in_ok-get-in_default.ensures))
