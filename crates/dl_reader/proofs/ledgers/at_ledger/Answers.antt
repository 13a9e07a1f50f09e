use Rattle.std.proofs.Common.{sym, subst}
use Rattle.dl_types.specs.declared.meta_answer.MetaAnswer.{MetaAnswer}
use Rattle.dl_rules_stream.specs.LogReaders as rule
use Rattle.dl_reader.specs.Steps.{IsStep}
use Rattle.dl_reader.proofs.ledgers.at_ledger.Goals as goal

pub returns-in_ok-step-in-Failed : goal.returns-in_ok-step-in-Failed
returns-in_ok-step-in-Failed c number =
    let x = c.args.given.now in
    let r = c.args.reading.now.read in
    let left = c.args.reading.now.left in
    subst (λ (a : MetaAnswer). IsStep x r left (rule.read_answers x (rule.GettingLedger r c.args.segment number left) a) c.in_ok-step-in-Failed.step)
    (sym c.in-Failed.is) (c.in_ok-step-in-Failed.ensures number)
