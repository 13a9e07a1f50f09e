use Rattle.std.proofs.Common.{◌≡◌, sym, subst, rules}
use Rattle.dl_types.specs.declared.meta_answer.MetaAnswer.{MetaAnswer}
use Rattle.dl_types.specs.declared.meta_answer.MetaAnswer.TheVariants as answer
use Rattle.dl_types.specs.declared.one_answer.OneAnswer.TheVariants.{Bytes}
use Rattle.dl_rules_stream.specs.LogReaders as rule
use Rattle.dl_reader.specs.Steps.{IsStep}
use Rattle.dl_reader.proofs.segments.at_segment.Goals as goal

pub returns-in_ok-step-in-One-Bytes : goal.returns-in_ok-step-in-One-Bytes
unfolding rule.read_answers
returns-in_ok-step-in-One-Bytes c r left =
    let x = c.args.given.now in
    let version = c.in-One-Bytes.field-0-1 in
    let one : c.args.answer.now ≡ answer.One (Bytes c.as_slice.result.now version) = search rules in
    subst (λ (a : MetaAnswer). IsStep x r left (rule.read_answers x (rule.GettingSegment r c.args.name left) a) c.in_ok-step-in-One-Bytes.step)
    (sym one) (c.in_ok-step-in-One-Bytes.ensures r left)

pub returns-in_ok-step-in-Failed : goal.returns-in_ok-step-in-Failed
returns-in_ok-step-in-Failed c r left =
    let x = c.args.given.now in
    subst (λ (a : MetaAnswer). IsStep x r left (rule.read_answers x (rule.GettingSegment r c.args.name left) a) c.in_ok-step-in-Failed.step)
    (sym c.in-Failed.is) (c.in_ok-step-in-Failed.ensures r left)
