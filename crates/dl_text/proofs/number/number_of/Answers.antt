use Rattle.std.proofs.Common.{arith}
use Rattle.dl_text.proofs.NumberLemmas.{digits_within}
use Rattle.dl_text.proofs.number.number_of.Goals as goal

pub returns-then-from-high-clause-within : goal.returns-then-from-high-clause-within
returns-then-from-high-clause-within c = digits_within (λ x. x.now) c.digits_of.result c.args.low c.args.high c.args.end c.from-then-from-high.result _
    c.requires.high_fits (omega arith) (omega arith) c.digits_of.ensures
