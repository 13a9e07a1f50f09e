use Rattle.std.proofs.Common.{◌≡◌, Some, drop, arith}
use Rattle.std.proofs.lemmas.Grind.{common_steps}
use Rattle.dl_types.specs.declared.name.TheConstants.{MAX_NAME}
use Rattle.dl_types.specs.Names.{bad_from}
use Rattle.dl_types.proofs.NameLemmas.{bad_at}
use Rattle.dl_types.proofs.name.fault_of.Goals as goal

pub returns-then-i : goal.returns-then-i
returns-then-i c =
    let far : bad_from c.loop-i.i (drop c.loop-i.i c.args.bytes.now) ≡ Some MAX_NAME =
    bad_at c.loop-i.i c.args.bytes.now c.if-i.true c.loop-i-test.true
    in grind (arith, common_steps, far)
