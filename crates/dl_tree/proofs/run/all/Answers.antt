use Rattle.std.proofs.Common.{◌∙◌, sym, subst}
use Rattle.dl_tree.specs.Trees.{run_of}
use Rattle.dl_tree.specs.Faults.{IsRunFault}
use Rattle.dl_tree.proofs.RunLemmas.{run_more, run_fault, run_end, drop_end}
use Rattle.dl_tree.proofs.run.all.Goals as goal

pub returns-in-Err-clause-err : goal.returns-in-Err-clause-err
returns-in-Err-clause-err c =
    subst (IsRunFault (run_of c.args.nodes.now.0 c.args.session 0 c.args.ops.now)) (sym c.at_place.ensures)
    (run_fault _ _ _ _ _ _ _ _ c.loop-place-test.true c.index-ops-place.is c.in-Err.ensures.err c.loop-place.invariant.0)

pub loop-place-preserved : goal.loop-place-preserved
loop-place-preserved c = (
  run_more _ _ _ _ _ _ _ _ _ _ c.loop-place-test.true c.index-ops-place.is c.in-Ok.ensures.ok c.in_ok-push-in-Ok.ensures.items c.loop-place.invariant.0,
  c.in-Ok.ensures.back ∙ c.loop-place.invariant.1,
)

pub returns-clause-ok : goal.returns-clause-ok
returns-clause-ok c = run_end _ _ _ _ _ _ (drop_end _ _ c.loop-place-test.false) c.loop-place.invariant.0
