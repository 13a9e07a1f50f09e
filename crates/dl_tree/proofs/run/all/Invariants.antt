use Rattle.std.proofs.Common.{◌≡◌}
use Rattle.dl_tree.proofs.run.all.Given as goal
use Rattle.std.proofs.Common.{drop}
use Rattle.dl_tree.specs.Trees.{run_of}
use Rattle.dl_tree.specs.Faults.{after_answers}

abbrev pub invariant-loop-place : goal.invariant-loop-place
invariant-loop-place l =
    (run_of l.fn.nodes.0 l.session 0 l.ops ≡ after_answers l.answers.items (run_of l.nodes.0 l.session l.place (drop l.place l.ops)))
    × (l.nodes.1 ≡ l.fn.nodes.1)
