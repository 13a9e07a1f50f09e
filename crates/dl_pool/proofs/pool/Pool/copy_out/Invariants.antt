use Rattle.std.proofs.Common.{◌≡◌, ◌+◌, ◌++◌, length, take}
use Rattle.std.specs.List.{concat}
use Rattle.dl_pool.proofs.pool.Pool.copy_out.Given as goal

abbrev pub invariant-loop-part : goal.invariant-loop-part
invariant-loop-part l = record {
  can_next : (goal.iterator-loop-part).can_next l.part-iterator;
  finite : (goal.iterator-loop-part).is_finite l.part-iterator;
  joined : take l.at l.into ++ concat l.part-iterator ≡ concat l.initial.part-iterator;
  size : l.at + length (concat l.part-iterator) ≡ length l.into;
}
