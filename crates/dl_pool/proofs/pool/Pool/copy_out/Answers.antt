use Rattle.std.proofs.Common.{◌+◌, ◌-◌, length, arith}
use Rattle.std.specs.List.{concat}
use Rattle.dl_pool.proofs.CopyLemmas.{copied_joined, copied_size}
use Rattle.dl_pool.proofs.pool.Pool.copy_out.Goals as goal

pub loop-part-preserved : goal.loop-part-preserved
loop-part-preserved c = record {
  can_next = tt;
  finite = tt;
  joined =
      copied_joined c.loop-part.into c.copy_from_slice.new.self c.in-Some.part.now (concat c.into_iter-part-iterator.result)
      c.loop-part.part-iterator c.next.new.self
      c.loop-part.at (c.loop-part.at + length c.in-Some.part.now - c.loop-part.at)
      c.loop-part.invariant.joined c.loop-part.invariant.size c.in-Some.ensures.steps c.copy_from_slice.ensures.after;
  size =
      copied_size c.loop-part.into c.copy_from_slice.new.self c.in-Some.part.now c.loop-part.part-iterator c.next.new.self
      c.loop-part.at (c.loop-part.at + length c.in-Some.part.now - c.loop-part.at)
      c.loop-part.invariant.size c.in-Some.ensures.steps c.copy_from_slice.ensures.after (omega arith);
}
