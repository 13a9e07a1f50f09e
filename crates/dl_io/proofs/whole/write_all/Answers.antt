use Rattle.std.proofs.Common.{arith}
use Rattle.dl_io.proofs.Pieces.{given_on, keeps_amount_more}
use Rattle.dl_io.proofs.whole.write_all.Goals as goal

pub loop-rest-preserved : goal.loop-rest-preserved
loop-rest-preserved g c = record {
  given = given_on _ _ _ c.args.text.now c.loop-rest.rest.now c.in_ok-count.count c.loop-rest.invariant.given c.in_ok-count.ensures.bytes;
  kept = keeps_amount_more _ _ _ c.loop-rest.invariant.kept c.in_ok-count.ensures.kept;
  later = omega (arith, c.loop-rest.invariant.later, c.in_ok-count.ensures.cause.later);
}
