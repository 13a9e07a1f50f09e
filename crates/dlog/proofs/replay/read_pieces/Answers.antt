use Rattle.std.proofs.Common.{arith}
use Rattle.dlog.proofs.ReplayLemmas.{reads_more, reads_to_stop, front_more}
use Rattle.dlog.proofs.replay.read_pieces.Goals as goal

pub returns-in-Some-clause-reads : goal.returns-in-Some-clause-reads
returns-in-Some-clause-reads g c =
    reads_to_stop _ _ _ c.args.run.now c.loop-count.run c.feed.new.self _ c.in-Some.ended c.loop-count.invariant.reads c.in_ok-count.ensures.bytes.0
    (rw c.in-Some.is at c.in_ok-ended.ensures.feeds)

pub returns-in-Some-clause-front : goal.returns-in-Some-clause-front
returns-in-Some-clause-front g c = front_more _ _ _ _ _ _ c.loop-count.invariant.reads c.in_ok-count.ensures.bytes.0

pub returns-in_err-ended-clause-front : goal.returns-in_err-ended-clause-front
returns-in_err-ended-clause-front g c = front_more _ _ _ _ _ _ c.loop-count.invariant.reads c.in_ok-count.ensures.bytes.0

pub loop-count-preserved : goal.loop-count-preserved
loop-count-preserved g c = record {
  reads = reads_more _ _ _ c.args.run.now c.loop-count.run c.feed.new.self _ c.loop-count.invariant.reads c.in_ok-count.ensures.bytes.0
      (rw c.in_default.is at c.in_ok-ended.ensures.feeds);
  ready = c.in_ok-ended.ensures.ready;
  later = omega (arith, c.loop-count.invariant.later, c.in_ok-count.ensures.cause.later);
  room = omega (arith, c.loop-count.invariant.room, c.take.auto.into);
}
