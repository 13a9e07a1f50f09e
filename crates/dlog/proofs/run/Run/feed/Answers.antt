use Rattle.std.proofs.Common.{◌∙◌}
use Rattle.dlog.proofs.RunLemmas.{feed_goes, feed_stops, fed_size}
use Rattle.dlog.proofs.run.Run.feed.Goals as goal

pub returns-in-Some-2-clause-feeds : goal.returns-in-Some-2-clause-feeds
returns-in-Some-2-clause-feeds c =
    let takes = rw c.in-Some-2.is at c.in_ok-ended.ensures.takes in (
      takes.0,
      λ more. c.loop-line.invariant.same more
          ∙ feed_stops c.loop-line.self c.take_line.new.self c.loop-line.rest.now c.in-Some.line.now c.in-Some.after.now more c.in-Some-2.ended
          c.loop-line.invariant.ready c.in-Some.ensures takes,
    )

pub loop-line-preserved : goal.loop-line-preserved
loop-line-preserved c =
    let takes = rw c.in_default-2.is at c.in_ok-ended.ensures.takes in
    let size = rw c.in_default-2.is at c.in_ok-ended.ensures.size in
    record {
      same = λ more. c.loop-line.invariant.same more
          ∙ feed_goes c.loop-line.self c.take_line.new.self c.loop-line.rest.now c.in-Some.line.now c.in-Some.after.now more c.loop-line.invariant.ready
          c.in-Some.ensures takes;
      size = fed_size c.loop-line.self c.take_line.new.self c.loop-line.rest.now c.in-Some.line.now c.in-Some.after.now _ size c.in-Some.ensures
          c.loop-line.invariant.size;
      ready = c.in_ok-ended.ensures.ready;
    }
