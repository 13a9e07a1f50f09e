use Rattle.std.proofs.Common.{sym, ◌∙◌}
use Rattle.dl_transcript.specs.Legal.{sees}
use Rattle.dl_shown.proofs.Judging.{refuses, allows, put_stands, has_more, write_same}
use Rattle.dl_shown.proofs.stream.StreamShown.write.Goals as goal

pub returns-then-not-may_write : goal.returns-then-not-may_write
returns-then-not-may_write c = λ d s name h. refuses _ _ (sym c.if-not-may_write.ensures) (write_same c.args.self.now s name d c.args.segment h)

pub returns : goal.returns
unfolding sees
returns c = λ d s name h. allows _ _ (sym c.if-not-may_write.ensures) (write_same c.args.self.now s name d c.args.segment h)
    (put_stands _ name _ _ (record {
      closed = h.closed;
      mark = h.mark;
      some = h.some;
      point = h.point;
      moved = h.moved;
      writers = λ k. c.in_ok-_new.ensures.updates.0 k ∙ has_more k c.args.segment _ _ (h.writers k);
      ends = h.ends;
    }))
