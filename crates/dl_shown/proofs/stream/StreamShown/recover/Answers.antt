use Rattle.std.proofs.Common.{sym, ap, ◌∙◌}
use Rattle.dl_transcript.specs.Legal.{sees}
use Rattle.dl_shown.specs.Streams.{ends_at}
use Rattle.dl_shown.proofs.Judging.{refuses, allows, put_stands, recover_same, ends_known, ends_more}
use Rattle.dl_shown.proofs.stream.StreamShown.recover.Goals as goal

pub returns-then-not-may_recover : goal.returns-then-not-may_recover
returns-then-not-may_recover c = λ n s name h told. refuses _ _ (sym c.if-not-may_recover.ensures)
    (recover_same c.args.self.now s name n c.args.place c.args.above h told)

pub returns : goal.returns
unfolding sees
returns c = λ n s name h told.
    let may = sym c.if-not-may_recover.ensures in
    allows _ _ may (recover_same c.args.self.now s name n c.args.place c.args.above h told)
    (put_stands _ name _ _ (record {
      closed = h.closed;
      mark = h.mark;
      some = h.some;
      point = h.point;
      moved = h.moved;
      writers = h.writers;
      ends = λ d. ap (λ o. ends_at o d) (c.in_ok-_old.ensures.updates.0 d.segment)
          ∙ ends_more c.args.place d _ (s.streams name).ends (ends_known c.args.self.now (s.streams name) c.args.place c.args.above h may) (h.ends d);
    }))
