use Rattle.std.proofs.Common.{sym, ◌∙◌}
use Rattle.dl_transcript.specs.Legal.{sees}
use Rattle.dl_shown.proofs.Judging.{refuses, allows, put_stands, commit_same}
use Rattle.dl_shown.proofs.stream.StreamShown.commit.Goals as goal
use Rattle.dl_types.specs.Places.{greater}

pub returns-then-not-may_commit : goal.returns-then-not-may_commit
returns-then-not-may_commit c = λ s name h. refuses _ _ (sym c.if-not-may_commit.ensures) (commit_same c.args.self.now s name c.args.place h)

pub returns : goal.returns
unfolding sees
returns c = λ s name h. allows _ _ (sym c.if-not-may_commit.ensures) (commit_same c.args.self.now s name c.args.place h)
    (put_stands _ name _ _ (record {
      closed = h.closed;
      mark = c.greater-self.ensures ∙ (λ i. greater (h.mark i) c.args.place);
      some = h.some;
      point = h.point;
      moved = h.moved;
      writers = h.writers;
      ends = h.ends;
    }))
