use Rattle.std.proofs.Common.{sym, ◌∙◌}
use Rattle.dl_transcript.specs.Legal.{sees}
use Rattle.dl_shown.proofs.Judging.{refuses, allows, put_stands, last_push, moved_more, points_push, move_same}
use Rattle.dl_shown.proofs.stream.StreamShown.move_point.Goals as goal
use Rattle.dl_types.specs.Places.{first_place}

pub returns-then-not-may_move : goal.returns-then-not-may_move
returns-then-not-may_move c = λ s name h. refuses _ _ (sym c.if-not-may_move.ensures) (move_same c.args.self.now s name c.args.place h)

pub returns : goal.returns
unfolding sees
returns c = λ s name h. allows _ _ (sym c.if-not-may_move.ensures) (move_same c.args.self.now s name c.args.place h)
    (put_stands _ name _ _ (record {
      closed = h.closed;
      mark = h.mark;
      some = points_push (s.streams name).points c.args.place;
      point = sym (last_push first_place (s.streams name).points c.args.place);
      moved = λ d. c.in_ok-_new.ensures.updates.0 d ∙ moved_more d c.args.place (s.streams name).points _ h.some (h.moved d);
      writers = h.writers;
      ends = h.ends;
    }))
