use Rattle.std.proofs.Common.{refl, sym}
use Rattle.dl_transcript.specs.Legal.{sees}
use Rattle.dl_shown.proofs.Judging.{refuses, allows, put_stands, close_same}
use Rattle.dl_shown.proofs.stream.StreamShown.close.Goals as goal

pub returns-then-not-may_close : goal.returns-then-not-may_close
returns-then-not-may_close c = λ s name h. refuses _ _ (sym c.if-not-may_close.ensures) (close_same c.args.self.now s name c.args.segment h)

pub returns : goal.returns
unfolding sees
returns c = λ s name h. allows _ _ (sym c.if-not-may_close.ensures) (close_same c.args.self.now s name c.args.segment h)
    (put_stands _ name _ _ (record { closed = refl; mark = h.mark; some = h.some; point = h.point; moved = h.moved; writers = h.writers; ends = h.ends }))
