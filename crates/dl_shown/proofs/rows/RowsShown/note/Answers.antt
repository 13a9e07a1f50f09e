use Rattle.std.proofs.Common.{refl, ap, ◌∙◌, ◌==◌, ◌&&◌, cond, Some}
use Rattle.dl_shown.specs.Rows.{place_of}
use Rattle.dl_shown.proofs.rows.RowsShown.note.Goals as goal

pub returns : goal.returns
returns c = record {
  kept = refl;
  top = refl;
  last = c.number-self.ensures.value;
  places = λ b m. c.in_ok-_old.ensures.updates.0 (record { client = b; call = m })
      ∙ ap (λ k. cond (k == b && c.args.row.now.origin.call == m) (Some c.args.row.now.place) (place_of c.args.self.now b m)) c.number.ensures.value;
  tops = λ k. c.in_ok-_last.ensures.updates.0 k;
}
