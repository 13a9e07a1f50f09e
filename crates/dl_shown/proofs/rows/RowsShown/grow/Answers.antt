use Rattle.std.proofs.Common.{refl}
use Rattle.dl_shown.proofs.RowLemmas.{grows}
use Rattle.dl_shown.proofs.rows.RowsShown.grow.Goals as goal

pub returns : goal.returns
returns c = λ rows h may. grows c.args.self.now _ c.note.new.self rows c.args.row h may c.in_ok-note.ensures c.in_ok-push.ensures.items refl refl refl refl
