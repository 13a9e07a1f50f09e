use Rattle.std.proofs.Common.{codes}
use Rattle.std.proofs.lemmas.Result.{err_from_is_err_and}
use Rattle.dl_text.specs.Refusals.{refusal_field}
use Rattle.dl_io.proofs.WriteLemmas.{writes_then, writes_stopped}
use Rattle.dl_io.proofs.notes.write_refused.Goals as goal

pub returns-in_err-write_all : goal.returns-in_err-write_all
returns-in_err-write_all g c =
    let p = err_from_is_err_and c.from_residual.result c.from_residual.ensures.1 in
    rw p.1 (writes_stopped _ _ (codes "refused: ") (refusal_field c.args.refusal.now) _ _ c.in_err-write_all.ensures)

pub returns : goal.returns
returns g c = writes_then _ _ _ (codes "refused: ") (refusal_field c.args.refusal.now) _ _ c.in_ok-write_all.ensures c.write_refusal.ensures
