use Rattle.std.proofs.lemmas.Result.{err_from_is_err_and}
use Rattle.dl_text.specs.Refusals.{refusal_text, refusal_word, refusal_rest}
use Rattle.dl_io.proofs.WriteLemmas.{writes_then, writes_stopped}
use Rattle.dl_io.proofs.notes.write_refusal.Goals as goal

pub returns-in_err-write_all : goal.returns-in_err-write_all
returns-in_err-write_all g c =
    let p = err_from_is_err_and c.from_residual.result c.from_residual.ensures.1 in
    rw p.1
    (writes_stopped _ _ (refusal_text (refusal_word c.args.refusal.now)) (refusal_rest c.args.refusal.now) _ _
    (rw (c.text.ensures, c.of.ensures) at c.in_err-write_all.ensures))

pub returns : goal.returns
returns g c =
    writes_then _ _ _ (refusal_text (refusal_word c.args.refusal.now)) (refusal_rest c.args.refusal.now) _ _
    (rw (c.text.ensures, c.of.ensures) at c.in_ok-write_all.ensures) c.write_rest.ensures
