use Rattle.std.proofs.lemmas.Result.{err_from_is_err_and}
use Rattle.dl_text.specs.Ends.{space, line_feed}
use Rattle.dl_text.specs.Numbers.{number}
use Rattle.dl_io.proofs.WriteLemmas.{writes_then, writes_stopped}
use Rattle.dl_io.proofs.notes.write_pair.Goals as goal

pub returns-in_err-write_number : goal.returns-in_err-write_number
returns-in_err-write_number g c =
    let p = err_from_is_err_and c.from_residual.result c.from_residual.ensures.1 in
    rw p.1 (writes_stopped _ _ (number space c.args.one) (number line_feed c.args.other) _ _ c.in_err-write_number.ensures)

pub returns : goal.returns
returns g c = writes_then _ _ _ (number space c.args.one) (number line_feed c.args.other) _ _ c.in_ok-write_number.ensures c.write_number-2.ensures
