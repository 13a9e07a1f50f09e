use Rattle.std.proofs.lemmas.Result.{err_from_is_err_and}
use Rattle.dl_text.specs.Ends.{space, line_feed}
use Rattle.dl_text.specs.Numbers.{number}
use Rattle.dl_text.specs.Fields.{bytes_field}
use Rattle.dl_io.proofs.WriteLemmas.{writes_then, writes_stopped}
use Rattle.dl_io.proofs.notes.write_moved.Goals as goal

pub returns-in_err-write_bytes : goal.returns-in_err-write_bytes
returns-in_err-write_bytes g c =
    let p = err_from_is_err_and c.from_residual.result c.from_residual.ensures.1 in
    rw p.1 (writes_stopped _ _ (bytes_field space c.args.path.now) (number line_feed c.args.version) _ _ c.in_err-write_bytes.ensures)

pub returns : goal.returns
returns g c = writes_then _ _ _ (bytes_field space c.args.path.now) (number line_feed c.args.version) _ _ c.in_ok-write_bytes.ensures c.write_number.ensures
