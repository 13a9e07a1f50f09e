use Rattle.std.proofs.Common.{codes, ◌++◌}
use Rattle.std.proofs.lemmas.Result.{err_from_is_err_and}
use Rattle.dl_types.specs.Statuses.{limit_text}
use Rattle.dl_text.specs.Ends.{line_feed}
use Rattle.dl_io.specs.Notes.{word_number}
use Rattle.dl_io.proofs.WriteLemmas.{writes_then, writes_stopped}
use Rattle.dl_io.proofs.notes.write_limit.Goals as goal

pub returns-in_err-write_both : goal.returns-in_err-write_both
returns-in_err-write_both g c =
    let p = err_from_is_err_and c.from_residual.result c.from_residual.ensures.1 in
    rw p.1
    (writes_stopped _ _ (codes "limit: " ++ limit_text c.args.name) (word_number (codes " ") line_feed c.args.number) _ _
    (rw c.text.ensures at c.in_err-write_both.ensures))

pub returns : goal.returns
returns g c =
    writes_then _ _ _ (codes "limit: " ++ limit_text c.args.name) (word_number (codes " ") line_feed c.args.number) _ _
    (rw c.text.ensures at c.in_ok-write_both.ensures) c.write_word_number.ensures
