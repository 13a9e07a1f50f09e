use Rattle.std.proofs.lemmas.Result.{err_from_is_err_and}
use Rattle.dl_text.specs.Ends.{space, line_feed}
use Rattle.dl_io.specs.Notes.{word_number}
use Rattle.dl_io.proofs.WriteLemmas.{writes_then, writes_stopped}
use Rattle.dl_io.proofs.notes.write_two_numbers.Goals as goal

pub returns-in_err-write_word_number : goal.returns-in_err-write_word_number
returns-in_err-write_word_number g c =
    let p = err_from_is_err_and c.from_residual.result c.from_residual.ensures.1 in
    rw p.1
    (writes_stopped _ _ (word_number c.args.first.now space c.args.one) (word_number c.args.second.now line_feed c.args.other) _ _
    c.in_err-write_word_number.ensures)

pub returns : goal.returns
returns g c =
    writes_then _ _ _ (word_number c.args.first.now space c.args.one)
    (word_number c.args.second.now line_feed c.args.other) _ _ c.in_ok-write_word_number.ensures c.write_word_number-2.ensures
