use Rattle.std.proofs.lemmas.Result.{err_from_is_err_and}
use Rattle.dl_text.specs.Ends.{colon, line_feed}
use Rattle.dl_text.specs.Numbers.{number}
use Rattle.dl_io.proofs.WriteLemmas.{writes_then, writes_stopped}
use Rattle.dl_io.proofs.notes.write_entry_slot.Goals as goal

pub returns-in_err-write_number : goal.returns-in_err-write_number
returns-in_err-write_number g c =
    let p = err_from_is_err_and c.from_residual.result c.from_residual.ensures.1 in
    rw p.1 (writes_stopped _ _ (number colon c.args.place.now.entry) (number line_feed c.args.place.now.slot) _ _ c.in_err-write_number.ensures)

pub returns : goal.returns
returns g c =
    writes_then _ _ _ (number colon c.args.place.now.entry) (number line_feed c.args.place.now.slot) _ _ c.in_ok-write_number.ensures
    (rw c.from.ensures at c.write_number-2.ensures)
