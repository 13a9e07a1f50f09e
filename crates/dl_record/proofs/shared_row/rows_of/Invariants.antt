use Rattle.std.proofs.Common.{◌≡◌, ◌++◌, length, map}
use Rattle.dl_record.specs.Walks.{rows_left, IsWalk}
use Rattle.dl_record.specs.Reading.{entry_at}
use Rattle.dl_record.specs.Rows.{rows_read}
use Rattle.dl_record.specs.RowViews.{shared_view}
use Rattle.dl_record.proofs.shared_row.rows_of.Given as goal

abbrev pub invariant-loop-step : goal.invariant-loop-step
invariant-loop-step l =
    record { walk : IsWalk l.bytes l.cursor; all : map shared_view l.rows.items ++ rows_left l.bytes l.cursor ≡ rows_read (entry_at l.bytes) }

abbrev pub decreases-loop-step : goal.decreases-loop-step
decreases-loop-step l = length (rows_left l.bytes l.cursor)
