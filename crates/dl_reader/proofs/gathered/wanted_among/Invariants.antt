use Rattle.std.proofs.Common.{◌≡◌, ◌++◌, drop, filter, map}
use Rattle.dl_record.specs.RowViews.{shared_view}
use Rattle.dl_rules_stream.specs.LogReaders.{is_wanted}
use Rattle.dl_reader.specs.Readings.{row_at}
use Rattle.dl_reader.proofs.gathered.wanted_among.Given as goal

abbrev pub invariant-loop-row : goal.invariant-loop-row
invariant-loop-row l =
    l.wanted.items ++ filter (is_wanted l.fn.position) (map (row_at l.fn.segment l.fn.entry) (map shared_view (drop l.row-index l.rows)))
    ≡ filter (is_wanted l.fn.position) (map (row_at l.fn.segment l.fn.entry) (map shared_view l.rows))
