use Rattle.std.proofs.Common.{sym, subst}
use Rattle.dl_record.specs.Reading.{entry_at}
use Rattle.dl_rules_stream.specs.LogReaders.{is_wanted}
use Rattle.dl_reader.specs.Low.{AreLow}
use Rattle.dl_reader.proofs.Rows.{low_wanted}
use Rattle.dl_reader.proofs.gathered.Gathered.of_entry.Goals as goal

pub invariant_of-result : goal.invariant_of-result
invariant_of-result c =
    subst AreLow (sym c.in_ok-rows.ensures)
    (low_wanted c.args.segment c.args.entry (is_wanted c.args.position) (entry_at c.args.bytes.now) c.requires)
