use Rattle.std.proofs.Common.{◌≡◌, ◌-◌}
use Rattle.dl_fields.specs.Lists.{items_from}
use Rattle.dl_fields.proofs.ItemLemmas.{with_front}
use Rattle.dl_fields.proofs.items.read_items.Given as goal

abbrev pub invariant-loop : goal.invariant-loop
invariant-loop g l = with_front l.items.items (items_from (g.R.ItemReader.from l.reader) (l.count - l.counter) l.rest)
    ≡ items_from (g.R.ItemReader.from l.reader) l.fn.count l.fn.bytes
