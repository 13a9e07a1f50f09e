use Rattle.std.proofs.lemmas.Result.{err_from_is_err_and}
use Rattle.dl_fields.specs.Lists.{items_from}
use Rattle.dl_fields.proofs.ItemLemmas.{items_go_on, items_fail}
use Rattle.dl_fields.proofs.items.read_items.Goals as goal

pub returns-in_err-item : goal.returns-in_err-item
returns-in_err-item g c =
    let p = err_from_is_err_and c.from_residual.result c.from_residual.ensures.1 in
    let read = g.R.ItemReader.from c.args.reader.now in
    rw (p.1, p.2) (items_fail read c.loop.items.items c.args.count c.loop.counter c.loop.rest.now c.in_err-item.field-0.0
    (items_from read c.args.count c.args.bytes.now) c.loop-test.true c.in_err-item.ensures c.loop.invariant)

pub loop-preserved : goal.loop-preserved
loop-preserved g c =
    let read = g.R.ItemReader.from c.args.reader.now in
    rw c.in_ok-push.ensures.items (items_go_on read c.loop.items.items c.args.count c.loop.counter c.loop.rest.now c.in_ok-item.more.now
    c.in_ok-item.item (items_from read c.args.count c.args.bytes.now) c.loop-test.true c.in_ok-item.ensures c.loop.invariant)
