use Rattle.std.proofs.Common.{[], ◌++◌, length, refl, sym, ◌∙◌, arith}
use Rattle.dl_fields.proofs.ReaderLemmas.{bytes_behind}
use Rattle.dl_rules_nodes.specs.Items.{item_bytes}
use Rattle.dl_items.specs.Heads.{item_of}
use Rattle.dl_items.proofs.BodyLemmas.{reads_on, reads_none, is_none}
use Rattle.dl_restore.proofs.EntryLemmas.{batch_begins}
use Rattle.dl_restore.proofs.EntryLoops.{underway_step, underway_end}
use Rattle.dl_restore.proofs.LedgerLemmas.{ledgers_go_on, ledgers_end}
use Rattle.dl_restore.proofs.count.count_items.Goals as goal

pub loop-item-init : goal.loop-item-init
loop-item-init c = record {
  fits = refl;
  same = refl;
  bytes = λ i. omega (arith, c.type_inv.body i);
  entries = λ before items spells start holds. record {
    done = [];
    todo = items;
    all = refl;
    valid = spells.valid;
    spelt = spells.spelt;
    place = omega (arith, start);
    counted = batch_begins before c.args.entries.now c.args.had.entries holds;
  };
  ledgers = λ before items spells holds. record { done = before; todo = items; all = refl; valid = spells.valid; spelt = spells.spelt; counted = holds };
}

pub loop-item-preserved : goal.loop-item-preserved
loop-item-preserved c =
    let rest = c.loop-item.rest.now in
    let more = c.in-Ok.more.now in
    let h = c.in-Ok.item.head in
    let bytes = c.in-Ok.item.entry.now in
    record {
      fits = omega (arith, c.in-Ok.ensures.found.less, c.loop-item.invariant.fits);
      same = sym (reads_on rest (item_of h bytes) more c.loop-item.invariant.bytes c.in-Ok.ensures.exact) ∙ c.loop-item.invariant.same;
      bytes = bytes_behind (item_bytes (item_of h bytes)) more rest c.in-Ok.ensures.found.spelt c.loop-item.invariant.bytes;
      entries = λ before items spells start holds.
          underway_step before items c.loop-item.at rest more h bytes c.loop-item.entries c.count_item-has.new.entries c.loop-item.room.entries
          c.count_item-has.result.entries c.in-Ok.ensures.exact c.in-Ok.ensures.found c.count_item-has.ensures.entries
          (c.loop-item.invariant.entries before items spells start holds);
      ledgers = λ before items spells holds.
          ledgers_go_on (before ++ items) rest more h bytes c.loop-item.ledgers c.count_item-has.new.ledgers c.loop-item.room.ledgers
          c.count_item-has.result.ledgers c.in-Ok.ensures.exact c.in-Ok.ensures.found c.count_item-has.ensures.ledgers
          (c.loop-item.invariant.ledgers before items spells holds);
    }

pub returns-clause-whole : goal.returns-clause-whole
returns-clause-whole c = λ none. sym c.loop-item.invariant.same ∙ reads_none c.loop-item.rest.now (is_none (length c.loop-item.rest.now) (sym none ∙ c.is_empty.ensures))

pub returns-clause-entries : goal.returns-clause-entries
returns-clause-entries c = λ before items spells start holds.
    underway_end before items c.loop-item.at c.loop-item.rest.now c.in_default.field-0 c.loop-item.entries c.loop-item.room.entries c.in_default.ensures.exact
    (c.loop-item.invariant.entries before items spells start holds)

pub returns-clause-ledgers : goal.returns-clause-ledgers
returns-clause-ledgers c = λ before items spells holds.
    ledgers_end (before ++ items) c.loop-item.rest.now c.in_default.field-0 c.loop-item.ledgers c.loop-item.room.ledgers c.in_default.ensures.exact
    (c.loop-item.invariant.ledgers before items spells holds)
