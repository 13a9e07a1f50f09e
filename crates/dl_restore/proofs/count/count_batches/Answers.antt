use Rattle.std.proofs.Common.{◌+◌, [], drop, refl, sym, subst, ◌∙◌}
use Rattle.std.proofs.Math.ListN.{drop_of_length-le}
use Rattle.dl_restore.specs.Bodies.{bodies_of}
use Rattle.dl_restore.specs.Entries.{EntriesHold, BatchesUnderway}
use Rattle.dl_restore.specs.Ledgers.{LedgersHold, LedgerBatchesUnderway}
use Rattle.dl_restore.proofs.CheckLemmas.{next_batch, next_body, check_on, check_stop, check_end, found_on, found_end, fits_on, fits_one}
use Rattle.dl_restore.proofs.EntryLemmas.{entries_none}
use Rattle.dl_restore.proofs.EntryLoops.{batches_step, batches_end}
use Rattle.dl_restore.proofs.LedgerLemmas.{ledgers_none, ledger_batches_step, ledger_batches_end}
use Rattle.dl_restore.proofs.count.count_batches.Goals as goal

pub loop-batch-init : goal.loop-batch-init
loop-batch-init c = record {
  same = refl;
  found = λ all. all;
  fits = c.requires.file;
  entries = λ items spell. record {
    done = [];
    todo = items;
    all = refl;
    spell = spell;
    place = refl;
    counted = subst (λ es. EntriesHold [] [] es) (sym c.requires.entries) entries_none;
  };
  ledgers = λ items spell. record {
    done = [];
    todo = items;
    all = refl;
    spell = spell;
    counted = subst (λ ls. LedgersHold [] ls) (sym c.requires.ledgers) ledgers_none;
  };
}

pub count_batch-requires : goal.count_batch-requires
count_batch-requires c =
    let i = c.loop-batch.batch-index in
    let e = next_batch c.args.batches.now i c.batch-item.result c.loop-batch-test.true c.batch-item.is in
    fits_one c.loop-batch.gate c.as_slice-body.result.now c.batch-item.result (drop i c.args.batches.now) (drop (i + 1) c.args.batches.now) e
    c.as_slice-body.ensures c.loop-batch.invariant.fits

pub returns-in-Err-clause-exact : goal.returns-in-Err-clause-exact
returns-in-Err-clause-exact c =
    let i = c.loop-batch.batch-index in
    sym c.loop-batch.invariant.same
    ∙ check_stop c.loop-batch.gate c.in-Err.at c.as_slice-body.result.now c.batch-item.result (drop i c.args.batches.now) (drop (i + 1) c.args.batches.now)
    (next_batch c.args.batches.now i c.batch-item.result c.loop-batch-test.true c.batch-item.is) c.as_slice-body.ensures c.in-Err.ensures.exact

pub loop-batch-preserved : goal.loop-batch-preserved
loop-batch-preserved c =
    let i = c.loop-batch.batch-index in
    let now = drop i c.args.batches.now in
    let rest = drop (i + 1) c.args.batches.now in
    let body = c.as_slice-body.result.now in
    let e = next_batch c.args.batches.now i c.batch-item.result c.loop-batch-test.true c.batch-item.is in
    let n = next_body body c.batch-item.result now rest e c.as_slice-body.ensures in
    record {
      same = sym (check_on c.loop-batch.gate body c.batch-item.result now rest e c.as_slice-body.ensures c.in-Ok.ensures.exact) ∙ c.loop-batch.invariant.same;
      found = λ all. c.loop-batch.invariant.found (found_on body c.batch-item.result now rest e c.as_slice-body.ensures c.in-Ok.ensures.found all);
      fits = fits_on c.loop-batch.gate body c.batch-item.result now rest e c.as_slice-body.ensures c.loop-batch.invariant.fits;
      entries = λ items spell.
          batches_step items c.loop-batch.gate body (bodies_of rest) c.loop-batch.entries c.count_batch.new.entries c.loop-batch.room.entries c.in-Ok.now.entries
          c.in-Ok.ensures.entries
          (subst (λ bs. BatchesUnderway items c.loop-batch.gate bs c.loop-batch.entries c.loop-batch.room.entries) n (c.loop-batch.invariant.entries items spell));
      ledgers = λ items spell.
          ledger_batches_step items body (bodies_of rest) c.loop-batch.ledgers c.count_batch.new.ledgers c.loop-batch.room.ledgers c.in-Ok.now.ledgers
          c.in-Ok.ensures.ledgers
          (subst (λ bs. LedgerBatchesUnderway items bs c.loop-batch.ledgers c.loop-batch.room.ledgers) n (c.loop-batch.invariant.ledgers items spell));
    }

pub returns-clause-exact : goal.returns-clause-exact
returns-clause-exact c = sym c.loop-batch.invariant.same ∙ check_end c.loop-batch.gate c.loop-batch.batch-index c.args.batches.now c.loop-batch-test.false

pub returns-clause-found : goal.returns-clause-found
returns-clause-found c = c.loop-batch.invariant.found (found_end c.loop-batch.batch-index c.args.batches.now c.loop-batch-test.false)

pub returns-clause-entries : goal.returns-clause-entries
returns-clause-entries c = λ items spell.
    batches_end items c.loop-batch.gate c.loop-batch.entries c.loop-batch.room.entries
    (subst (λ bs. BatchesUnderway items c.loop-batch.gate (bodies_of bs) c.loop-batch.entries c.loop-batch.room.entries)
    (drop_of_length-le c.args.batches.now c.loop-batch-test.false) (c.loop-batch.invariant.entries items spell))

pub returns-clause-ledgers : goal.returns-clause-ledgers
returns-clause-ledgers c = λ items spell.
    ledger_batches_end items c.loop-batch.ledgers c.loop-batch.room.ledgers
    (subst (λ bs. LedgerBatchesUnderway items (bodies_of bs) c.loop-batch.ledgers c.loop-batch.room.ledgers)
    (drop_of_length-le c.args.batches.now c.loop-batch-test.false) (c.loop-batch.invariant.ledgers items spell))
