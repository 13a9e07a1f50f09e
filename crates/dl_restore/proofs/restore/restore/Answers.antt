use Rattle.std.proofs.Common.{◌≡◌, true, false, rules, subst}
use Rattle.dl_restore.specs.Bodies.{bodies_of, all_of}
use Rattle.dl_restore.specs.Entries.{BatchesAdded}
use Rattle.dl_restore.specs.Ledgers.{LedgersAdded}
use Rattle.dl_restore.proofs.RestoreLemmas.{is_damaged, is_crowded, is_crowded_with, is_restored}
use Rattle.dl_restore.proofs.restore.restore.Goals as goal

pub returns-in-Err : goal.returns-in-Err
returns-in-Err c = λ first. is_damaged first c.in-Err.at (bodies_of c.args.batches.now) c.in-Err.ensures.exact

pub returns-then-not-room : goal.returns-then-not-room
returns-then-not-room c =
    let full : c.in-Ok.room.entries ≡ false = search rules in
    λ first. is_crowded first (bodies_of c.args.batches.now) c.in-Ok.ensures.found
    (λ items spell. subst (λ t. BatchesAdded items c.count_batches.new.entries t) full (c.in-Ok.ensures.entries items spell))

pub returns-then-not-room-2 : goal.returns-then-not-room-2
returns-then-not-room-2 c =
    let room : c.in-Ok.room.entries ≡ true = search rules in
    let full : c.in-Ok.room.ledgers ≡ false = search rules in
    λ first. is_crowded_with first (bodies_of c.args.batches.now) c.count_batches.new.entries c.in-Ok.ensures.found
    (λ items spell. subst (λ t. BatchesAdded items c.count_batches.new.entries t) room (c.in-Ok.ensures.entries items spell))
    (λ items spell. subst (λ t. LedgersAdded (all_of items) c.count_batches.new.ledgers t) full (c.in-Ok.ensures.ledgers items spell))

pub returns : goal.returns
returns c =
    let entries : c.in-Ok.room.entries ≡ true = search rules in
    let ledgers : c.in-Ok.room.ledgers ≡ true = search rules in
    λ first. is_restored first (bodies_of c.args.batches.now) c.count_batches.new.entries c.count_batches.new.ledgers c.in-Ok.ensures.found
    (λ items spell. subst (λ t. BatchesAdded items c.count_batches.new.entries t) entries (c.in-Ok.ensures.entries items spell))
    (λ items spell. subst (λ t. LedgersAdded (all_of items) c.count_batches.new.ledgers t) ledgers (c.in-Ok.ensures.ledgers items spell))
