use Rattle.std.proofs.Common.{◌<◌, length, arith}
use Rattle.dl_pool.proofs.HeldLemmas.{some_is_live, added_keeps, added_apart, freed_keeps}
use Rattle.dl_base_rows.proofs.pool.freed_pages_need_not_be_neighbours.Goals as goal

pub free-requires-2 : goal.free-requires-2
free-requires-2 g c =
    let first = c.in_ok-first.first in
    let kept =
    added_keeps c.put.new.self c.in_ok-_kept._kept c.deref-2.result.now c.put-2.new.self first c.deref.result.now c.in_ok-_kept.ensures.ok
    (omega (arith, c.deref-2.ensures.len, c.in_ok-page.ensures.len)) c.in_ok-first.ensures.ok.here in
    let some : 0 < length c.deref-3.result.now = omega (arith, c.deref-3.ensures.len, c.in_ok-page.ensures.len) in
    let apart = added_apart c.put-2.new.self c.in_ok-last.last c.deref-3.result.now c.put-3.new.self first c.deref.result.now
    c.in_ok-last.ensures.ok some kept in
    some_is_live _ c.deref.result.now
    (freed_keeps c.free.new.self c.in_ok-last.last c.deref-3.result.now c.put-3.new.self first c.deref.result.now
    (c.free.ensures c.deref-3.result.now c.in_ok-last.ensures.ok.here) apart
    (added_keeps c.put-2.new.self c.in_ok-last.last c.deref-3.result.now c.put-3.new.self first c.deref.result.now c.in_ok-last.ensures.ok some kept))
