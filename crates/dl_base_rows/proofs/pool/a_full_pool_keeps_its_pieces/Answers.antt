use Rattle.std.proofs.Common.{ap, ◌∙◌, arith}
use Rattle.dl_pool.specs.Pools.{bytes_at}
use Rattle.dl_pool.proofs.HeldLemmas.{some_is_live, added_keeps}
use Rattle.dl_base_rows.proofs.pool.a_full_pool_keeps_its_pieces.Goals as goal

pub joins-requires : goal.joins-requires
joins-requires g c =
    some_is_live _ c.deref.result.now
    (ap (λ h. bytes_at h c.in_ok-first.first) c.in-Err.ensures.err
    ∙ added_keeps c.put.new.self c.in_ok-second.second c.deref-2.result.now c.put-2.new.self c.in_ok-first.first c.deref.result.now c.in_ok-second.ensures.ok
    (omega (arith, c.deref-2.ensures.len, c.in_ok-four.ensures.len)) c.in_ok-first.ensures.ok.here)
