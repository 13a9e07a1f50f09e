use Rattle.std.proofs.Common.{◌≡◌, length, subst, arith}
use Rattle.dl_pool.specs.Pages.{walk, HasPages}
use Rattle.dl_pool.specs.Pools.{pages_of}
use Rattle.dl_pool.proofs.ChainLemmas.{page_after-within, page_after_next, filled_page}
use Rattle.dl_pool.proofs.pages.fill.Goals as goal

pub write_page-requires-clause-room : goal.write_page-requires-clause-room
write_page-requires-clause-room c =
    omega (
      arith,
      page_after-within c.args.next.now c.args.first c.loop-index.index (pages_of (length c.args.bytes.now)) (length c.args.next.now) c.loop-index.page
          c.loop-index.invariant.page (omega (arith, c.loop-index-test.true, c.pages_of-index-end.ensures)) c.requires.within,
      c.requires.room,
      c.loop-index.invariant.capacity,
    )

pub bounds-next-page : goal.bounds-next-page
bounds-next-page c =
    page_after-within c.args.next.now c.args.first c.loop-index.index (pages_of (length c.args.bytes.now)) (length c.args.next.now) c.loop-index.page
    c.loop-index.invariant.page (omega (arith, c.loop-index-test.true, c.pages_of-index-end.ensures)) c.requires.within

pub loop-index-preserved : goal.loop-index-preserved
loop-index-preserved c =
    let next = c.args.next.now in
    let first = c.args.first in
    let i = c.loop-index.index in
    record {
      page = page_after_next next first i c.loop-index.page c.loop-index.invariant.page;
      filled = filled_page c.args.memory.now.items c.loop-index.memory.items c.write_page.new.memory.items next c.args.bytes.now first i
          (pages_of (length c.args.bytes.now)) c.loop-index.page c.min.result
          (omega (arith, c.loop-index-test.true, c.pages_of-index-end.ensures)) c.requires.once c.loop-index.invariant.page c.min.ensures
          c.write_page.ensures.here c.write_page.ensures.page c.write_page.ensures.writes c.loop-index.invariant.filled;
      capacity = omega (arith, c.loop-index.invariant.capacity, c.write_page.ensures.capacity);
    }

pub returns-clause-pages : goal.returns-clause-pages
returns-clause-pages c =
    let all : c.loop-index.index ≡ pages_of (length c.args.bytes.now) = omega (arith, c.loop-index-test.false, c.pages_of-index-end.ensures) in
    subst (λ k. HasPages c.loop-index.memory.items (walk c.args.next.now c.args.first k)) all c.loop-index.invariant.filled.pages
