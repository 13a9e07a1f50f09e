use Rattle.std.proofs.Common.{arith}
use Rattle.dl_pool.proofs.LiveLemmas.{none_readable, none_joined, none_pages, live_below, live_readable, live_joined, live_pages}
use Rattle.dl_pool.proofs.pool.Pool.parts.Goals as goal

pub new-requires : goal.new-requires
new-requires c = none_readable c.deref.result.now c.deref-then-number-eq0.result.now

pub returns-then-number-eq0-clause-joined : goal.returns-then-number-eq0-clause-joined
returns-then-number-eq0-clause-joined c =
    none_joined c.args.self.now c.args.span.now c.number-number.result c.new.result c.deref.result.now c.deref-then-number-eq0.result.now
    c.number-number.ensures c.if-number-eq0.true c.new.ensures

pub returns-then-number-eq0-clause-pages : goal.returns-then-number-eq0-clause-pages
returns-then-number-eq0-clause-pages c = none_pages c.new.result c.deref.result.now c.deref-then-number-eq0.result.now c.new.ensures

pub index-requires : goal.index-requires
index-requires c =
    omega (
      arith,
      live_below _ _ _ _ _ c.self.invariant.sound c.args.self.now c.args.span.now c.number-number.result c.self.view_is c.number-number.ensures
          c.if-number-eq0.false c.requires,
      c.self.invariant.sound.lengths_length,
      c.self.inside.lengths.ok,
    )

pub new-requires-2 : goal.new-requires-2
new-requires-2 c =
    live_readable _ _ _ _ _ c.self.invariant.sound c.args.self.now c.args.span.now c.number-number.result c.self.view_is c.number-number.ensures
    c.if-number-eq0.false c.requires
    c.deref-2.result.now c.deref-3.result.now c.index.result.now c.deref-2.ensures.value c.deref-3.ensures.value c.index.ensures

pub returns-clause-joined : goal.returns-clause-joined
returns-clause-joined c =
    live_joined _ _ _ _ _ c.self.invariant.sound c.args.self.now c.args.span.now c.number-number.result c.self.view_is c.number-number.ensures
    c.if-number-eq0.false c.requires
    c.deref-2.result.now c.deref-3.result.now c.index.result.now c.deref-2.ensures.value c.deref-3.ensures.value c.index.ensures c.new-2.result c.new-2.ensures

pub returns-clause-pages : goal.returns-clause-pages
returns-clause-pages c =
    live_pages _ _ _ _ _ c.self.invariant.sound c.args.self.now c.args.span.now c.number-number.result c.self.view_is c.number-number.ensures
    c.if-number-eq0.false c.requires
    c.deref-2.result.now c.deref-3.result.now c.index.result.now c.deref-2.ensures.value c.deref-3.ensures.value c.index.ensures c.new-2.result c.new-2.ensures
