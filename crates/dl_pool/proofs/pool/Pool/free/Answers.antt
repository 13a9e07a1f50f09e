use Rattle.std.proofs.Common.{◌≡◌, sym, ◌∙◌, arith}
use Rattle.std.proofs.lemmas.List.{length-set}
use Rattle.dl_pool.proofs.EmptyLemmas.{empty_adds, empty_bytes}
use Rattle.dl_pool.proofs.LiveLemmas.{live_below}
use Rattle.dl_pool.proofs.FreedLemmas.{needed_some, freed_within, freed_last, freed_sound, freed_adds}
use Rattle.dl_pool.proofs.pool.Pool.free.Goals as goal

pub returns-then-number-eq0 : goal.returns-then-number-eq0
returns-then-number-eq0 c bytes here =
    let none : c.args.span ≡ 0 = sym c.number-number.ensures ∙ c.if-number-eq0.true in
    empty_adds c.args.self.now c.args.span bytes none (empty_bytes c.args.self.now c.args.span bytes none here)

pub index-requires : goal.index-requires
index-requires c =
    omega (
      arith,
      live_below _ _ _ _ _ c.self.invariant.sound c.args.self.now c.args.span c.number-number.result c.self.view_is
          c.number-number.ensures c.if-number-eq0.false c.requires,
      c.self.invariant.sound.lengths_length,
      c.self.inside.lengths.ok,
    )

pub overflow_sub-needed : goal.overflow_sub-needed
overflow_sub-needed c =
    needed_some _ _ _ _ _ c.self.invariant.sound c.args.self.now c.args.span c.number-number.result c.self.view_is c.number-number.ensures
    c.if-number-eq0.false c.requires
    c.index.result.now c.pages_of-needed.result c.index.ensures c.pages_of-needed.ensures

pub follow-last-requires : goal.follow-last-requires
follow-last-requires c =
    freed_within _ _ _ _ _ c.self.invariant.sound c.args.self.now c.args.span c.number-number.result c.self.view_is c.number-number.ensures
    c.if-number-eq0.false c.requires
    c.index.result.now c.pages_of-needed.result c.index.ensures c.pages_of-needed.ensures c.deref.result.now c.deref.ensures.value

pub index_mut-requires : goal.index_mut-requires
index_mut-requires c =
    omega (
      arith,
      freed_last _ _ _ _ _ c.self.invariant.sound c.args.self.now c.args.span c.number-number.result c.self.view_is c.number-number.ensures
          c.if-number-eq0.false c.requires
          c.index.result.now c.pages_of-needed.result c.index.ensures c.pages_of-needed.ensures c.deref.result.now c.deref.ensures.value
          c.follow-last.result c.follow-last.ensures,
      c.self.inside.next.ok,
    )

pub index_mut-requires-2 : goal.index_mut-requires-2
index_mut-requires-2 c =
    omega (
      arith,
      live_below _ _ _ _ _ c.self.invariant.sound c.args.self.now c.args.span c.number-number.result c.self.view_is
          c.number-number.ensures c.if-number-eq0.false c.requires,
      c.self.invariant.sound.lengths_length,
      c.self.inside.lengths.ok,
    )

pub overflow_cast-self : goal.overflow_cast-self
overflow_cast-self c =
    let after =
    freed_sound _ _ _ _ _ c.self.invariant.sound c.args.self.now c.args.span c.number-number.result c.self.view_is c.number-number.ensures
    c.if-number-eq0.false c.requires
    c.index.result.now c.pages_of-needed.result c.index.ensures c.pages_of-needed.ensures c.deref.result.now c.deref.ensures.value
    c.follow-last.result c.follow-last.ensures in
    omega (arith, after.counted, after.few)

pub overflow_add-self : goal.overflow_add-self
overflow_add-self c =
    let after =
    freed_sound _ _ _ _ _ c.self.invariant.sound c.args.self.now c.args.span c.number-number.result c.self.view_is c.number-number.ensures
    c.if-number-eq0.false c.requires
    c.index.result.now c.pages_of-needed.result c.index.ensures c.pages_of-needed.ensures c.deref.result.now c.deref.ensures.value
    c.follow-last.result c.follow-last.ensures in
    omega (arith, after.counted, after.few)

pub invariant_of-self : goal.invariant_of-self
invariant_of-self c = record {
  room = omega (arith, c.self.invariant.room, length-set c.self.inside.next.items c.follow-last.result c.self.inside.free);
  sound =
      freed_sound _ _ _ _ _ c.self.invariant.sound c.args.self.now c.args.span c.number-number.result c.self.view_is c.number-number.ensures
      c.if-number-eq0.false c.requires
      c.index.result.now c.pages_of-needed.result c.index.ensures c.pages_of-needed.ensures c.deref.result.now c.deref.ensures.value
      c.follow-last.result c.follow-last.ensures;
}

pub returns : goal.returns
returns c =
    freed_adds _ _ _ _ _ c.self.invariant.sound c.args.self.now c.args.span c.number-number.result c.self.view_is c.number-number.ensures
    c.if-number-eq0.false c.requires
    c.index.result.now c.pages_of-needed.result c.index.ensures c.pages_of-needed.ensures c.deref.result.now c.deref.ensures.value
    c.follow-last.result c.follow-last.ensures
