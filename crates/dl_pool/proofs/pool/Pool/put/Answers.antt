use Rattle.std.proofs.Common.{◌≡◌, true≢false, length, sym, ap, ◌∙◌, refl, arith, eqb-true}
use Rattle.dl_pool.specs.Pools.{spare, pages_of}
use Rattle.dl_pool.proofs.PageLemmas.{pages_of-zero}
use Rattle.dl_pool.proofs.SoundLemmas.{spare-pool_of}
use Rattle.dl_pool.proofs.PutLemmas.{has_room, fill_within, fill_once, fill_first, filled_sound, filled_adds}
use Rattle.dl_pool.proofs.EmptyLemmas.{empty_adds}
use Rattle.dl_pool.proofs.pool.Pool.put.Goals as goal

pub returns-then-self-needed-clause-full : goal.returns-then-self-needed-clause-full
returns-then-self-needed-clause-full c =
    let left : spare c.args.self.now ≡ c.self.inside.spare = ap spare (sym c.self.view_is) ∙ spare-pool_of _ _ _ _ _ c.self.invariant.sound in
    (λ _. omega (arith, left, c.pages_of-needed.ensures, c.if-self-needed.true), λ _. refl)

pub returns-then-is_empty-clause-full : goal.returns-then-is_empty-clause-full
returns-then-is_empty-clause-full c =
    let none : length c.args.bytes.now ≡ 0 = eqb-true (length c.args.bytes.now) 0 (sym c.is_empty.ensures ∙ c.if-is_empty.true) in
    (λ e. absurd (true≢false (sym e)), λ few. absurd (omega (arith, few, ap pages_of none, pages_of-zero)))

pub returns-then-is_empty-clause-ok : goal.returns-then-is_empty-clause-ok
returns-then-is_empty-clause-ok c =
    empty_adds c.args.self.now c.new.result c.args.bytes.now c.new.ensures
    (eqb-true (length c.args.bytes.now) 0 (sym c.is_empty.ensures ∙ c.if-is_empty.true))

pub fill-self-inside-requires-clause-within : goal.fill-self-inside-requires-clause-within
fill-self-inside-requires-clause-within c =
    fill_within _ _ _ _ _ _ _ (has_room _ _ _ _ _ _ _ c.self.invariant.sound c.is_empty.result c.is_empty.ensures c.if-is_empty.false
    c.pages_of-needed.ensures c.if-self-needed.false) c.deref.result.now c.deref.ensures.value

pub fill-self-inside-requires-clause-once : goal.fill-self-inside-requires-clause-once
fill-self-inside-requires-clause-once c =
    fill_once _ _ _ _ _ _ _ (has_room _ _ _ _ _ _ _ c.self.invariant.sound c.is_empty.result c.is_empty.ensures c.if-is_empty.false
    c.pages_of-needed.ensures c.if-self-needed.false) c.deref.result.now c.deref.ensures.value

pub index_mut-requires : goal.index_mut-requires
index_mut-requires c =
    omega (
      arith,
      fill_first _ _ _ _ _ _ _ (has_room _ _ _ _ _ _ _ c.self.invariant.sound c.is_empty.result c.is_empty.ensures c.if-is_empty.false
          c.pages_of-needed.ensures c.if-self-needed.false),
      c.self.invariant.sound.lengths_length,
      c.self.inside.lengths.ok,
    )

pub overflow_add-first : goal.overflow_add-first
overflow_add-first c =
    omega (
      arith,
      fill_first _ _ _ _ _ _ _ (has_room _ _ _ _ _ _ _ c.self.invariant.sound c.is_empty.result c.is_empty.ensures c.if-is_empty.false
          c.pages_of-needed.ensures c.if-self-needed.false),
      c.self.invariant.sound.few,
    )

pub invariant_of-self : goal.invariant_of-self
invariant_of-self c = record {
  room = omega (arith, c.self.invariant.room, c.fill-self-inside.ensures.capacity);
  sound =
      filled_sound _ _ _ _ _ _ _ (has_room _ _ _ _ _ _ _ c.self.invariant.sound c.is_empty.result c.is_empty.ensures c.if-is_empty.false
      c.pages_of-needed.ensures c.if-self-needed.false) c.deref.result.now c.deref.ensures.value
      c.fill-self-inside.new.memory.items c.fill-self-inside.result c.fill-self-inside.ensures.after c.fill-self-inside.ensures.pages
      c.fill-self-inside.ensures.writes;
}

pub returns-clause-full : goal.returns-clause-full
returns-clause-full c =
    let left : spare c.args.self.now ≡ c.self.inside.spare = ap spare (sym c.self.view_is) ∙ spare-pool_of _ _ _ _ _ c.self.invariant.sound in
    (λ e. absurd (true≢false (sym e)), λ few. absurd (omega (arith, few, left, c.pages_of-needed.ensures, c.if-self-needed.false)))

pub returns-clause-ok : goal.returns-clause-ok
returns-clause-ok c =
    filled_adds _ _ _ _ _ _ _ (has_room _ _ _ _ _ _ _ c.self.invariant.sound c.is_empty.result c.is_empty.ensures c.if-is_empty.false
    c.pages_of-needed.ensures c.if-self-needed.false) c.deref.result.now c.deref.ensures.value
    c.fill-self-inside.new.memory.items c.fill-self-inside.result c.fill-self-inside.ensures.after c.fill-self-inside.ensures.pages
    c.fill-self-inside.ensures.writes
    c.args.self.now c.new-2.result c.self.view_is c.new-2.ensures c.fill-self-inside.ensures.here
