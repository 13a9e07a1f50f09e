use Rattle.std.proofs.Common.{◌-◌, ◌∷◌, length, slice_index, sym, ◌∙◌, ap, arith}
use Rattle.dl_pool.specs.Pools.{pages_of}
use Rattle.dl_pool.specs.Pages.{walk, parts_in}
use Rattle.dl_pool.proofs.ReadLemmas.{no_parts, first_readable, rest_readable, parts_step}
use Rattle.dl_pool.proofs.parts.PartsIterator.next.Goals as goal

pub returns-then-self-eq0-clause-steps : goal.returns-then-self-eq0-clause-steps
returns-then-self-eq0-clause-steps c =
    let none = sym c.self.view_is ∙ no_parts c.self.inside.memory.now c.self.inside.links.now c.self.inside.page c.self.inside.left c.if-self-eq0.true in
    (none, none)

-- the page that comes next
pub read_page-part-requires-clause-page : goal.read_page-part-requires-clause-page
read_page-part-requires-clause-page c =
    (first_readable c.self.inside.memory.now c.self.inside.links.now c.self.inside.page c.self.inside.left c.self.invariant
    (omega (arith, c.if-self-eq0.false))).1

pub invariant_of-self : goal.invariant_of-self
invariant_of-self c =
    rest_readable c.self.inside.memory.now c.self.inside.links.now c.self.inside.page c.self.inside.left c.min-count.result c.self.invariant
    (omega (arith, c.if-self-eq0.false)) c.min-count.ensures

pub returns-clause-steps : goal.returns-clause-steps
returns-clause-steps c =
    let m = c.self.inside.memory.now in
    let links = c.self.inside.links.now in
    let left = c.self.inside.left - c.min-count.result in
    sym c.self.view_is
    ∙ parts_step m links c.self.inside.page c.self.inside.left c.min-count.result (omega (arith, c.if-self-eq0.false)) c.min-count.ensures
    ∙ ap (λ part. part ∷ parts_in m (walk links (slice_index links c.self.inside.page) (pages_of left)) left) (sym c.read_page-part.ensures)

pub returns-clause-goes : goal.returns-clause-goes
returns-clause-goes c =
    let shorter = ap length
    (sym c.self.view_is
    ∙ parts_step c.self.inside.memory.now c.self.inside.links.now c.self.inside.page c.self.inside.left c.min-count.result
    (omega (arith, c.if-self-eq0.false)) c.min-count.ensures) in
    record { on = λ _. (tt, tt, omega (arith, shorter)); keeps = tt; rests = λ _. tt }

pub bounds-self-inside-self-inside : goal.bounds-self-inside-self-inside
bounds-self-inside-self-inside c =
    (first_readable c.self.inside.memory.now c.self.inside.links.now c.self.inside.page c.self.inside.left c.self.invariant
    (omega (arith, c.if-self-eq0.false))).0
