use Rattle.std.proofs.Common.{◌<◌, ℕ, List, arith, is_some, ap, ◌∙◌}
use Rattle.std.specs.Vec.{vec_len, vec_capacity}
use Rattle.dl_tree.proofs.SlotLemmas.{slot_at, found, pushed, noted, Covers-noted}
use Rattle.dl_tree.proofs.nodes.Nodes.change.Goals as goal

pub invariant_of-self-2 : goal.invariant_of-self-2
invariant_of-self-2 c =
    let room : vec_len c.try_reserve-2.new.self < vec_capacity c.try_reserve-2.new.self =
    omega (arith, c.in_ok-try_reserve-2.ensures.ok) in let now = pushed _ _ _ _ _ c.push.ensures.items
    (c.push.ensures.succeeds room) c.try_reserve-2.ensures.items in
    Covers-noted c.self.inside.slots c.insert.new.self _ _ _ _ _ _ _ c.self.invariant c.in_ok-key.ensures c.in_ok-path.ensures
    c.in_ok-insert.ensures.updates now

pub returns-clause-ok : goal.returns-clause-ok
returns-clause-ok c =
    let room : vec_len c.try_reserve-2.new.self < vec_capacity c.try_reserve-2.new.self =
    omega (arith, c.in_ok-try_reserve-2.ensures.ok) in let now = pushed _ _ _ _ _ c.push.ensures.items
    (c.push.ensures.succeeds room) c.try_reserve-2.ensures.items in
    noted c.self.inside.slots c.insert.new.self _ _ _ _ _ _ _ _ _ c.self.view_is c.in_ok-key.ensures c.in_ok-path.ensures
    c.in_ok-insert.ensures.updates c.in_ok-insert.ensures.old c.flatten-before.ensures now

pub returns-clause-was : goal.returns-clause-was
returns-clause-was c =
    let here = c.in_ok-insert.ensures.old ∙ ap (λ (k : List ℕ). slot_at c.self.inside.slots.entries k) c.in_ok-key.ensures in
    c.is_some-was.ensures ∙ ap is_some (c.flatten-before.ensures ∙ found c.self.inside.slots.entries c.args.path.now _ _ _ c.self.view_is here)
