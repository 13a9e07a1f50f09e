use Rattle.std.proofs.Common.{arith, sym, subst, ap, ◌∙◌, ◌++◌, ◌∷◌, [], List}
use Rattle.dl_record.specs.declared.stored.Stored.{Stored}
use Rattle.dl_record.specs.declared.stored.Stored.TheVariants.{Plain}
use Rattle.dl_record.specs.Building.{MayFollow}
use Rattle.dl_record.proofs.BuildingLaws.{holds, building_push}
use Rattle.dl_record.proofs.builder.EntryBuilder.push.Goals as goal

pub overflow_add-self : goal.overflow_add-self
overflow_add-self c =
    let h = holds c.self.inside.count c.self.inside.rows c.self.inside.bytes.items c.self.invariant in
    omega (arith, h.few, c.self.invariant.size)

pub overflow_add-self-2 : goal.overflow_add-self-2
overflow_add-self-2 c =
    let h = holds c.self.inside.count c.self.inside.rows c.self.inside.bytes.items c.self.invariant in
    omega (arith, h.row_few, c.self.invariant.size)

pub invariant_of-self-2 : goal.invariant_of-self-2
invariant_of-self-2 c =
    let r = Plain c.args.position c.args.txid c.args.payload.now in
    let may = subst (λ (parts : List Stored). MayFollow parts r) (sym c.self.view_is) c.requires in
    (building_push c.self.inside.count c.self.inside.rows c.self.inside.bytes.items c.add_plain.new.out.items r c.add_plain.ensures.bytes
    c.self.invariant tt may c.in_ok-add_plain.ensures.ok).building

pub returns-clause-ok : goal.returns-clause-ok
returns-clause-ok c =
    let r = Plain c.args.position c.args.txid c.args.payload.now in
    let may = subst (λ (parts : List Stored). MayFollow parts r) (sym c.self.view_is) c.requires in
    (building_push c.self.inside.count c.self.inside.rows c.self.inside.bytes.items c.add_plain.new.out.items r c.add_plain.ensures.bytes
    c.self.invariant tt may c.in_ok-add_plain.ensures.ok).same
    ∙ ap (λ (parts : List Stored). parts ++ r ∷ []) c.self.view_is
