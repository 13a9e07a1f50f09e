use Rattle.std.proofs.Common.{rules, ◌<◌, length, IsSome, Some, sym, ap, ◌⊎◌, subst, cond, ◌==◌, ◌&&◌, ◌∙◌}
use Rattle.indexmap.specs.IndexMap.{spare}
use Rattle.dl_marks.specs.Tables.{marks_at}
use Rattle.dl_marks.proofs.Outcomes.{on_ok}
use Rattle.dl_marks.proofs.TableLemmas.{room_for}
use Rattle.dl_marks.proofs.entries.EntryTable.put.Goals as goal

pub returns-in-Some-clause-each : goal.returns-in-Some-clause-each
returns-in-Some-clause-each c l e =
    ((c.get_mut.follows.holds c.args.marks).3 (search rules)).0 (record { ledger = l; entry = e })
    ∙ ap (λ es. cond (c.args.key.ledger == l && c.args.key.entry == e) (Some c.args.marks) (marks_at es l e)) c.self.view_is

pub returns-in-None-clause-each : goal.returns-in-None-clause-each
returns-in-None-clause-each c l e =
    (on_ok c.insert-stored.result (c.insert-stored.ensures.succeeds
    (subst (λ m. 0 < spare m) (sym c.get_mut.follows.holds-at-none)
    (room_for (length c.self.inside.map.entries) (spare c.self.inside.map) 65536
    (marks_at c.self.inside.map.entries c.args.key.ledger c.args.key.entry) c.self.invariant
    (subst (λ es. (length es < 65536) ⊎ IsSome (marks_at es c.args.key.ledger c.args.key.entry)) (sym c.self.view_is) c.requires)
    (search rules)))) c.insert-stored.ensures.updates).0 (record { ledger = l; entry = e })
    ∙ ap (λ m. cond (c.args.key.ledger == l && c.args.key.entry == e) (Some c.args.marks) (marks_at m.entries l e)) c.get_mut.follows.holds-at-none
    ∙ ap (λ es. cond (c.args.key.ledger == l && c.args.key.entry == e) (Some c.args.marks) (marks_at es l e)) c.self.view_is
