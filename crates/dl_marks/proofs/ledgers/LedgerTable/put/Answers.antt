use Rattle.std.proofs.Common.{rules, ◌<◌, length, IsSome, Some, sym, ap, ◌⊎◌, subst, cond, ◌==◌, ◌∙◌}
use Rattle.indexmap.specs.IndexMap.{spare}
use Rattle.dl_marks.specs.Tables.{ledger_at}
use Rattle.dl_marks.proofs.Outcomes.{on_ok}
use Rattle.dl_marks.proofs.TableLemmas.{room_for}
use Rattle.dl_marks.proofs.ledgers.LedgerTable.put.Goals as goal

pub returns-in-Some-clause-each : goal.returns-in-Some-clause-each
returns-in-Some-clause-each c l =
    ((c.get_mut.follows.holds c.args.marks).3 (search rules)).0 l
    ∙ ap (λ es. cond (c.args.ledger == l) (Some c.args.marks) (ledger_at es l)) c.self.view_is

pub returns-in-None-clause-each : goal.returns-in-None-clause-each
returns-in-None-clause-each c l =
    (on_ok c.insert-stored.result (c.insert-stored.ensures.succeeds
    (subst (λ m. 0 < spare m) (sym c.get_mut.follows.holds-at-none)
    (room_for (length c.self.inside.map.entries) (spare c.self.inside.map) 4096 (ledger_at c.self.inside.map.entries c.args.ledger) c.self.invariant
    (subst (λ es. (length es < 4096) ⊎ IsSome (ledger_at es c.args.ledger)) (sym c.self.view_is) c.requires)
    (search rules)))) c.insert-stored.ensures.updates).0 l
    ∙ ap (λ m. cond (c.args.ledger == l) (Some c.args.marks) (ledger_at m.entries l)) c.get_mut.follows.holds-at-none
    ∙ ap (λ es. cond (c.args.ledger == l) (Some c.args.marks) (ledger_at es l)) c.self.view_is
