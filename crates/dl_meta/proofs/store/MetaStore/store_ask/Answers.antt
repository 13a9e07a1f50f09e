use Rattle.std.proofs.Common.{◌∙◌, ◌≡◌, ap, sym, subst, Ok}
use Rattle.dl_types.specs.declared.meta_answer.MetaAnswer.{MetaAnswer}
use Rattle.dl_journal.specs.Commits.{spare_of}
use Rattle.dl_tree.specs.Trees.{Nodes, after_request}
use Rattle.dl_session.specs.Sessions.{after_run}
use Rattle.dl_rules_nodes.specs.Items.{Ask}
use Rattle.dl_meta.specs.State.{MetaState, meta_in}
use Rattle.dl_meta.specs.Storing.{IsStored}
use Rattle.dl_meta.proofs.Items.{does_ask, answer_is}
use Rattle.dl_meta.proofs.Lifting.{frame_fits, stored_by}
use Rattle.dl_meta.proofs.store.MetaStore.store_ask.Goals as goal

pub commit-requires-clause-body : goal.commit-requires-clause-body
commit-requires-clause-body g c =
    (frame_fits (Ask c.args.session c.args.number c.args.op.now) c.deref_mut.result.now (spare_of c.args.self.now.journal)
    (c.deref_mut.ensures.value ∙ c.in_ok-frame.ensures) c.requires.room).0

pub returns-in-Ok : goal.returns-in-Ok
returns-in-Ok g c =
    let before = c.args.self.now in
    let op = c.args.op.now in
    let answer = c.in_ok-answer.answer in
    let mid : MetaState = record { tree = c.apply.new.self; sessions = c.ran.new.self; journal = c.self.inside.journal } in
    let ran : after_request before.tree c.args.session op ≡ (answer, c.apply.new.self) =
    ap (λ (s : MetaState). after_request s.tree c.args.session op) (sym c.self.view_is) ∙ c.in_ok-answer.ensures.ok in
    subst (λ (a : MetaAnswer). IsStored (g.D.Depot.view c.args.depot.now) (g.D.Depot.view c.commit.new.depot) before c.commit.new.self
    (Ask c.args.session c.args.number op) a answer) (answer_is (meta_in before) c.apply.new.self c.args.session op answer ran)
    (stored_by (g.D.Depot.view c.args.depot.now) (g.D.Depot.view c.commit.new.depot) (Unit {0}) before mid c.commit.new.self
    (Ask c.args.session c.args.number op)
    c.deref_mut.result.now (c.deref_mut.ensures.value ∙ c.in_ok-frame.ensures) (ap (λ (s : MetaState). s.journal) c.self.view_is)
    (does_ask (meta_in before) c.apply.new.self c.ran.new.self c.args.session c.args.number op answer ran
    (c.ran.ensures ∙ ap (λ (s : MetaState). after_run s.sessions c.args.session c.args.number) c.self.view_is))
    c.commit.ensures.meta answer (Ok tt) c.in-Ok.ensures.commits)
