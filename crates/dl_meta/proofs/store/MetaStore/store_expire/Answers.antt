use Rattle.std.proofs.Common.{◌∙◌, ◌≤◌, ap, sym, subst, Ok, true, arith}
use Rattle.dl_journal.specs.Commits.{spare_of}
use Rattle.dl_tree.specs.Trees.{without_session}
use Rattle.dl_session.specs.Sessions.{after_expiry}
use Rattle.dl_rules_nodes.specs.Items.{Expire, meta_item_length}
use Rattle.dl_meta.specs.State.{MetaState, meta_in}
use Rattle.dl_meta.proofs.Frames.{length-expire}
use Rattle.dl_meta.proofs.Items.{does_expire}
use Rattle.dl_meta.proofs.Lifting.{frame_fits, stored_by}
use Rattle.dl_meta.proofs.store.MetaStore.store_expire.Goals as goal

pub commit-requires-clause-body : goal.commit-requires-clause-body
commit-requires-clause-body g c =
    let fits : meta_item_length (Expire c.args.session) ≤ spare_of c.args.self.now.journal = omega (arith, length-expire c.args.session, c.requires.room) in
    (frame_fits (Expire c.args.session) c.deref_mut.result.now (spare_of c.args.self.now.journal) (c.deref_mut.ensures.value ∙ c.in_ok-frame.ensures) fits).0

pub commit-requires-clause-room : goal.commit-requires-clause-room
commit-requires-clause-room g c =
    let room = spare_of c.self.inside.journal in
    let spare : 9 ≤ room = subst (λ (s : MetaState). 9 ≤ spare_of s.journal) (sym c.self.view_is) c.requires.room in
    let fits : meta_item_length (Expire c.args.session) ≤ room = omega (arith, length-expire c.args.session, spare) in
    (frame_fits (Expire c.args.session) c.deref_mut.result.now room (c.deref_mut.ensures.value ∙ c.in_ok-frame.ensures) fits).1

pub returns-in-Ok : goal.returns-in-Ok
returns-in-Ok g c =
    let before = c.args.self.now in
    let mid : MetaState = record { tree = c.drop_session.new.self; sessions = c.expire.new.self; journal = c.self.inside.journal } in
    stored_by (g.D.Depot.view c.args.depot.now) (g.D.Depot.view c.commit.new.depot) (Unit {0}) before mid c.commit.new.self (Expire c.args.session)
    c.deref_mut.result.now
    (c.deref_mut.ensures.value ∙ c.in_ok-frame.ensures) (ap (λ (s : MetaState). s.journal) c.self.view_is)
    (does_expire (meta_in before) c.drop_session.new.self c.expire.new.self c.args.session
    (c.drop_session.ensures ∙ ap (λ (s : MetaState). without_session s.tree c.args.session) c.self.view_is)
    (c.expire.ensures.after ∙ ap (λ (s : MetaState). after_expiry s.sessions c.args.session) c.self.view_is))
    c.commit.ensures.meta true (Ok tt) c.in-Ok.ensures.commits
