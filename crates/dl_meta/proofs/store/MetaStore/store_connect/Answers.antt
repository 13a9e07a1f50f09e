use Rattle.std.proofs.Common.{◌∙◌, ◌+◌, ◌≤◌, ◌≡◌, ap, sym, subst, ℕ, Ok, arith}
use Rattle.dl_journal.specs.Commits.{spare_of}
use Rattle.dl_session.specs.Sessions.{after_connect}
use Rattle.dl_rules_nodes.specs.Items.{Connect, meta_item_length}
use Rattle.dl_meta.specs.State.{MetaState, meta_in}
use Rattle.dl_meta.specs.Storing.{IsStored}
use Rattle.dl_meta.proofs.Frames.{length-connect}
use Rattle.dl_meta.proofs.Items.{does_connect}
use Rattle.dl_meta.proofs.Lifting.{frame_fits, stored_by}
use Rattle.dl_meta.proofs.store.MetaStore.store_connect.Goals as goal

pub commit-requires-clause-body : goal.commit-requires-clause-body
commit-requires-clause-body g c =
    let session = c.last-session.result + 1 in
    let fits : meta_item_length (Connect session) ≤ spare_of c.args.self.now.journal = omega (arith, length-connect session, c.requires.room) in
    (frame_fits (Connect session) c.deref_mut.result.now (spare_of c.args.self.now.journal) (c.deref_mut.ensures.value ∙ c.in_ok-frame.ensures) fits).0

pub commit-requires-clause-room : goal.commit-requires-clause-room
commit-requires-clause-room g c =
    let session = c.last-session.result + 1 in
    let room = spare_of c.self.inside.journal in
    let spare : 9 ≤ room = subst (λ (s : MetaState). 9 ≤ spare_of s.journal) (sym c.self.view_is) c.requires.room in
    let fits : meta_item_length (Connect session) ≤ room = omega (arith, length-connect session, spare) in
    (frame_fits (Connect session) c.deref_mut.result.now room (c.deref_mut.ensures.value ∙ c.in_ok-frame.ensures) fits).1

pub returns-in-Ok : goal.returns-in-Ok
returns-in-Ok g c =
    let before = c.args.self.now in
    let session = c.last-session.result + 1 in
    let mid : MetaState = record { tree = c.self.inside.tree; sessions = c.connect.new.self; journal = c.self.inside.journal } in
    let last : c.last-session.result ≡ before.sessions.last = c.last-session.ensures ∙ ap (λ (s : MetaState). s.sessions.last) c.self.view_is in
    subst (λ (n : ℕ). IsStored (g.D.Depot.view c.args.depot.now) (g.D.Depot.view c.commit.new.depot) before c.commit.new.self (Connect (n + 1))
    (n + 1) session) last
    (stored_by (g.D.Depot.view c.args.depot.now) (g.D.Depot.view c.commit.new.depot) (Unit {0}) before mid c.commit.new.self (Connect session)
    c.deref_mut.result.now
    (c.deref_mut.ensures.value ∙ c.in_ok-frame.ensures) (ap (λ (s : MetaState). s.journal) c.self.view_is)
    (does_connect (meta_in before) c.self.inside.tree c.connect.new.self session (ap (λ (s : MetaState). s.tree) c.self.view_is)
    (c.in_ok-connect.ensures.ok.1 ∙ ap (λ (s : MetaState). after_connect s.sessions) c.self.view_is))
    c.commit.ensures.meta session (Ok tt) c.in-Ok.ensures.commits)
