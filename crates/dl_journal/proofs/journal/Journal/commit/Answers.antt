use Rattle.std.proofs.Common.{refl, ◌≡◌, ◌+◌, ◌-◌, ◌≤◌, ℕ, List, ◌∙◌, ap, sym, subst, length, Err, Ok}
use Rattle.dl_journal.specs.State.{JournalState}
use Rattle.dl_journal.specs.Calls.{Stores}
use Rattle.dl_journal.specs.Settled.{Stands}
use Rattle.dl_journal.specs.Commits.{spare_of, body_of}
use Rattle.dl_journal.proofs.Committing.{commit_first, commit_second, commit_done, state_is, on_state}
use Rattle.dl_journal.proofs.Staging.{gate_there, length-frame_bytes}
use Rattle.dl_journal.proofs.Room.{body_room}
use Rattle.dl_journal.proofs.journal.Journal.commit.Goals as goal

pub returns-in-Err-clause-committed : goal.returns-in-Err-clause-committed
returns-in-Err-clause-committed g c =
    let j : JournalState = record { file = c.self.inside.file; gate = c.self.inside.gate; next = c.self.inside.next; failed = c.self.inside.failed } in
    let is : j ≡ c.args.self.now = c.self.view_is in
    let room = body_room j c.args.frame.now c.requires.body
    (subst (λ (x : JournalState). length c.args.frame.now - 13 ≤ spare_of x) (sym is) c.requires.room) in
    let stored = subst (λ (xs : List ℕ). Stores (g.D.Depot.view c.args.depot.now) (g.D.Depot.view c.store.new.depot) j.file (j.gate + 1) xs
    (Err c.in-Err.field-0)) c.fill.ensures c.in-Err.ensures in
    on_state _ _ j c.args.self.now _ _ (body_of c.args.frame.now) _ is refl
    (commit_first _ _ j (body_of c.args.frame.now) c.in-Err.field-0 c.if-self.false room stored)

pub store-requires-2 : goal.store-requires-2
store-requires-2 g c =
    let j : JournalState = record { file = c.self.inside.file; gate = c.self.inside.gate; next = c.self.inside.next; failed = c.self.inside.failed } in
    let is : j ≡ c.args.self.now = c.self.view_is in
    gate_there _ _ j c.fill.new.frame c.in_default.field-0
    (subst (λ (x : JournalState). Stands (g.D.Depot.view c.args.depot.now) x) (sym is) c.requires.stands) c.if-self.false c.in_default.ensures

pub returns-in-Err-store-clause-committed : goal.returns-in-Err-store-clause-committed
returns-in-Err-store-clause-committed g c =
    let j : JournalState = record { file = c.self.inside.file; gate = c.self.inside.gate; next = c.self.inside.next; failed = c.self.inside.failed } in
    let is : j ≡ c.args.self.now = c.self.view_is in
    let room = body_room j c.args.frame.now c.requires.body
    (subst (λ (x : JournalState). length c.args.frame.now - 13 ≤ spare_of x) (sym is) c.requires.room) in
    let stored = subst (λ (xs : List ℕ). Stores (g.D.Depot.view c.args.depot.now) (g.D.Depot.view c.store.new.depot) j.file (j.gate + 1) xs
    (Ok c.in_default.field-0)) c.fill.ensures c.in_default.ensures in
    on_state _ _ j c.args.self.now _ _ (body_of c.args.frame.now) _ is refl
    (commit_second _ _ _ j (body_of c.args.frame.now) c.in_default.field-0 c.in-Err-store.field-0 c.if-self.false room stored c.in-Err-store.ensures)

pub returns-clause-committed : goal.returns-clause-committed
returns-clause-committed g c =
    let j : JournalState = record { file = c.self.inside.file; gate = c.self.inside.gate; next = c.self.inside.next; failed = c.self.inside.failed } in
    let is : j ≡ c.args.self.now = c.self.view_is in
    let room = body_room j c.args.frame.now c.requires.body
    (subst (λ (x : JournalState). length c.args.frame.now - 13 ≤ spare_of x) (sym is) c.requires.room) in
    let stored = subst (λ (xs : List ℕ). Stores (g.D.Depot.view c.args.depot.now) (g.D.Depot.view c.store.new.depot) j.file (j.gate + 1) xs
    (Ok c.in_default.field-0)) c.fill.ensures c.in_default.ensures in
    let size : length c.fill.new.frame ≡ length (body_of c.args.frame.now) + 13 = ap length c.fill.ensures ∙ length-frame_bytes j (body_of c.args.frame.now) in
    on_state _ _ j c.args.self.now _ _ (body_of c.args.frame.now) _ is (state_is j (body_of c.args.frame.now) (length c.fill.new.frame) size c.if-self.false)
    (commit_done _ _ _ j (body_of c.args.frame.now) c.in_default.field-0 c.in_default-store.field-0 c.if-self.false room stored c.in_default-store.ensures)
