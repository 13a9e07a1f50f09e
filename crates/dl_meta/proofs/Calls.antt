-- Each call does what is due.
use Rattle.std.proofs.Common.{◌≡◌, ℕ, ◌+◌, ◌≤◌, ◌<◌, Bool, true, false, cond, ◌&&◌, nat_lt, nat_le, Option, Some, None, Result, Ok, Err, sym, ap, ◌∙◌, subst}
use Rattle.std.proofs.Common.{refl, arith}
use Rattle.std.specs.Int.{w32, w64}
use Rattle.std.proofs.lemmas.Bool.Decides.{nat_tests}
use Rattle.dl_types.specs.declared.meta_op.MetaOp.{MetaOp}
use Rattle.dl_fields.specs.Fields.{Fits}
use Rattle.dl_tree_msg.specs.declared.rule.PathRule.TheVariants.{AllButConf}
use Rattle.dl_tree_msg.specs.Rules.{allows}
use Rattle.dl_tree_msg.specs.Requests.{IsRequest, IsAllowed}
use Rattle.dl_depot.specs.View.{View}
use Rattle.dl_msg.specs.declared.meta_reply.MetaReply.{MetaReply}
use Rattle.dl_msg.specs.declared.meta_reply.MetaReply.TheVariants as reply
use Rattle.dl_session.specs.declared.admit.Admit.{Admit}
use Rattle.dl_session.specs.declared.admit.Admit.TheVariants as admit
use Rattle.dl_session.specs.Sessions.{Known, number_in, is_live, admission}
use Rattle.dl_journal.specs.Commits.{spare_of}
use Rattle.dl_rules_nodes.specs.Limits.{greatest_session}
use Rattle.dl_rules_nodes.specs.Items.{MetaItem, Connect, Expire, Ask}
use Rattle.dl_rules_nodes.specs.Metadata.{MetaNode, meta_of, answer_of, has_room}
use Rattle.dl_rules_nodes.specs.MetaOrder.{IsDue}
use Rattle.dl_meta.specs.declared.meta_fault.MetaFault.{MetaFault}
use Rattle.dl_meta.specs.declared.meta_fault.MetaFault.TheVariants as fault
use Rattle.dl_meta.specs.State.{MetaState, meta_in}
use Rattle.dl_meta.specs.Standing.{StandsFor}
use Rattle.dl_meta.specs.Turns.{Turn, Says, Commits, HasNoRoom, Rests, Takes, connect_turn, expire_turn, serve_turn}
use Rattle.dl_meta.specs.Storing.{Stores}
use Rattle.dl_meta.proofs.Dues.{sessions_are, connect_is, expire_is, connect_due, expire_due}
use Rattle.dl_meta.proofs.Lifting.{stored_puts}

-- a store that failed stands for no node
pub takes_failed : {A : Type 0} (view : View) (Idle : Type 0) (s : MetaState) (turn : MetaNode → Turn A) → s.journal.failed ≡ true
    → (n : MetaNode) → StandsFor n s → Takes {A = A} view view Idle n s s (turn n) (Err fault.Failed)
takes_failed view Idle s turn failed n h = absurd (cc (failed, h.works))

-- what is due is known, and done
pub turned : {A : Type 0} (old new : View) (Idle : Type 0) (n : MetaNode) (before after : MetaState) (t u : Turn A) (result : Result A MetaFault) → t ≡ u
    → Takes old new Idle n before after u result → Takes old new Idle n before after t result
turned {A} old new Idle n before after t u result e k = subst (λ (x : Turn A). Takes old new Idle n before after x result) (sym e) k

-- where no session can be given the store rests
pub connect_full : (view : View) (Idle : Type 0) (s : MetaState) (t : Bool) → Idle
    → t ≡ (nat_lt s.sessions.last greatest_session && nat_le 9 (spare_of s.journal)) → t ≡ false
    → (n : MetaNode) → StandsFor n s → Takes view view Idle n s s (connect_turn n) (Err fault.Full)
connect_full view Idle s t idle e no_room n h =
    turned view view Idle n s s (connect_turn n) HasNoRoom (Err fault.Full)
    (connect_is n s t h e ∙ ap (λ b. cond b (Commits (Connect (s.sessions.last + 1)) (s.sessions.last + 1)) HasNoRoom) no_room)
    (refl, record { same = refl; idle = idle })

-- a session that may be given is not above the greatest
pub few_given : (t : Bool) (last room : ℕ) → t ≡ (nat_lt last greatest_session && nat_le 9 room) → t ≡ true → last < greatest_session
few_given t last room e is = below (nat_lt last greatest_session) refl (sym e ∙ is)
  where
    below : (b : Bool) → nat_lt last greatest_session ≡ b → (b && nat_le 9 room) ≡ true → last < greatest_session
    below true so both = grind (arith, nat_tests)
    below false so both = absurd (cc both)

-- a session that is given is stored as the node says
pub connect_stored : (old new : View) (Idle : Type 0) (before after : MetaState) (t : Bool) (result : Result ℕ MetaFault) → (Idle → new ≡ old)
    → t ≡ (nat_lt before.sessions.last greatest_session && nat_le 9 (spare_of before.journal)) → t ≡ true → before.sessions.last < greatest_session
    → Stores old new Idle before after (Connect (before.sessions.last + 1)) (before.sessions.last + 1) result
    → (n : MetaNode) → StandsFor n before → Takes old new Idle n before after (connect_turn n) result
connect_stored old new Idle before after t result idle e room few stored n h =
    turned old new Idle n before after (connect_turn n) (Commits (Connect (before.sessions.last + 1)) (before.sessions.last + 1)) result
    (connect_is n before t h e ∙ ap (λ b. cond b (Commits (Connect (before.sessions.last + 1)) (before.sessions.last + 1)) HasNoRoom) room)
    (stored_puts old new Idle n (Connect (before.sessions.last + 1)) (before.sessions.last + 1) before after result idle h
    (subst (λ (k : Known). IsDue false k (Connect (before.sessions.last + 1))) (sessions_are n before h) (connect_due before.sessions few)) stored)

-- a session that is not live is not ended
pub expire_resting : (view : View) (Idle : Type 0) (s : MetaState) (session : ℕ) → Idle → is_live s.sessions session ≡ false
    → (n : MetaNode) → StandsFor n s → Takes view view Idle n s s (expire_turn n session) (Ok false)
expire_resting view Idle s session idle not_live n h =
    turned view view Idle n s s (expire_turn n session) (Says false) (Ok false)
    (expire_is n s session h ∙ ap (λ b. cond b (cond (nat_le 9 (spare_of s.journal)) (Commits (Expire session) true) HasNoRoom) (Says false)) not_live)
    (refl, record { same = refl; idle = idle })

-- where the end of a session finds no room the store rests
pub expire_full : (view : View) (Idle : Type 0) (s : MetaState) (session : ℕ) → Idle → is_live s.sessions session ≡ true → nat_le 9 (spare_of s.journal) ≡ false
    → (n : MetaNode) → StandsFor n s → Takes view view Idle n s s (expire_turn n session) (Err fault.Full)
expire_full view Idle s session idle live no_room n h =
    turned view view Idle n s s (expire_turn n session) HasNoRoom (Err fault.Full)
    (expire_is n s session h ∙ ap (λ b. cond b (cond (nat_le 9 (spare_of s.journal)) (Commits (Expire session) true) HasNoRoom) (Says false)) live
    ∙ ap (λ b. cond b (Commits (Expire session) true) HasNoRoom) no_room)
    (refl, record { same = refl; idle = idle })

-- the end of a session is stored as the node says
pub expire_stored : (old new : View) (Idle : Type 0) (before after : MetaState) (session : ℕ) (result : Result Bool MetaFault) → (Idle → new ≡ old)
    → Fits w64 session
    → is_live before.sessions session ≡ true → nat_le 9 (spare_of before.journal) ≡ true → Stores old new Idle before after (Expire session) true result
    → (n : MetaNode) → StandsFor n before → Takes old new Idle n before after (expire_turn n session) result
expire_stored old new Idle before after session result idle fits live room stored n h =
    turned old new Idle n before after (expire_turn n session) (Commits (Expire session) true) result
    (expire_is n before session h ∙ ap (λ b. cond b (cond (nat_le 9 (spare_of before.journal)) (Commits (Expire session) true) HasNoRoom) (Says false)) live
    ∙ ap (λ b. cond b (Commits (Expire session) true) HasNoRoom) room)
    (stored_puts old new Idle n (Expire session) true before after result idle h
    (subst (λ (k : Known). IsDue false k (Expire session)) (sessions_are n before h) (expire_due before.sessions session fits live)) stored)
