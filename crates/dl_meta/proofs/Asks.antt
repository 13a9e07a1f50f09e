-- Requests do what is due.
use Rattle.std.proofs.Common.{◌≡◌, ℕ, ◌+◌, ◌≤◌, ◌<◌, Bool, true, false, cond, nat_lt, nat_le, Option, Some, None, Result, Ok, Err, sym, ap, ◌∙◌, subst, refl}
use Rattle.std.proofs.Common.{arith}
use Rattle.std.specs.Int.{w32, w64}
use Rattle.std.proofs.lemmas.Bool.Decides.{nat_tests}
use Rattle.dl_types.specs.declared.meta_op.MetaOp.{MetaOp}
use Rattle.dl_fields.specs.Fields.{Fits}
use Rattle.dl_tree_msg.specs.declared.rule.PathRule.TheVariants.{AllButConf}
use Rattle.dl_tree_msg.specs.Rules.{allows}
use Rattle.dl_tree_msg.specs.Requests.{IsRequest, IsAllowed}
use Rattle.dl_depot.specs.View.{View}
use Rattle.dl_msg.specs.declared.meta_reply.MetaReply.{MetaReply}
use Rattle.dl_msg.specs.declared.meta_reply.MetaReply.TheVariants as reply
use Rattle.dl_session.specs.declared.admit.Admit.{Admit}
use Rattle.dl_session.specs.declared.admit.Admit.TheVariants as admit
use Rattle.dl_session.specs.Sessions.{Known, number_in, admission}
use Rattle.dl_journal.specs.Settled.{Stands}
use Rattle.dl_journal.specs.Commits.{spare_of}
use Rattle.dl_rules_nodes.specs.Items.{MetaItem, Ask, meta_item_length}
use Rattle.dl_rules_nodes.specs.Metadata.{MetaNode, meta_of, answer_of, has_room}
use Rattle.dl_rules_nodes.specs.MetaOrder.{IsDue}
use Rattle.dl_meta.specs.declared.meta_fault.MetaFault.{MetaFault}
use Rattle.dl_meta.specs.declared.meta_fault.MetaFault.TheVariants as fault
use Rattle.dl_meta.specs.State.{MetaState, meta_in}
use Rattle.dl_meta.specs.Standing.{meta_file, StandsFor}
use Rattle.dl_meta.specs.Turns.{Turn, Says, Commits, HasNoRoom, Rests, Works, Takes, serve_turn}
use Rattle.dl_meta.specs.Storing.{Stores, Runs}
use Rattle.dl_meta.proofs.Dues.{sessions_are, room_by, serve_by, serve_is, ask_due}
use Rattle.dl_meta.proofs.Lifting.{works_full, stored_works, stored_puts}
use Rattle.dl_meta.proofs.Calls.{turned}

-- an item that is stored, under an answer made of another
pub stored_ok : {A B : Type 0} (f : A → B) (old new : View) (Idle : Type 0) (before after : MetaState) (x : MetaItem) (answer given : A)
    → Stores old new Idle before after x answer (Ok given) → Stores old new Idle before after x (f answer) (Ok (f given))
stored_ok f old new Idle before after x answer given s = record { answer_is = ap f s.answer_is; meta = s.meta; committed = s.committed }

-- and one that is not
pub stored_err : {A B : Type 0} (old new : View) (Idle : Type 0) (before after : MetaState) (x : MetaItem) (answer : A) (other : B) (e : MetaFault)
    → Stores {A = A} old new Idle before after x answer (Err e) → Stores {A = B} old new Idle before after x other (Err e)
stored_err old new Idle before after x answer other fault.Device s = s
stored_err old new Idle before after x answer other fault.NoMemory s = s
stored_err old new Idle before after x answer other fault.Failed s = s
stored_err old new Idle before after x answer other fault.Full s = s
stored_err old new Idle before after x answer other (fault.Damaged at) s = s
stored_err old new Idle before after x answer other (fault.TooLarge size) s = s

-- a store that has room for an item stores it, and one that has none rests
pub ran_in_room : {A : Type 0} (old new : View) (Idle : Type 0) (before after : MetaState) (x : MetaItem) (answer : A) (size : ℕ) (result : Result A MetaFault)
    → size ≡ meta_item_length x → size ≤ spare_of before.journal → Stores old new Idle before after x answer result
    → Runs old new Idle before after x answer result
ran_in_room old new Idle before after x answer size result e fits stored = record { room = λ is. stored; full = λ few. absurd (omega (arith, few, e, fits)) }

-- a store without room for an item rests
pub ran_full : {A : Type 0} (view : View) (Idle : Type 0) (s : MetaState) (x : MetaItem) (answer : A) (size : ℕ)
    → Idle → size ≡ meta_item_length x → spare_of s.journal < size → Runs view view Idle s s x answer (Err fault.Full)
ran_full view Idle s x answer size idle e few =
    record { room = λ fits. absurd (omega (arith, few, e, fits)); full = λ is. (refl, record { same = refl; idle = idle }) }

-- what a request keeps that is run
pub ran_works : {A : Type 0} (old new : View) (Idle : Type 0) (before after : MetaState) (x : MetaItem) (answer : A) (result : Result A MetaFault)
    → (Idle → new ≡ old)
    → before.journal.file ≡ meta_file → before.journal.failed ≡ false → Stands old before.journal → Runs old new Idle before after x answer result
    → Works old new Idle before after result
ran_works {A} old new Idle before after x answer result idle at works stands ran = go (nat_le (meta_item_length x) (spare_of before.journal)) refl
  where
    rested : (result ≡ Err fault.Full) × Rests Idle before after → Works old new Idle before after result
    rested f =
        subst (λ (r : Result A MetaFault). Works old new Idle before after r) (sym f.0)
        (subst (λ (v : View). Works {A = A} old v Idle before after (Err fault.Full)) (sym (idle f.1.idle))
        (subst (λ (s : MetaState). Works {A = A} old old Idle before s (Err fault.Full)) (sym f.1.same) (works_full old Idle before stands works)))

    go : (b : Bool) → nat_le (meta_item_length x) (spare_of before.journal) ≡ b → Works old new Idle before after result
    go true e = stored_works old new Idle x answer before after result idle at works stands
        (ran.room (let k : meta_item_length x ≤ spare_of before.journal = grind (arith, nat_tests) in k))
    go false e = rested (ran.full (let k : spare_of before.journal < meta_item_length x = grind (arith, nat_tests) in k))

-- a request of a session that is not live is told so
pub serve_expired : (view : View) (Idle : Type 0) (s : MetaState) (session number : ℕ) (op : MetaOp) (a : Admit) → Idle
    → a ≡ admission (number_in s.sessions.live session) number
    → a ≡ admit.Expired → (n : MetaNode) → StandsFor n s → Takes view view Idle n s s (serve_turn n session number op) (Ok (Some reply.Expired))
serve_expired view Idle s session number op a idle e is n h =
    turned view view Idle n s s (serve_turn n session number op) (Says (Some reply.Expired)) (Ok (Some reply.Expired))
    (serve_is n s session number op (has_room n (Ask session number op)) a h e refl ∙ ap (serve_by (has_room n (Ask session number op)) s session number op) is)
    (refl, record { same = refl; idle = idle })

-- an old request has no reply
pub serve_old : (view : View) (Idle : Type 0) (s : MetaState) (session number : ℕ) (op : MetaOp) (a : Admit) → Idle
    → a ≡ admission (number_in s.sessions.live session) number
    → a ≡ admit.Old → (n : MetaNode) → StandsFor n s → Takes view view Idle n s s (serve_turn n session number op) (Ok None)
serve_old view Idle s session number op a idle e is n h =
    turned view view Idle n s s (serve_turn n session number op) (Says None) (Ok None)
    (serve_is n s session number op (has_room n (Ask session number op)) a h e refl ∙ ap (serve_by (has_room n (Ask session number op)) s session number op) is)
    (refl, record { same = refl; idle = idle })

-- a request that runs is stored as the node says
pub serve_ran : (old new : View) (Idle : Type 0) (before after : MetaState) (session number : ℕ) (op : MetaOp) (result : Result (Option MetaReply) MetaFault)
    → (Idle → new ≡ old)
    → Fits w64 session → Fits w32 number → IsRequest op → IsAllowed (allows AllButConf) op
    → admission (number_in before.sessions.live session) number ≡ admit.Run
    → Runs old new Idle before after (Ask session number op) (Some (reply.Answer (answer_of (meta_in before) session op))) result
    → (n : MetaNode) → StandsFor n before → Takes old new Idle n before after (serve_turn n session number op) result
serve_ran old new Idle before after session number op result idle fits short valid allowed runs ran n h =
    go (nat_le (meta_item_length (Ask session number op)) (spare_of before.journal)) refl
  where
    due : IsDue false (meta_of n.items).sessions (Ask session number op)
    due = subst (λ (k : Known). IsDue false k (Ask session number op)) (sessions_are n before h)
        (ask_due before.sessions session number op fits short valid allowed runs)

    turn_is : (b : Bool) → nat_le (meta_item_length (Ask session number op)) (spare_of before.journal) ≡ b
        → serve_turn n session number op ≡ cond b (Commits (Ask session number op) (Some (reply.Answer (answer_of (meta_in before) session op)))) HasNoRoom
    turn_is b e =
        serve_is n before session number op b admit.Run h (sym runs)
        (sym (room_by n before (Ask session number op) (meta_item_length (Ask session number op)) h refl ∙ e))

    go : (b : Bool) → nat_le (meta_item_length (Ask session number op)) (spare_of before.journal) ≡ b
        → Takes old new Idle n before after (serve_turn n session number op) result
    go true e =
        turned old new Idle n before after (serve_turn n session number op)
        (Commits (Ask session number op) (Some (reply.Answer (answer_of (meta_in before) session op)))) result (turn_is true e)
        (stored_puts old new Idle n (Ask session number op) (Some (reply.Answer (answer_of (meta_in before) session op))) before after result idle h due
        (ran.room (let k : meta_item_length (Ask session number op) ≤ spare_of before.journal = grind (arith, nat_tests) in k)))
    go false e =
        turned old new Idle n before after (serve_turn n session number op) HasNoRoom result (turn_is false e)
        (ran.full (let k : spare_of before.journal < meta_item_length (Ask session number op) = grind (arith, nat_tests) in k))
