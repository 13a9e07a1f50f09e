-- What is due by what a store keeps: the room in its journal, and the items that may come.
use Rattle.std.proofs.Common.{◌≡◌, ℕ, ◌+◌, ◌-◌, ◌^◌, ◌<◌, ◌≤◌, Bool, true, false, cond, ◌&&◌, ◌==◌, nat_lt, nat_le, List, [], ◌∷◌, length, Option, Some, None}
use Rattle.std.proofs.Common.{is_some, sym, ap, ap₂, ◌∙◌, subst, refl, arith, lit<}
use Rattle.std.specs.Int.{w32, w64}
use Rattle.std.proofs.lemmas.Bool.Decides.{nat_tests}
use Rattle.dl_types.specs.declared.meta_op.MetaOp.{MetaOp}
use Rattle.dl_fields.specs.Fields.{Fits}
use Rattle.dl_tree_msg.specs.declared.rule.PathRule.TheVariants.{AllButConf}
use Rattle.dl_tree_msg.specs.Rules.{allows}
use Rattle.dl_tree_msg.specs.Requests.{IsRequest, IsAllowed}
use Rattle.dl_session.specs.declared.admit.Admit.{Admit}
use Rattle.dl_session.specs.declared.admit.Admit.TheVariants as admit
use Rattle.dl_session.specs.Sessions.{Known, number_in, is_live, admission}
use Rattle.dl_journal.specs.Commits.{spare_of}
use Rattle.dl_rules_nodes.specs.Limits.{greatest_session, past_batches, longest_journal, room_for_body}
use Rattle.dl_rules_nodes.specs.Items.{MetaItem, Connect, Expire, Ask, meta_item_length}
use Rattle.dl_rules_nodes.specs.Metadata.{Meta, MetaNode, meta_of, meta_gate, meta_spare, has_room, may_connect, admit_of, item_of, reply_of, answer_of}
use Rattle.dl_rules_nodes.specs.MetaReading.{is_above}
use Rattle.dl_rules_nodes.specs.MetaOrder.{IsDue}
use Rattle.dl_msg.specs.declared.meta_reply.MetaReply.{MetaReply}
use Rattle.dl_msg.specs.declared.meta_reply.MetaReply.TheVariants as reply
use Rattle.dl_meta.specs.State.{MetaState, meta_in}
use Rattle.dl_meta.specs.Standing.{StandsFor}
use Rattle.dl_meta.specs.Turns.{Turn, Says, Commits, HasNoRoom, in_room, turn_by, connect_turn, expire_turn, serve_turn}
use Rattle.dl_meta.proofs.Frames.{length-connect, length-expire}

-- ---- room

-- the room of a journal, by both of its tests
room_is : (next gate : ℕ) → cond (nat_le next 9223372036854775807) (268435456 - (gate + 1 + 13)) 0 ≡ cond (nat_lt next (2 ^ 63)) (268435456 - 14 - gate) 0
room_is next gate = grind (arith, nat_tests)

-- the journal's spare is that of the node
pub spare_is : (n : MetaNode) (s : MetaState) → StandsFor n s → spare_of s.journal ≡ meta_spare n
spare_is n s h = room_is s.journal.next s.journal.gate ∙ ap₂ room_for_body h.next h.gate

-- room for an item of this size
pub room_by : (n : MetaNode) (s : MetaState) (x : MetaItem) (size : ℕ) → StandsFor n s → meta_item_length x ≡ size
    → has_room n x ≡ nat_le size (spare_of s.journal)
room_by n s x size h e = ap₂ nat_le e (sym (spare_is n s h))

-- ---- what may come

-- the sessions of the node are those that the store keeps
pub sessions_are : (n : MetaNode) (s : MetaState) → StandsFor n s → s.sessions ≡ (meta_of n.items).sessions
sessions_are n s h = ap (λ (m : Meta). m.sessions) h.meta

-- the next session may come
pub connect_due : (known : Known) → known.last < greatest_session → IsDue false known (Connect (known.last + 1))
connect_due known few = record { kind = (0, lit< tt, refl); spelt = (let k : known.last + 1 < 256 ^ 8 = omega (arith, few) in k); fits = refl }

-- the end of a live session may come
pub expire_due : (known : Known) (session : ℕ) → Fits w64 session → is_live known session ≡ true → IsDue false known (Expire session)
expire_due known session fits live = record { kind = (1, lit< tt, refl); spelt = fits; fits = live }

-- a number that runs is above the last one of a live session
pub runs_live : (o : Option ℕ) (number : ℕ) → admission o number ≡ admit.Run → (is_some o ≡ true) × (is_above o number ≡ true)
runs_live None number e = absurd cc
runs_live (Some last) number e = go (nat_lt last number) refl e
  where
    go : (t : Bool) → nat_lt last number ≡ t → cond t admit.Run admit.Old ≡ admit.Run → (true ≡ true) × (nat_lt last number ≡ true)
    go true w e = (refl, w)
    go false w e = absurd cc

-- a request that runs may come
pub ask_due : (known : Known) (session number : ℕ) (op : MetaOp) → Fits w64 session → Fits w32 number → IsRequest op → IsAllowed (allows AllButConf) op
    → admission (number_in known.live session) number ≡ admit.Run → IsDue false known (Ask session number op)
ask_due known session number op fits short valid allowed runs =
    let live = runs_live (number_in known.live session) number runs in
    record { kind = (2, lit< tt, refl); spelt = (fits, (short, valid)); fits = (live.0, (live.1, allowed)) }

-- ---- turns

-- what is due of a connection, by what the store keeps
pub connect_is : (n : MetaNode) (s : MetaState) (t : Bool) → StandsFor n s → t ≡ (nat_lt s.sessions.last greatest_session && nat_le 9 (spare_of s.journal))
    → connect_turn n ≡ cond t (Commits (Connect (s.sessions.last + 1)) (s.sessions.last + 1)) HasNoRoom
connect_is n s t h e =
    let last : s.sessions.last ≡ (meta_of n.items).sessions.last = ap (λ (m : Meta). m.sessions.last) h.meta in
    let test : may_connect n ≡ t =
    ap₂ (λ k b. nat_lt k greatest_session && b) (sym last)
    (room_by n s (Connect ((meta_of n.items).sessions.last + 1)) 9 h (length-connect ((meta_of n.items).sessions.last + 1))) ∙ sym e in
    ap₂ (λ b k. cond b (Commits (Connect (k + 1)) (k + 1)) HasNoRoom) test (sym last)

-- what is due of the end of a session, likewise
pub expire_is : (n : MetaNode) (s : MetaState) (session : ℕ) → StandsFor n s
    → expire_turn n session ≡ cond (is_live s.sessions session) (cond (nat_le 9 (spare_of s.journal)) (Commits (Expire session) true) HasNoRoom) (Says false)
expire_is n s session h =
    ap₂ (λ a b. cond a (cond b (Commits (Expire session) true) HasNoRoom) (Says false))
    (ap (λ k. is_live k session) (sym (sessions_are n s h))) (room_by n s (Expire session) 9 h (length-expire session))

-- the turn of a request, by what becomes of it
abbrev pub serve_by : Bool → MetaState → (session number : ℕ) → MetaOp → Admit → Turn (Option MetaReply)
serve_by room s session number op admit.Expired = Says (Some reply.Expired)
serve_by room s session number op admit.Old = Says None
serve_by room s session number op admit.Run =
    cond room (Commits (Ask session number op) (Some (reply.Answer (answer_of (meta_in s) session op)))) HasNoRoom

-- what is due of a request, likewise
pub serve_is : (n : MetaNode) (s : MetaState) (session number : ℕ) (op : MetaOp) (room : Bool) (a : Admit) → StandsFor n s
    → a ≡ admission (number_in s.sessions.live session) number → room ≡ has_room n (Ask session number op)
    → serve_turn n session number op ≡ serve_by room s session number op a
serve_is n s session number op room a h e r =
    let same : admit_of (meta_of n.items) session number ≡ a = ap (λ (k : Known). admission (number_in k.live session) number) (sym (sessions_are n s h))
    ∙ sym e in
    by_cases a same
  where
    by_cases : (a : Admit) → admit_of (meta_of n.items) session number ≡ a → serve_turn n session number op ≡ serve_by room s session number op a
    by_cases admit.Expired w = rw w refl
    by_cases admit.Old w = rw w refl
    by_cases admit.Run w = rw w
        (ap₂ (λ b (m : Meta). cond b (Commits (Ask session number op) (Some (reply.Answer (answer_of m session op)))) HasNoRoom) (sym r) (sym h.meta))
