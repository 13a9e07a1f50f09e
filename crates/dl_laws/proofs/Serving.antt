-- Each atomic step keeps what is known of sessions, requests and replies.
use Rattle.std.proofs.Common.{cond, ◌≤◌, ◌≡◌, ℕ, suc, ◌+◌, Bool, true, false, ◌&&◌, ◌==◌, List, [], ◌∷◌, map, Option, Some, None, refl, sym, ap}
use Rattle.std.proofs.Common.{◌∙◌, subst, inr, arith, eq-eqb, ne_eqb, is_none, slice_get}
use Rattle.std.specs.Prelude.{find, is_some, nat_lt}
use Rattle.std.specs.List.{AllByRecursion, list_any}
use Rattle.std.proofs.lemmas.Bool.{cond-true, cond-false}
use Rattle.dl_types.specs.declared.address.Address.{Address}
use Rattle.dl_types.specs.declared.meta_answer.MetaAnswer.{MetaAnswer}
use Rattle.dl_types.specs.declared.meta_op.MetaOp.{MetaOp}
use Rattle.dl_types.specs.declared.address.Address.TheVariants.{Client, Bookie as AtBookie, Meta as AtMeta}
use Rattle.dl_msg.specs.declared.letter.Letter.{Letter}
use Rattle.dl_msg.specs.declared.meta_reply.MetaReply.TheVariants as reply
use Rattle.dl_msg.specs.declared.msg.Msg.{Msg}
use Rattle.dl_msg.specs.declared.msg.Msg.TheVariants as msg
use Rattle.dl_session.specs.declared.admit.Admit.{Admit}
use Rattle.dl_session.specs.declared.admit.Admit.TheVariants as admit
use Rattle.dl_session.specs.Laws.{Connects, Expires, Runs}
use Rattle.dl_session.proofs.RunLemmas.{gone-after}
use Rattle.dl_session.specs.Sessions.{is_live, number_in, admission, after_connect, after_expiry, after_run}
use Rattle.dl_formats.specs.declared.conf.Conf.{Conf}
use Rattle.dl_rules_nodes.specs.Bookies.{Bookie, Waiting, Taken, Looks, Answers, Queues, table_row, answer_now, told_after, all_items, after_commit}
use Rattle.dl_rules_nodes.specs.Bookies.{after as taken_bookie, look_answer, entry_answer, if_room, with_room, lacking, add_row, copy_row, fence_row}
use Rattle.dl_rules_nodes.specs.Bookies.{durable, queued_items, has_fence}
use Rattle.dl_msg.specs.declared.resource.Resource.{Resource}
use Rattle.dl_rules_nodes.specs.Items.{Item, is_add, is_entry, is_fence, MetaItem, Setup, Connect, Expire, Ask}
use Rattle.dl_rules_nodes.specs.Metadata.{meta_from, does, answer_of, reply_by}
use Rattle.dl_rules_stream.specs.Requests.{op_of}
use Rattle.dl_transcript.specs.Legal.{History}
use Rattle.dl_rules_client.specs.Acts.{Input, Line, Came, ClientArgs, Acts}
use Rattle.dl_rules_client.specs.Clients.{acts_of}
use Rattle.dl_rules_client.specs.EventRanges.{AllSome}
use Rattle.dl_rules_client.proofs.RangeLists.{all-append, all-last, all-get}
use Rattle.dl_law_meta.specs.Histories.{AreAdmitted}
use Rattle.dl_machine.specs.States.{State, Node, Mode, Up, Down, Lost, Outcome, Joined, blank, with_value, with_node, with_client, with_letters, with_meta_item}
use Rattle.dl_machine.specs.States.{marks, quietly, can_take, args_of, is_up}
use Rattle.dl_machine.specs.Growth.{with_sent, confirms}
use Rattle.dl_machine.specs.Atoms.{Atom, SetUp, Join, Crash, End, Order, Deliver, Commit, Stop, StopMeta, Faint, Kill, KillMeta, Rise, RiseMeta, Loosen}
use Rattle.dl_machine.specs.Atoms.{Lose, Shows, MetaRequest, meta_in, request_in, admit_in, sets_up, new_process, joins, joins_in, ends, acts_on}
use Rattle.dl_machine.specs.Atoms.{client_takes, answer_to, with_answer, takes_row, runs, admits, reply_msg, meta_takes, takes_letter, delivers, reply_letter}
use Rattle.dl_machine.specs.Atoms.{commits, stopped_node, killed_node, risen_node, swapped_node, loosened_node, lost_node, faints_at, faints, without_meta}
use Rattle.dl_machine.specs.Atoms.{stops_run, stops_request, stops_msg, stops_meta, atom}
use Rattle.dl_machine.proofs.Movements.{cond_both, put_each, ButLedgers, but_then, but_sent, but_confirms, but_run}
use Rattle.dl_law_client.specs.Seen.{IsLedgerAsk, IsRequest, IsToldTo, IsLetterOf}
use Rattle.dl_law_client.proofs.Clients.{each_client_leads}
use Rattle.dl_laws.specs.Coupled.{ProcessSeen, Coupled}
use Rattle.dl_laws.specs.Served.{IsOwn, ReplySays, IsAsked, LetterServed, IsServed, WaitsOwn, QueueOwn, NodeOwn, ProcessOwn}
use Rattle.dl_laws.specs.Served.{IsLedgerAnswer, Served}
use Rattle.dl_laws.proofs.Later.{Grows, parts_later}

-- ---- parts

-- ledgers are no part of it
but_served : (s t : State) → ButLedgers s t → Served s → Served t
but_served s t e h = subst Served (sym e) (record { who = h.who; parts = h.parts; admitted = h.admitted; asked = h.asked })

-- letters more
more_served : (s : State) (letters : List Letter) (h : Served s) → AllByRecursion (IsServed h.who (meta_in s).sessions.last s.meta.items) letters
    → Served (with_letters s letters)
more_served s letters h each = record {
  who = h.who;
  parts = record {
    letters_served = all-append (IsServed h.who (meta_in s).sessions.last s.meta.items) s.letters letters h.parts.letters_served each;
    nodes_own = h.parts.nodes_own;
    clients_own = h.parts.clients_own;
  };
  admitted = h.admitted;
  asked = h.asked;
}

-- another storage node
node_served : (s : State) (b : ℕ) (n : Node) (h : Served s) → NodeOwn h.who (meta_in s).sessions.last n → Served (with_node s b n)
node_served s b n h is = record {
  who = h.who;
  parts = record {
    letters_served = h.parts.letters_served;
    nodes_own = put_each s.nodes b n (λ j m. NodeOwn h.who (meta_in s).sessions.last m) is h.parts.nodes_own;
    clients_own = h.parts.clients_own;
  };
  admitted = h.admitted;
  asked = h.asked;
}

-- another process of a client, or none
client_served : (s : State) (c : ℕ) (me : Option Joined) (h : Served s) → AllSome (ProcessOwn h.who (meta_in s).sessions.last c) me
    → Served (with_client s c me)
client_served s c me h is = record {
  who = h.who;
  parts = record {
    letters_served = h.parts.letters_served;
    nodes_own = h.parts.nodes_own;
    clients_own = put_each s.clients c me (λ d p. AllSome (ProcessOwn h.who (meta_in s).sessions.last d) p) is h.parts.clients_own;
  };
  admitted = h.admitted;
  asked = h.asked;
}

-- sessions that have ended stay so behind an item
abbrev StayGone : State → MetaItem → Type 0
StayGone s x = (k : ℕ) → k ≤ (meta_in s).sessions.last → is_live (meta_in s).sessions k ≡ false → is_live (meta_in (with_meta_item s x)).sessions k ≡ false

-- an item more, by which no session is given
item_grows : (s : State) (x : MetaItem) (h : Served s) → (meta_in (with_meta_item s x)).sessions.last ≡ (meta_in s).sessions.last
    → StayGone s x → Grows h.who h.who (meta_in s).sessions.last (meta_in (with_meta_item s x)).sessions.last s.meta.items (x ∷ s.meta.items)
item_grows s x h same gone = record { given = omega (arith, same); owners = λ k le. refl; gone = gone; item = inr (x, refl) }

-- so it is known of it
item_served : (s : State) (x : MetaItem) (h : Served s) → (meta_in (with_meta_item s x)).sessions.last ≡ (meta_in s).sessions.last
    → StayGone s x → AreAdmitted (x ∷ s.meta.items) → IsAsked x → Served (with_meta_item s x)
item_served s x h same gone admitted asked = record {
  who = h.who;
  parts = parts_later h.who h.who (meta_in s).sessions.last (meta_in (with_meta_item s x)).sessions.last s.meta.items (x ∷ s.meta.items)
      (item_grows s x h same gone) s.letters s.nodes s.clients h.parts;
  admitted = admitted;
  asked = (asked, h.asked);
}

-- a letter that is marked is no part of it
marked_served : (s : State) (place : ℕ) → Served s → Served (marks s place)
marked_served s place h = record { who = h.who; parts = h.parts; admitted = h.admitted; asked = h.asked }

-- the metadata node goes down
down_served : (s : State) → Served s → Served (without_meta s)
down_served s h = record { who = h.who; parts = h.parts; admitted = h.admitted; asked = h.asked }

-- ---- the world and sessions

-- the world is set up
set_up_served : (s : State) (conf : Conf) → Served s → Served (sets_up s conf)
unfolding meta_from does
set_up_served s conf h =
    let now = item_served s (Setup conf) h refl (λ k le e. e) (tt, h.admitted) tt in
    cond_both Served (is_none s.conf) (record (with_meta_item s (Setup conf)) { conf = Some conf; meta_up = true }) s
    (record { who = now.who; parts = now.parts; admitted = now.admitted; asked = now.asked }) h

-- a client joins: the new session is its own
join_served : (s : State) (c : ℕ) → Served s → Served (joins s c).state
unfolding meta_from does after_connect
join_served s c h =
    cond_both (λ (o : Outcome). Served o.state) s.meta_up (joins_in s c k) (quietly s)
    (client_served (with_meta_item s (Connect k)) c (Some (new_process s c k)) now
    (record { given = omega arith; within = omega arith; owner = cond-true (k == k) c (h.who k) (eq-eqb k k refl) }))
    h
  where
    k : ℕ
    k = suc (meta_in s).sessions.last

    who : ℕ → ℕ
    who = with_value h.who k c

    grows : Grows h.who who (meta_in s).sessions.last (meta_in (with_meta_item s (Connect k))).sessions.last s.meta.items (Connect k ∷ s.meta.items)
    grows = record {
      given = omega arith;
      gone = λ j le e. gone-after (meta_in s).sessions j (Connects ∷ []) le e;
      owners = λ j le. cond-false (j == k) c (h.who j) (ne_eqb j k (λ e. omega (arith, e, le)));
      item = inr (Connect k, refl);
    }

    now : Served (with_meta_item s (Connect k))
    now = record {
      who = who;
      parts = parts_later h.who who (meta_in s).sessions.last (meta_in (with_meta_item s (Connect k))).sessions.last s.meta.items
          (Connect k ∷ s.meta.items) grows s.letters s.nodes s.clients h.parts;
      admitted = (tt, h.admitted);
      asked = (tt, h.asked);
    }

-- a session ends
end_served : (s : State) (k : ℕ) → Served s → Served (ends s k).state
unfolding meta_from does after_expiry
end_served s k h =
    cond_both (λ (o : Outcome). Served o.state) (s.meta_up && is_live (meta_in s).sessions k)
    (record { state = with_meta_item s (Expire k); events = _ }) (quietly s)
    (item_served s (Expire k) h refl (λ j le e. gone-after (meta_in s).sessions j (Expires k ∷ []) le e) (tt, h.admitted) tt) h

-- ---- clients

-- what a client tells is served
told_served : (who : ℕ → ℕ) (last : ℕ) (items : List MetaItem) (session c : ℕ) (m : Msg) (to : Address) → IsOwn who last session c
    → IsToldTo session m to → LetterServed who last items session m (Client c) to
told_served who last items session c m AtMeta own told = record { own = own; says = told }
told_served who last items session c m (AtBookie b) own told = record { own = own; says = told }
told_served who last items session c m (Client d) own told = absurd told

-- so is its letter
letter_of_served : (who : ℕ → ℕ) (last : ℕ) (items : List MetaItem) (me : ClientArgs) (l : Letter) → IsOwn who last me.session me.number
    → IsLetterOf me l → IsServed who last items l
letter_of_served who last items me l own h =
    subst (λ (k : ℕ). LetterServed who last items k l.msg l.from l.to) (sym h.session)
    (subst (λ (a : Address). LetterServed who last items me.session l.msg a l.to) (sym h.from)
    (told_served who last items me.session me.number l.msg l.to own h.told))

-- so are its letters
letters_of_served : (who : ℕ → ℕ) (last : ℕ) (items : List MetaItem) (me : ClientArgs) (ls : List Letter) → IsOwn who last me.session me.number
    → AllByRecursion (IsLetterOf me) ls → AllByRecursion (IsServed who last items) ls
letters_of_served who last items me [] own each = tt
letters_of_served who last items me (l ∷ ls) own each =
    (letter_of_served who last items me l own each.0, letters_of_served who last items me ls own each.1)

-- a client does something
acts_served : (s : State) (c : ℕ) (conf : Conf) (me : Joined) (x : Input) (seen : History) → s.conf ≡ Some conf → s.clients c ≡ Some me → Coupled s seen
    → Served s → Served (acts_on s c me x (acts_of (args_of conf c me) me.view x)).state
unfolding client_served
acts_served s c conf me x seen is there f h =
    but_served told (confirms sent acts.confirmed).state
    (but_then told sent (confirms sent acts.confirmed).state (but_sent told acts.sent) (but_confirms sent acts.confirmed))
    (record { who = now.who; parts = now.parts; admitted = now.admitted; asked = now.asked })
  where
    args : ClientArgs
    args = args_of conf c me

    acts : Acts
    acts = acts_of args me.view x

    process : Joined
    process = record me { view = x ∷ me.view }

    told : State
    told = record (with_letters (with_client s c (Some process)) acts.letters) { calls = with_value s.calls c (s.calls c + acts.taken) }

    sent : State
    sent = with_sent told acts.sent

    before : ProcessSeen (Some conf) c (Some me) (seen.clients c)
    before =
        subst (λ (o : Option Conf). ProcessSeen o c (Some me) (seen.clients c)) is
        (subst (λ (o : Option Joined). ProcessSeen s.conf c o (seen.clients c)) there (f.clients c).process)

    own : IsOwn h.who (meta_in s).sessions.last me.session c
    own = subst (λ (o : Option Joined). AllSome (ProcessOwn h.who (meta_in s).sessions.last c) o) there (h.parts.clients_own c)

    now : Served (with_letters (with_client s c (Some process)) acts.letters)
    now =
        more_served (with_client s c (Some process)) acts.letters (client_served s c (Some process) h own)
        (letters_of_served h.who (meta_in s).sessions.last s.meta.items args acts.letters own (each_client_leads args me.view x seen before).letters)

-- a client takes something
takes_served : (s : State) (c : ℕ) (conf : Option Conf) (me : Option Joined) (x : Input) (seen : History) → s.conf ≡ conf → s.clients c ≡ me
    → Coupled s seen → Served s → Served (client_takes s c conf me x).state
takes_served s c (Some conf) (Some me) x seen is there f h = acts_served s c conf me x seen is there f h
takes_served s c (Some conf) None x seen is there f h = h
takes_served s c None me x seen is there f h = h

-- ---- storage nodes

-- what the row of a message says is an answer
abbrev RowSays : Bookie → Msg → Taken → Type 0
RowSays k m Looks = IsLedgerAnswer (look_answer k m)
RowSays k m (Answers reply) = IsLedgerAnswer reply
RowSays k m (Queues reply item) = IsLedgerAnswer reply

-- so is the answer that leaves at once
answer_says : (k : Bookie) (m : Msg) (row : Taken) → RowSays k m row → AllSome IsLedgerAnswer (answer_now k m row)
answer_says k m Looks is = is
answer_says k m (Answers reply) is = is
answer_says k m (Queues reply item) is = tt

-- where there is no room
no_room_says : (k : Bookie) (m : Msg) (l : ℕ) (entry : Option ℕ) (reply : Msg) (item : Option Item) (what : Option Resource) → IsLedgerAnswer reply
    → RowSays k m (if_room l entry reply item what)
no_room_says k m l entry reply item None is = is
no_room_says k m l entry reply item (Some what) is = tt

-- a row, where there is room or not
room_says : (k : Bookie) (m : Msg) (l : ℕ) (entry : Option ℕ) (row : Taken) → RowSays k m row → RowSays k m (with_room k l entry row)
room_says k m l entry Looks is = is
room_says k m l entry (Answers reply) is = is
room_says k m l entry (Queues reply item) is = no_room_says k m l entry reply item (lacking k l entry item) is

-- an entry that is looked up
entry_says : (k : Bookie) (t l e : ℕ) (o : Option Item) → IsLedgerAnswer (entry_answer k t l e o)
entry_says k t l e None = tt
entry_says k t l e (Some x) = tt

-- each row of the table says an answer to what is asked
table_says : (k : Bookie) (m : Msg) → IsLedgerAsk m → RowSays k m (table_row k m)
unfolding table_row look_answer
table_says k (msg.Add l e n bytes) is =
    room_says k (msg.Add l e n bytes) l (Some e) (add_row k l e n bytes)
    (cond_both (RowSays k (msg.Add l e n bytes)) (list_any (is_add l e) (durable k)) _ _ tt
    (cond_both (RowSays k (msg.Add l e n bytes)) (has_fence k l) _ _ tt
    (cond_both (RowSays k (msg.Add l e n bytes)) (list_any (is_add l e) (queued_items k)) _ _ tt
    (cond_both (RowSays k (msg.Add l e n bytes)) (list_any (is_fence l) (queued_items k)) _ _ tt tt))))
table_says k (msg.Copy t l e n bytes) is =
    room_says k (msg.Copy t l e n bytes) l (Some e) (copy_row k t l e n bytes)
    (cond_both (RowSays k (msg.Copy t l e n bytes)) (list_any (is_entry l e) (durable k)) _ _ tt
    (cond_both (RowSays k (msg.Copy t l e n bytes)) (list_any (is_entry l e) (queued_items k)) _ _ tt tt))
table_says k (msg.AskLac t l true) is =
    room_says k (msg.AskLac t l true) l None (fence_row k t l)
    (cond_both (RowSays k (msg.AskLac t l true)) (has_fence k l) _ _ tt
    (cond_both (RowSays k (msg.AskLac t l true)) (list_any (is_fence l) (queued_items k)) _ _ tt tt))
table_says k (msg.AskLac t l false) is = tt
table_says k (msg.AskEntry t l e) is = entry_says k t l e (find (is_entry l e) (durable k))
table_says k (msg.AddOk l e) is = absurd is
table_says k (msg.AddFenced l e) is = absurd is
table_says k (msg.Full what l e) is = absurd is
table_says k (msg.CopyOk t l e) is = absurd is
table_says k (msg.LacIs t l f n) is = absurd is
table_says k (msg.EntryIs t l e bytes) is = absurd is
table_says k (msg.NoEntry t l e f) is = absurd is
table_says k (msg.MetaAsk session number op) is = absurd is
table_says k (msg.MetaReply session number r) is = absurd is

-- a count that waits is told after its batch
told_says : (items : List Item) (m : Msg) → IsLedgerAnswer m → IsLedgerAnswer (told_after items m)
told_says items (msg.LacIs t l f n) is = tt
told_says items m is = is

-- a client's letter to a storage node: the answer is in its session, and so is the reply that waits
row_served : (s : State) (l : Letter) (b c : ℕ) (row : Taken) (h : Served s) → l.to ≡ AtBookie b → l.from ≡ Client c
    → RowSays (s.nodes b).bookie l.msg row → IsOwn h.who (meta_in s).sessions.last l.session c → Served (takes_row s l b c row)
unfolding node_served
row_served s l b c row h to from says own =
    answered (answer_now n.bookie l.msg row) (answer_says n.bookie l.msg row says)
  where
    n : Node
    n = s.nodes b

    node : (r : Taken) → RowSays n.bookie l.msg r → NodeOwn h.who (meta_in s).sessions.last (record n { bookie = taken_bookie n.bookie c l.session r })
    node Looks is = record { bookie = (h.parts.nodes_own b).bookie; other = (h.parts.nodes_own b).other }
    node (Answers m) is = record { bookie = (h.parts.nodes_own b).bookie; other = (h.parts.nodes_own b).other }
    node (Queues m item) is = record {
      bookie = all-last (WaitsOwn h.who (meta_in s).sessions.last) n.bookie.queue _ (h.parts.nodes_own b).bookie (record { own = own; says = is });
      other = (h.parts.nodes_own b).other;
    }

    now : Served (with_node s b (record n { bookie = taken_bookie n.bookie c l.session row }))
    now = node_served s b (record n { bookie = taken_bookie n.bookie c l.session row }) h (node row says)

    letter : (m : Msg) → IsLedgerAnswer m → IsServed h.who (meta_in s).sessions.last s.meta.items (answer_to l m)
    letter m is =
        subst (λ (a : Address). LetterServed h.who (meta_in s).sessions.last s.meta.items l.session m a l.from) (sym to)
        (subst (λ (a : Address). LetterServed h.who (meta_in s).sessions.last s.meta.items l.session m (AtBookie b) a) (sym from)
        (record { own = own; says = is }))

    answered : (o : Option Msg) → AllSome IsLedgerAnswer o
        → Served (with_answer (with_node s b (record n { bookie = taken_bookie n.bookie c l.session row })) l o)
    answered None is = now
    answered (Some m) is = more_served (with_node s b (record n { bookie = taken_bookie n.bookie c l.session row })) (answer_to l m ∷ []) now (letter m is, tt)

-- the replies that leave with a commit
replies_served : (who : ℕ → ℕ) (last : ℕ) (items : List MetaItem) (k : Bookie) (b : ℕ) (ws : List Waiting) → AllByRecursion (WaitsOwn who last) ws
    → AllByRecursion (IsServed who last items)
    (map (reply_letter b) (map (λ (w : Waiting). record { client = w.client; session = w.session; msg = told_after (all_items k) w.reply }) ws))
replies_served who last items k b [] each = tt
replies_served who last items k b (w ∷ ws) each =
    (record { own = each.0.own; says = told_says (all_items k) w.reply each.0.says }, replies_served who last items k b ws each.1)

-- a storage node commits
commit_served : (s : State) (b : ℕ) → Served s → Served (commits s b)
unfolding after_commit node_served
commit_served s b h =
    more_served (with_node s b (record (s.nodes b) { bookie = after_commit (s.nodes b).bookie })) _
    (node_served s b (record (s.nodes b) { bookie = after_commit (s.nodes b).bookie }) h (record { bookie = tt; other = (h.parts.nodes_own b).other }))
    (replies_served h.who (meta_in s).sessions.last s.meta.items (s.nodes b).bookie b (s.nodes b).bookie.queue (h.parts.nodes_own b).bookie)

module _ (who : ℕ → ℕ) (last : ℕ) where
  -- a storage node that goes down inside a commit
  stopped_own : (n : Node) (kept : Bool) → NodeOwn who last n → NodeOwn who last (stopped_node n kept)
  stopped_own n kept h = cond_both (NodeOwn who last) (is_up n.mode) _ n (record { bookie = tt; other = tt }) h

  -- a storage node that goes down
  killed_own : (n : Node) → NodeOwn who last n → NodeOwn who last (killed_node n)
  killed_own n h = cond_both (NodeOwn who last) (is_up n.mode) _ n (record { bookie = tt; other = h.other }) h

  -- a storage node that is loaded
  risen_own : (n : Node) (m : Mode) → NodeOwn who last n → NodeOwn who last (risen_node n m)
  risen_own n Up h = h
  risen_own n Down h = record { bookie = h.bookie; other = tt }
  risen_own n Lost h = h

  -- a storage node with the other list
  swapped_own : (n : Node) (o : Option Bookie) → NodeOwn who last n → AllSome (QueueOwn who last) o → NodeOwn who last (swapped_node n o)
  swapped_own n None h is = h
  swapped_own n (Some b) h is = record { bookie = is; other = h.bookie }

  -- a storage node whose load fails
  loosened_own : (n : Node) (m : Mode) (other : Bool) → NodeOwn who last n → NodeOwn who last (loosened_node n m other)
  loosened_own n Up other h = h
  loosened_own n Down true h = swapped_own n n.other h h.other
  loosened_own n Down false h = h
  loosened_own n Lost other h = h

-- ---- the metadata node

-- a request that is admitted runs
runs_served : (s : State) (r : MetaRequest) → admit_in s r ≡ admit.Run → IsAsked (Ask r.session r.number r.op) → Served s → Served (runs s r).state
unfolding meta_from does after_run
runs_served s r run asked h =
    but_served (with_meta_item s (Ask r.session r.number r.op)) (runs s r).state
    (but_run (meta_in s).tree r.op (answer_of (meta_in s) r.session r.op) (with_meta_item s (Ask r.session r.number r.op)))
    (item_served s (Ask r.session r.number r.op) h refl (λ j le e. gone-after (meta_in s).sessions j (Runs r.session r.number ∷ []) le e)
    (run, h.admitted) asked)

-- a session of which a request has expired isn't live
expired_gone : (o : Option ℕ) (n : ℕ) → admission o n ≡ admit.Expired → is_some o ≡ false
expired_gone None n e = refl
expired_gone (Some last) n e = absurd (go (nat_lt last n) e)
  where
    go : (b : Bool) → cond b admit.Run admit.Old ≡ admit.Expired → ⊥
    go true f = cc
    go false f = cc

-- the reply to a request, by what becomes of it
reply_served : (s : State) (l : Letter) (r : MetaRequest) (c : ℕ) (a : Admit) → admit_in s r ≡ a → IsAsked (Ask r.session r.number r.op)
    → r.session ≡ l.session → l.to ≡ AtMeta → l.from ≡ Client c → (h : Served s) → IsOwn h.who (meta_in s).sessions.last l.session c
    → Served (with_answer (admits s r a).state l (reply_msg r (reply_by (meta_in s) r.session r.number r.op a)))
unfolding meta_from does after_run item_served
reply_served s l r c admit.Old e asked same to from h own = h
reply_served s l r c admit.Expired e asked same to from h own =
    more_served s (answer_to l (msg.MetaReply r.session r.number reply.Expired) ∷ []) h (letter, tt)
  where
    letter : IsServed h.who (meta_in s).sessions.last s.meta.items (answer_to l (msg.MetaReply r.session r.number reply.Expired))
    letter =
        subst (λ (x : Address). LetterServed h.who (meta_in s).sessions.last s.meta.items l.session (msg.MetaReply r.session r.number reply.Expired) x l.from)
        (sym to)
        (subst (λ (x : Address). LetterServed h.who (meta_in s).sessions.last s.meta.items l.session (msg.MetaReply r.session r.number reply.Expired) AtMeta x)
        (sym from)
        (record {
          own = own;
          says = record {
            number = r.number;
            given = reply.Expired;
            is = ap (λ k. msg.MetaReply k r.number reply.Expired) same;
            says = subst (λ k. ReplySays s.meta.items k r.number reply.Expired) same
                (expired_gone (number_in (meta_in s).sessions.live r.session) r.number e);
          };
        }))
reply_served s l r c admit.Run e asked same to from h own =
    but_served (with_letters now (answer_to l m ∷ [])) (with_letters (runs s r).state (answer_to l m ∷ []))
    (ap (λ (t : State). with_letters t (answer_to l m ∷ [])) (but_run (meta_in s).tree r.op answer now))
    (more_served now (answer_to l m ∷ []) (item_served s (Ask r.session r.number r.op) h refl
    (λ j le f. gone-after (meta_in s).sessions j (Runs r.session r.number ∷ []) le f) (e, h.admitted) asked) (letter, tt))
  where
    answer : MetaAnswer
    answer = answer_of (meta_in s) r.session r.op

    m : Msg
    m = msg.MetaReply r.session r.number (reply.Answer answer)

    now : State
    now = with_meta_item s (Ask r.session r.number r.op)

    letter : IsServed h.who (meta_in s).sessions.last (Ask r.session r.number r.op ∷ s.meta.items) (answer_to l m)
    letter =
        subst (λ (x : Address). LetterServed h.who (meta_in s).sessions.last (Ask r.session r.number r.op ∷ s.meta.items) l.session m x l.from) (sym to)
        (subst (λ (x : Address). LetterServed h.who (meta_in s).sessions.last (Ask r.session r.number r.op ∷ s.meta.items) l.session m AtMeta x) (sym from)
        (record {
          own = own;
          says = record {
            number = r.number;
            given = reply.Answer answer;
            is = ap (λ k. msg.MetaReply k r.number (reply.Answer answer)) same;
            says = subst (λ k. ReplySays (Ask r.session r.number r.op ∷ s.meta.items) k r.number (reply.Answer answer)) same
                (record { newer = []; older = s.meta.items; op = r.op; parts = refl; answers = refl });
          };
        }))

-- a request that a letter is has its session and its operation
request_known : (session : ℕ) (m : Msg) (r : MetaRequest) → request_in m ≡ Some r → IsRequest session m
    → (r.session ≡ session) × IsAsked (Ask r.session r.number r.op)
request_known session m r e h =
    let is : Some (record { session = session; number = h.number; op = op_of h.request }) ≡ Some r = sym (ap request_in h.is) ∙ e in (
      sym (ap (session_in session) is),
      (h.request, sym (ap (op_in (op_of h.request)) is)),
    )
  where
    session_in : ℕ → Option MetaRequest → ℕ
    session_in k None = k
    session_in k (Some q) = q.session

    op_in : MetaOp → Option MetaRequest → MetaOp
    op_in o None = o
    op_in o (Some q) = q.op

-- a letter to the metadata node
meta_served : (s : State) (l : Letter) (r : Option MetaRequest) (c : ℕ) → request_in l.msg ≡ r → l.to ≡ AtMeta → l.from ≡ Client c → (h : Served s)
    → IsOwn h.who (meta_in s).sessions.last l.session c → IsRequest l.session l.msg → Served (meta_takes s l r).state
meta_served s l None c e to from h own says = h
meta_served s l (Some r) c e to from h own says =
    let known = request_known l.session l.msg r e says in
    reply_served s l r c (admit_in s r) refl known.1 known.0 to from h own

-- ---- letters

-- a letter is taken
letter_served : (s : State) (l : Letter) (to from : Address) (seen : History) → l.to ≡ to → l.from ≡ from → Coupled s seen → (h : Served s)
    → LetterServed h.who (meta_in s).sessions.last s.meta.items l.session l.msg from to → Served (takes_letter s l to from).state
letter_served s l (AtBookie b) (Client c) seen to from f h is =
    row_served s l b c (table_row (s.nodes b).bookie l.msg) h to from (table_says (s.nodes b).bookie l.msg is.says) is.own
letter_served s l (AtBookie b) (AtBookie d) seen to from f h is = h
letter_served s l (AtBookie b) AtMeta seen to from f h is = h
letter_served s l AtMeta (Client c) seen to from f h is = meta_served s l (request_in l.msg) c refl to from h is.own is.says
letter_served s l AtMeta (AtBookie b) seen to from f h is = absurd is.own
letter_served s l AtMeta AtMeta seen to from f h is = absurd is.own
letter_served s l (Client c) from seen to of f h is = takes_served s c s.conf (s.clients c) (Came l) seen refl refl f h

-- a letter that is marked is no part of what was seen
marked_seen : (s : State) (place : ℕ) (seen : History) → Coupled s seen → Coupled (marks s place) seen
marked_seen s place seen f = record { sessions = f.sessions; world = f.world; clients = f.clients }

-- the letter at a place is delivered
deliver_served : (s : State) (place : ℕ) (l : Option Letter) (seen : History) → Coupled s seen → (h : Served s)
    → AllSome (IsServed h.who (meta_in s).sessions.last s.meta.items) l → Served (delivers s place l).state
unfolding marked_served
deliver_served s place None seen f h is = h
deliver_served s place (Some l) seen f h is =
    cond_both (λ (o : Outcome). Served o.state) (can_take s l l.to) (takes_letter (marks s place) l l.to l.from) (quietly s)
    (letter_served (marks s place) l l.to l.from seen refl refl (marked_seen s place seen f) (marked_served s place h) is) h

-- a storage node goes down on a letter
faint_at_served : (s : State) (to : Address) → Served s → Served (faints_at s to)
faint_at_served s (AtBookie b) h =
    node_served s b (killed_node (s.nodes b)) h (killed_own h.who (meta_in s).sessions.last (s.nodes b) (h.parts.nodes_own b))
faint_at_served s (Client c) h = h
faint_at_served s AtMeta h = h

-- the same of the letter at a place
faint_served : (s : State) (place : ℕ) (l : Option Letter) → Served s → Served (faints s place l)
faint_served s place None h = h
faint_served s place (Some l) h =
    cond_both Served (can_take s l l.to) (faints_at (marks s place) l.to) s (faint_at_served (marks s place) l.to (marked_served s place h)) h

-- a request whose commit stops
stop_run_served : (s : State) (r : MetaRequest) (kept : Bool) → admit_in s r ≡ admit.Run → IsAsked (Ask r.session r.number r.op) → Served s
    → Served (stops_run s r kept).state
stop_run_served s r true run asked h = down_served (runs s r).state (runs_served s r run asked h)
stop_run_served s r false run asked h = down_served s h

-- the same of a request that is admitted so
stop_request_served : (s : State) (place : ℕ) (r : MetaRequest) (kept : Bool) (a : Admit) → admit_in s r ≡ a → IsAsked (Ask r.session r.number r.op)
    → Served s → Served (stops_request s place r kept a).state
stop_request_served s place r kept admit.Run e asked h = stop_run_served (marks s place) r kept e asked (marked_served s place h)
stop_request_served s place r kept admit.Old e asked h = h
stop_request_served s place r kept admit.Expired e asked h = h

-- the same of a message
stop_msg_served : (s : State) (place : ℕ) (kept : Bool) (r : Option MetaRequest) → AllSome (λ (q : MetaRequest). IsAsked (Ask q.session q.number q.op)) r
    → Served s → Served (stops_msg s place kept r).state
stop_msg_served s place kept None asked h = h
stop_msg_served s place kept (Some r) asked h = stop_request_served s place r kept (admit_in s r) refl asked h

-- an operation that a letter to the metadata node asks for is that of a request
asked_in : (session : ℕ) (m : Msg) (r : Option MetaRequest) → request_in m ≡ r → IsRequest session m
    → AllSome (λ (q : MetaRequest). IsAsked (Ask q.session q.number q.op)) r
asked_in session m None e h = tt
asked_in session m (Some r) e h = (request_known session m r e h).1

-- what is asked of a storage node is no request
ask_is_none : (m : Msg) → IsLedgerAsk m → request_in m ≡ None
ask_is_none (msg.Add l e n bytes) is = refl
ask_is_none (msg.Copy t l e n bytes) is = refl
ask_is_none (msg.AskLac t l f) is = refl
ask_is_none (msg.AskEntry t l e) is = refl
ask_is_none (msg.MetaAsk session number op) is = absurd is
ask_is_none m is = refl

-- nor is its answer
answer_is_none : (m : Msg) → IsLedgerAnswer m → request_in m ≡ None
answer_is_none (msg.MetaAsk session number op) is = absurd is
answer_is_none m is = refl

-- what a letter asks for is an operation of a request, where it asks for one
letter_asks : (who : ℕ → ℕ) (last : ℕ) (items : List MetaItem) (session : ℕ) (m : Msg) (from to : Address) → LetterServed who last items session m from to
    → AllSome (λ (q : MetaRequest). IsAsked (Ask q.session q.number q.op)) (request_in m)
letter_asks who last items session m from AtMeta is = asked_in session m (request_in m) refl is.says
letter_asks who last items session m from (AtBookie b) is =
    subst (AllSome (λ (q : MetaRequest). IsAsked (Ask q.session q.number q.op))) (sym (ask_is_none m is.says)) tt
letter_asks who last items session m AtMeta (Client c) is =
    subst (λ (x : Msg). AllSome (λ (q : MetaRequest). IsAsked (Ask q.session q.number q.op)) (request_in x)) (sym is.says.is) tt
letter_asks who last items session m (AtBookie b) (Client c) is =
    subst (AllSome (λ (q : MetaRequest). IsAsked (Ask q.session q.number q.op))) (sym (answer_is_none m is.says)) tt
letter_asks who last items session m (Client d) (Client c) is = absurd is.own

-- the same of the letter at a place
stop_meta_served : (s : State) (place : ℕ) (kept : Bool) (l : Option Letter) (h : Served s)
    → AllSome (IsServed h.who (meta_in s).sessions.last s.meta.items) l → Served (stops_meta s place kept l).state
stop_meta_served s place kept None h is = h
stop_meta_served s place kept (Some l) h is =
    cond_both (λ (o : Outcome). Served o.state) s.meta_up (stops_msg s place kept (request_in l.msg)) (quietly s)
    (stop_msg_served s place kept (request_in l.msg)
    (letter_asks h.who (meta_in s).sessions.last s.meta.items l.session l.msg l.from l.to is) h) h

-- ---- atomic steps

-- the letter at a place is served
letter_at : (s : State) (place : ℕ) (h : Served s) → AllSome (IsServed h.who (meta_in s).sessions.last s.meta.items) (slice_get s.letters place)
letter_at s place h = all-get (IsServed h.who (meta_in s).sessions.last s.meta.items) s.letters place h.parts.letters_served

-- each atomic step
pub atom_served : (s : State) (a : Atom) (seen : History) → Coupled s seen → Served s → Served (atom s a).state
unfolding atom
atom_served s (SetUp conf) seen f h = set_up_served s conf h
atom_served s (Join c) seen f h = join_served s c h
atom_served s (Crash c) seen f h = client_served s c None h tt
atom_served s (End k) seen f h = end_served s k h
atom_served s (Order c line step) seen f h = takes_served s c s.conf (s.clients c) (Line line step) seen refl refl f h
atom_served s (Deliver place) seen f h = deliver_served s place (slice_get s.letters place) seen f h (letter_at s place h)
atom_served s (Commit b) seen f h = commit_served s b h
atom_served s (Stop b kept) seen f h =
    node_served s b (stopped_node (s.nodes b) kept) h (stopped_own h.who (meta_in s).sessions.last (s.nodes b) kept (h.parts.nodes_own b))
atom_served s (StopMeta place kept) seen f h = stop_meta_served s place kept (slice_get s.letters place) h (letter_at s place h)
atom_served s (Faint place) seen f h = faint_served s place (slice_get s.letters place) h
atom_served s (Kill b) seen f h =
    node_served s b (killed_node (s.nodes b)) h (killed_own h.who (meta_in s).sessions.last (s.nodes b) (h.parts.nodes_own b))
atom_served s KillMeta seen f h = down_served s h
atom_served s (Rise b) seen f h =
    node_served s b (risen_node (s.nodes b) (s.nodes b).mode) h
    (risen_own h.who (meta_in s).sessions.last (s.nodes b) (s.nodes b).mode (h.parts.nodes_own b))
atom_served s RiseMeta seen f h = record { who = h.who; parts = h.parts; admitted = h.admitted; asked = h.asked }
atom_served s (Loosen b other) seen f h =
    node_served s b (loosened_node (s.nodes b) (s.nodes b).mode other) h
    (loosened_own h.who (meta_in s).sessions.last (s.nodes b) (s.nodes b).mode other (h.parts.nodes_own b))
atom_served s (Lose b) seen f h = node_served s b (lost_node (s.nodes b)) h (record { bookie = tt; other = (h.parts.nodes_own b).other })
atom_served s (Shows e) seen f h = h

-- before a setup
pub blank_served : Served blank
blank_served = record {
  who = λ k. 0;
  parts = record { letters_served = tt; nodes_own = λ b. record { bookie = tt; other = tt }; clients_own = λ c. tt };
  admitted = tt;
  asked = tt;
}
