-- Each atomic step leads on: what a transcript shows of sessions and clients stays as the state has it.
use Rattle.std.proofs.Common.{◌≡◌, ℕ, suc, ◌+◌, Bool, true, false, cond, not, ◌&&◌, ◌==◌, nat_le, List, [], ◌∷◌, length, map, Option, Some, None}
use Rattle.std.proofs.Common.{refl, sym, ap, ◌∙◌, subst, arith, eq-eqb, eqb-true, le-leb, true≢false, is_some, is_none, slice_get}
use Rattle.std.specs.List.{AllByRecursion}
use Rattle.std.proofs.lemmas.Bool.{and_from, and_parts, not_from_false}
use Rattle.dl_types.specs.declared.address.Address.{Address}
use Rattle.dl_types.specs.declared.address.Address.TheVariants.{Client, Bookie as AtBookie, Meta as AtMeta}
use Rattle.dl_types.specs.declared.meta_answer.MetaAnswer.{MetaAnswer}
use Rattle.dl_types.specs.declared.meta_op.MetaOp.{MetaOp}
use Rattle.dl_types.specs.declared.one_op.OneOp.{OneOp}
use Rattle.dl_types.specs.declared.one_op.OneOp.TheVariants.{Create, Delete, Set, Check, Get, Children}
use Rattle.dl_types.specs.declared.row.Row.{Row}
use Rattle.dl_tree.specs.Trees.{Nodes}
use Rattle.dl_msg.specs.declared.letter.Letter.{Letter}
use Rattle.dl_msg.specs.declared.msg.Msg.{Msg}
use Rattle.dl_session.specs.declared.admit.Admit.{Admit}
use Rattle.dl_session.specs.declared.admit.Admit.TheVariants as admit
use Rattle.dl_session.specs.Sessions.{is_live}
use Rattle.dl_formats.specs.declared.conf.Conf.{Conf}
use Rattle.dl_formats.specs.declared.cut.Cut.{Cut}
use Rattle.dl_formats.specs.declared.fault.MetaBytesFault.{MetaBytesFault}
use Rattle.dl_formats.specs.Keys as key
use Rattle.dl_formats.specs.Reading.{cut_at}
use Rattle.std.specs.Prelude.{Result, Ok, Err}
use Rattle.dl_rules_nodes.specs.Bookies.{table_row, answer_now}
use Rattle.dl_rules_nodes.specs.Items.{Setup, Expire, Ask}
use Rattle.dl_rules_nodes.specs.Metadata.{meta_from, does, answer_of, reply_of}
use Rattle.dl_transcript.specs.declared.event.Event.{Event}
use Rattle.dl_transcript.specs.declared.event.Event.TheVariants as event
use Rattle.dl_transcript.specs.Legal.{History, ClientHistory, has, no_history, keeps, sees}
use Rattle.dl_rules_client.specs.Acts.{Input, Line, Came, ClientArgs, Acts, SentEntry, Confirmation}
use Rattle.dl_rules_client.specs.Clients.{client_of, acts_of}
use Rattle.dl_rules_client.specs.Views.{ClientNow}
use Rattle.dl_rules_client.proofs.RangeLists.{all-append}
use Rattle.dl_machine.specs.States.{State, Outcome, Joined, blank, with_value, with_client, with_letters, with_meta_item, marks, quietly, can_take, args_of}
use Rattle.dl_machine.specs.Growth.{Closing, grow_event, grow_events, entries_to_grow, with_sent, confirms, closes, closing_with, stream_in, point_events}
use Rattle.dl_machine.specs.Growth.{points_by, is_done, ops_of, shows_op, shows_ops, shows_run}
use Rattle.dl_machine.specs.Atoms.{Atom, SetUp, Join, Crash, End, Order, Deliver, Commit, Stop, StopMeta, Faint, Kill, KillMeta, Rise, RiseMeta, Loosen}
use Rattle.dl_machine.specs.Atoms.{Lose, Shows, MetaRequest, meta_in, request_in, admit_in, sets_up, new_process, joins, joins_in, ends, acts_on}
use Rattle.dl_machine.specs.Atoms.{client_takes, with_answer, runs, admits, reply_msg, meta_takes, takes_letter, delivers, faints_at, faints, without_meta}
use Rattle.dl_machine.specs.Atoms.{stops_run, stops_request, stops_msg, stops_meta, atom}
use Rattle.dl_machine.proofs.Movements.{cond_both, put_each, ButLedgers, but_then, but_sent, but_confirms, but_run}
use Rattle.dl_law_legal.specs.Ruled.{is_ruled, Leads}
use Rattle.dl_law_legal.proofs.Leads.{leads_none, leads_one, leads_both, leads_to}
use Rattle.dl_law_legal.proofs.Asides.{StaysSeen, IsAside, asides_lead}
use Rattle.dl_law_client.specs.Seen.{ClientSeen, SeenOf, stream_read, has_read}
use Rattle.dl_law_client.proofs.Clients.{each_client_leads}
use Rattle.dl_laws.specs.Frames.{is_notice, AnyLine, IsFit, Couples}
use Rattle.dl_laws.specs.Coupled.{SessionsSeen, ProcessSeen, ClientFits, Coupled}
use Rattle.dl_laws.proofs.SessionsSeen.{connect_seen, expire_seen, ran_seen}

-- what an outcome shows leads to its state
abbrev pub OutcomeLeads : History → Outcome → Type 0
OutcomeLeads seen o = Leads is_ruled (Coupled o.state) seen o.events

-- nothing is shown
quiet_leads : (s : State) (seen : History) → Coupled s seen → OutcomeLeads seen (quietly s)
quiet_leads s seen h = leads_none is_ruled (Coupled s) seen h

-- ---- what a state doesn't say

-- what was seen stays
seen_stays : (s : State) (seen t : History) → StaysSeen seen t → Coupled s seen → Coupled s t
seen_stays s seen t e h = record {
  sessions = subst (λ (n : ℕ). SessionsSeen (meta_in s).sessions n t.expired) (sym e.sessions)
      (subst (λ (xs : List ℕ). SessionsSeen (meta_in s).sessions seen.sessions xs) (sym e.expired) h.sessions);
  world = h.world;
  clients = λ c. subst (λ (f : ℕ → ClientHistory). ClientFits s.conf c (s.clients c) (s.calls c) (f c)) (sym e.clients) (h.clients c);
}

-- ledgers are no part of it
but_coupled : (s t : State) (seen : History) → ButLedgers s t → Coupled s seen → Coupled t seen
but_coupled s t seen e h =
    subst (λ (v : State). Coupled v seen) (sym e) (record { sessions = h.sessions; world = h.world; clients = h.clients })

-- nor is a letter that is marked
marked_coupled : (s : State) (place : ℕ) (seen : History) → Coupled s seen → Coupled (marks s place) seen
marked_coupled s place seen h = record { sessions = h.sessions; world = h.world; clients = h.clients }

-- nor is an answer
answer_coupled : (s : State) (l : Letter) (reply : Option Msg) (seen : History) → Coupled s seen → Coupled (with_answer s l reply) seen
answer_coupled s l None seen h = h
answer_coupled s l (Some reply) seen h = record { sessions = h.sessions; world = h.world; clients = h.clients }

-- the metadata node goes down
down_coupled : (s : State) (seen : History) → Coupled s seen → Coupled (without_meta s) seen
down_coupled s seen h = record { sessions = h.sessions; world = λ e. absurd cc; clients = h.clients }

-- ---- the world and sessions

-- before a setup there was no process
set_up_process : (o : Option Conf) (conf : Conf) (c : ℕ) (me : Option Joined) (x : ClientHistory) → is_none o ≡ true → ProcessSeen o c me x
    → ProcessSeen (Some conf) c me x
set_up_process None conf c None x e p = tt
set_up_process None conf c (Some me) x e p = absurd p
set_up_process (Some old) conf c me x e p = absurd cc

-- the world is set up
set_up_coupled : (s : State) (conf : Conf) (seen : History) → Coupled s seen → Coupled (sets_up s conf) seen
unfolding meta_from does
set_up_coupled s conf seen h = go (is_none s.conf) refl
  where
    go : (b : Bool) → is_none s.conf ≡ b → Coupled (cond b (record (with_meta_item s (Setup conf)) { conf = Some conf; meta_up = true }) s) seen
    go true w = record {
      sessions = h.sessions;
      world = λ e. refl;
      clients = λ c. record { count = (h.clients c).count; process = set_up_process s.conf conf c (s.clients c) (seen.clients c) w (h.clients c).process };
    }
    go false w = h

-- a process that begins was shown to have no reader
new_seen : (conf : Option Conf) (s : State) (c k : ℕ) (x : ClientHistory) → is_some conf ≡ true → length x.taken ≡ s.calls c
    → ProcessSeen conf c (Some (new_process s c k)) (record x { reader = None })
unfolding client_of
new_seen None s c k x e count = absurd cc
new_seen (Some conf) s c k x e count = record { taken = count; reader = refl }

-- a client joins
join_leads : (s : State) (c : ℕ) (seen : History) → Coupled s seen → OutcomeLeads seen (joins s c)
unfolding keeps sees meta_from does
join_leads s c seen h = go s.meta_up refl
  where
    k : ℕ
    k = suc (meta_in s).sessions.last

    here : s.meta_up ≡ true → (d : ℕ) (b : Bool) → (d == c) ≡ b
        → ClientFits s.conf d (cond b (Some (new_process s c k)) (s.clients d)) (s.calls d)
        (cond b (record (seen.clients c) { reader = None }) (seen.clients d))
    here up d true w =
        subst (λ j. ClientFits s.conf j (Some (new_process s c k)) (s.calls j) (record (seen.clients c) { reader = None })) (sym (eqb-true d c w))
        (record { count = (h.clients c).count; process = new_seen s.conf s c k (seen.clients c) (h.world up) (h.clients c).count })
    here up d false w = h.clients d

    go : (b : Bool) → s.meta_up ≡ b → OutcomeLeads seen (cond b (joins_in s c k) (quietly s))
    go true up =
        leads_one is_ruled (Coupled (joins_in s c k).state) seen (event.Joined c k)
        (eq-eqb k (seen.sessions + 1) (omega (arith, h.sessions.last)))
        (record {
          sessions = connect_seen (meta_in s).sessions seen.sessions seen.expired h.sessions;
          world = h.world;
          clients = λ d. here up d (d == c) refl;
        })
    go false up = quiet_leads s seen h

-- a session ends
end_leads : (s : State) (k : ℕ) (seen : History) → Coupled s seen → OutcomeLeads seen (ends s k)
unfolding keeps sees meta_from does
end_leads s k seen h = go (s.meta_up && is_live (meta_in s).sessions k) refl
  where
    go : (b : Bool) → (s.meta_up && is_live (meta_in s).sessions k) ≡ b
        → OutcomeLeads seen (cond b (record { state = with_meta_item s (Expire k); events = event.Expired k ∷ [] }) (quietly s))
    go true w =
        let alive = (and_parts s.meta_up (is_live (meta_in s).sessions k) w).1 in
        let live = h.sessions.live k alive in
        leads_one is_ruled (Coupled (with_meta_item s (Expire k))) seen (event.Expired k)
        (and_from (nat_le 1 k && nat_le k seen.sessions) (not (has k seen.expired))
        (and_from (nat_le 1 k) (nat_le k seen.sessions) (le-leb 1 k live.given) (le-leb k seen.sessions live.joined))
        (not_from_false (has k seen.expired) live.lives))
        (record {
          sessions = expire_seen (meta_in s).sessions k seen.sessions seen.expired alive h.sessions;
          world = h.world;
          clients = h.clients;
        })
    go false w = quiet_leads s seen h

-- ---- growth

-- rows that grow go aside
rows_aside : (x : SentEntry) (rows : List Row) → AllByRecursion IsAside (map (grow_event x.stream) rows)
rows_aside x [] = tt
rows_aside x (r ∷ rows) = (refl, rows_aside x rows)

-- so do the rows of entries
grows_aside : (entries : List SentEntry) → AllByRecursion IsAside (grow_events entries)
grows_aside [] = tt
grows_aside (x ∷ xs) = all-append IsAside (map (grow_event x.stream) x.rows) (grow_events xs) (rows_aside x x.rows) (grows_aside xs)

-- so does what a writer confirms
confirms_aside : (s : State) (x : Option Confirmation) → AllByRecursion IsAside (confirms s x).events
confirms_aside s None = tt
confirms_aside s (Some x) = grows_aside (entries_to_grow (s.ledgers x.ledger) x.count)

-- so does a closing
closes_aside : (s : State) (x : Option Closing) → AllByRecursion IsAside (closes s x).events
closes_aside s None = tt
closes_aside s (Some x) =
    all-append IsAside (grow_events (entries_to_grow (s.ledgers x.ledger) x.count)) (event.Closed x.stream x.segment ∷ [])
    (grows_aside (entries_to_grow (s.ledgers x.ledger) x.count)) (refl, tt)

-- so does a point
point_aside : (stream : Option (List ℕ)) (cut : Result Cut MetaBytesFault) → AllByRecursion IsAside (point_events stream cut)
point_aside None cut = tt
point_aside (Some stream) (Err fault) = tt
point_aside (Some stream) (Ok cut) = (refl, tt)

-- so does a point that an operation moves
points_aside : (x : OneOp) → AllByRecursion IsAside (points_by x)
points_aside (Create path bytes mode) = tt
points_aside (Delete path version) = tt
points_aside (Set path bytes version) = point_aside (stream_in key.Cut path) (cut_at bytes)
points_aside (Check path version) = tt
points_aside (Get path) = tt
points_aside (Children path) = tt

-- so do operations that were done
ops_aside : (t : Nodes) (ops : List OneOp) (s : State) → AllByRecursion IsAside (shows_ops t ops s).events
ops_aside t [] s = tt
ops_aside t (x ∷ xs) s =
    let now : State = (shows_op t x s).state in
    all-append IsAside (shows_op t x s).events (shows_ops t xs now).events
    (all-append IsAside (closes s (closing_with t x)).events (points_by x) (closes_aside s (closing_with t x)) (points_aside x))
    (ops_aside t xs now)

-- so does a request that ran
run_aside : (t : Nodes) (op : MetaOp) (a : MetaAnswer) (s : State) → AllByRecursion IsAside (shows_run t op a s).events
run_aside t op a s =
    cond_both (λ (o : Outcome). AllByRecursion IsAside o.events) (is_done a) (shows_ops t (ops_of op) s) (quietly s) (ops_aside t (ops_of op) s) tt

-- ---- clients

-- a client that does something
acts_lead : (s : State) (c : ℕ) (conf : Conf) (me : Joined) (x : Input) (seen : History) → s.conf ≡ Some conf → s.clients c ≡ Some me → Coupled s seen
    → OutcomeLeads seen (acts_on s c me x (acts_of (args_of conf c me) me.view x))
acts_lead s c conf me x seen is there h =
    leads_both is_ruled (StaysSeen seen) (Coupled last) seen (confirms sent acts.confirmed).events acts.events
    (asides_lead seen (confirms sent acts.confirmed).events (confirms_aside sent acts.confirmed))
    (λ t e.
    let lead = each_client_leads args me.view x t (shown t e) in
    leads_to is_ruled (SeenOf c t now.taken (stream_read now.reader) (has_read now.order)) (Coupled last) t acts.events
    (λ u f. but_coupled told last u (but_then told sent last (but_sent told acts.sent) (but_confirms sent acts.confirmed)) (after t u e f lead.taken))
    lead.leads)
  where
    args : ClientArgs
    args = args_of conf c me

    acts : Acts
    acts = acts_of args me.view x

    process : Joined
    process = record me { view = x ∷ me.view }

    told : State
    told = record (with_letters (with_client s c (Some process)) acts.letters) { calls = with_value s.calls c (s.calls c + acts.taken) }

    sent : State
    sent = with_sent told acts.sent

    last : State
    last = (confirms sent acts.confirmed).state

    now : ClientNow
    now = client_of args (x ∷ me.view)

    before : ClientSeen (client_of args me.view) (seen.clients c)
    before =
        subst (λ (o : Option Conf). ProcessSeen o c (Some me) (seen.clients c)) is
        (subst (λ (o : Option Joined). ProcessSeen s.conf c o (seen.clients c)) there (h.clients c).process)

    shown : (t : History) → StaysSeen seen t → ClientSeen (client_of args me.view) (t.clients c)
    shown t e = subst (λ (f : ℕ → ClientHistory). ClientSeen (client_of args me.view) (f c)) (sym e.clients) before

    after : (t u : History) → StaysSeen seen t → SeenOf c t now.taken (stream_read now.reader) (has_read now.order) u
        → now.taken ≡ (client_of args me.view).taken + acts.taken → Coupled told u
    after t u e f taken = record {
      sessions = subst (λ (n : ℕ). SessionsSeen (meta_in s).sessions n u.expired) (sym (f.others.sessions ∙ e.sessions))
          (subst (λ (xs : List ℕ). SessionsSeen (meta_in s).sessions seen.sessions xs) (sym (f.others.expired ∙ e.expired)) h.sessions);
      world = h.world;
      clients = λ d. go d (d == c) refl;
    }
      where
        here : ClientFits s.conf c (Some process) (s.calls c + acts.taken) (u.clients c)
        here = record {
          count = omega (arith, f.client.taken, taken, (h.clients c).count, before.taken);
          process = subst (λ (o : Option Conf). ProcessSeen o c (Some process) (u.clients c)) (sym is) f.client;
        }

        go : (d : ℕ) (b : Bool) → (d == c) ≡ b
            → ClientFits s.conf d (cond b (Some process) (s.clients d)) (cond b (s.calls c + acts.taken) (s.calls d)) (u.clients d)
        go d true w =
            subst (λ j. ClientFits s.conf j (Some process) (s.calls c + acts.taken) (u.clients j)) (sym (eqb-true d c w)) here
        go d false w =
            subst (ClientFits s.conf d (s.clients d) (s.calls d))
            (sym (f.others.clients d (λ i. true≢false (sym (eq-eqb d c i) ∙ w)) ∙ ap (λ (g : ℕ → ClientHistory). g d) e.clients)) (h.clients d)

-- a client takes something
client_leads : (s : State) (c : ℕ) (conf : Option Conf) (me : Option Joined) (x : Input) (seen : History) → s.conf ≡ conf → s.clients c ≡ me
    → Coupled s seen → OutcomeLeads seen (client_takes s c conf me x)
client_leads s c (Some conf) (Some me) x seen is there h = acts_lead s c conf me x seen is there h
client_leads s c (Some conf) None x seen is there h = quiet_leads s seen h
client_leads s c None me x seen is there h = quiet_leads s seen h

-- ---- nodes

-- a request runs
runs_lead : (s : State) (r : MetaRequest) (seen : History) → Coupled s seen → OutcomeLeads seen (runs s r)
unfolding meta_from does
runs_lead s r seen h =
    leads_to is_ruled (StaysSeen seen) (Coupled (runs s r).state) seen (runs s r).events
    (λ t e. but_coupled asked (runs s r).state t (but_run tree r.op answer asked) (seen_stays asked seen t e first))
    (asides_lead seen (runs s r).events (run_aside tree r.op answer asked))
  where
    tree : Nodes
    tree = (meta_in s).tree

    answer : MetaAnswer
    answer = answer_of (meta_in s) r.session r.op

    asked : State
    asked = with_meta_item s (Ask r.session r.number r.op)

    first : Coupled asked seen
    first = record {
      sessions = ran_seen (meta_in s).sessions r.session r.number seen.sessions seen.expired h.sessions;
      world = h.world;
      clients = h.clients;
    }

-- a request is admitted
admits_lead : (s : State) (r : MetaRequest) (a : Admit) (seen : History) → Coupled s seen → OutcomeLeads seen (admits s r a)
admits_lead s r admit.Run seen h = runs_lead s r seen h
admits_lead s r admit.Old seen h = quiet_leads s seen h
admits_lead s r admit.Expired seen h = quiet_leads s seen h

-- a letter to the metadata node
meta_leads : (s : State) (l : Letter) (r : Option MetaRequest) (seen : History) → Coupled s seen → OutcomeLeads seen (meta_takes s l r)
meta_leads s l None seen h = quiet_leads s seen h
meta_leads s l (Some r) seen h =
    let now : Outcome = admits s r (admit_in s r) in
    let reply : Option Msg = reply_msg r (reply_of (meta_in s) r.session r.number r.op) in
    leads_to is_ruled (Coupled now.state) (Coupled (with_answer now.state l reply)) seen now.events
    (λ t k. answer_coupled now.state l reply t k) (admits_lead s r (admit_in s r) seen h)

-- a letter is taken
letter_leads : (s : State) (l : Letter) (to from : Address) (seen : History) → Coupled s seen → OutcomeLeads seen (takes_letter s l to from)
letter_leads s l (AtBookie b) (Client c) seen h =
    quiet_leads _ seen (answer_coupled _ l (answer_now (s.nodes b).bookie l.msg (table_row (s.nodes b).bookie l.msg)) seen
    (record { sessions = h.sessions; world = h.world; clients = h.clients }))
letter_leads s l (AtBookie b) (AtBookie d) seen h = quiet_leads s seen h
letter_leads s l (AtBookie b) AtMeta seen h = quiet_leads s seen h
letter_leads s l AtMeta from seen h = meta_leads s l (request_in l.msg) seen h
letter_leads s l (Client c) from seen h = client_leads s c s.conf (s.clients c) (Came l) seen refl refl h

-- the letter at a place is delivered
deliver_leads : (s : State) (place : ℕ) (l : Option Letter) (seen : History) → Coupled s seen → OutcomeLeads seen (delivers s place l)
deliver_leads s place None seen h = quiet_leads s seen h
deliver_leads s place (Some l) seen h =
    cond_both (OutcomeLeads seen) (can_take s l l.to) (takes_letter (marks s place) l l.to l.from) (quietly s)
    (letter_leads (marks s place) l l.to l.from seen (marked_coupled s place seen h)) (quiet_leads s seen h)

-- a storage node goes down on a letter
faint_at_coupled : (s : State) (to : Address) (seen : History) → Coupled s seen → Coupled (faints_at s to) seen
faint_at_coupled s (AtBookie b) seen h = record { sessions = h.sessions; world = h.world; clients = h.clients }
faint_at_coupled s (Client c) seen h = h
faint_at_coupled s AtMeta seen h = h

-- the same of the letter at a place
faint_coupled : (s : State) (place : ℕ) (l : Option Letter) (seen : History) → Coupled s seen → Coupled (faints s place l) seen
faint_coupled s place None seen h = h
faint_coupled s place (Some l) seen h =
    cond_both (λ (t : State). Coupled t seen) (can_take s l l.to) (faints_at (marks s place) l.to) s
    (faint_at_coupled (marks s place) l.to seen (marked_coupled s place seen h)) h

-- a request whose commit stops
stop_run_leads : (s : State) (r : MetaRequest) (kept : Bool) (seen : History) → Coupled s seen → OutcomeLeads seen (stops_run s r kept)
stop_run_leads s r true seen h =
    leads_to is_ruled (Coupled (runs s r).state) (Coupled (without_meta (runs s r).state)) seen (runs s r).events
    (λ t k. down_coupled (runs s r).state t k) (runs_lead s r seen h)
stop_run_leads s r false seen h = quiet_leads (without_meta s) seen (down_coupled s seen h)

-- the same of a request that is admitted so
stop_request_leads : (s : State) (place : ℕ) (r : MetaRequest) (kept : Bool) (a : Admit) (seen : History) → Coupled s seen
    → OutcomeLeads seen (stops_request s place r kept a)
stop_request_leads s place r kept admit.Run seen h = stop_run_leads (marks s place) r kept seen (marked_coupled s place seen h)
stop_request_leads s place r kept admit.Old seen h = quiet_leads s seen h
stop_request_leads s place r kept admit.Expired seen h = quiet_leads s seen h

-- the same of a message
stop_msg_leads : (s : State) (place : ℕ) (kept : Bool) (r : Option MetaRequest) (seen : History) → Coupled s seen
    → OutcomeLeads seen (stops_msg s place kept r)
stop_msg_leads s place kept None seen h = quiet_leads s seen h
stop_msg_leads s place kept (Some r) seen h = stop_request_leads s place r kept (admit_in s r) seen h

-- the same of the letter at a place
stop_meta_leads : (s : State) (place : ℕ) (kept : Bool) (l : Option Letter) (seen : History) → Coupled s seen → OutcomeLeads seen (stops_meta s place kept l)
stop_meta_leads s place kept None seen h = quiet_leads s seen h
stop_meta_leads s place kept (Some l) seen h =
    cond_both (OutcomeLeads seen) s.meta_up (stops_msg s place kept (request_in l.msg)) (quietly s)
    (stop_msg_leads s place kept (request_in l.msg) seen h) (quiet_leads s seen h)

-- ---- atomic steps

-- a process of a client ends
crash_coupled : (s : State) (c : ℕ) (seen : History) → Coupled s seen → Coupled (with_client s c None) seen
crash_coupled s c seen h = record {
  sessions = h.sessions;
  world = h.world;
  clients = put_each s.clients c None (λ d me. ClientFits s.conf d me (s.calls d) (seen.clients d))
      (record { count = (h.clients c).count; process = tt }) h.clients;
}

-- a notice goes aside
notice_aside : (e : Event) → is_notice e ≡ true → IsAside e
notice_aside (event.Mail from to count) a = refl
notice_aside event.Nothing a = refl
notice_aside e a = absurd cc

-- each atomic step
pub atom_leads : (s : State) (a : Atom) (seen : History) → IsFit AnyLine a → Coupled s seen → OutcomeLeads seen (atom s a)
unfolding atom
atom_leads s (SetUp conf) seen fit h = quiet_leads (sets_up s conf) seen (set_up_coupled s conf seen h)
atom_leads s (Join c) seen fit h = join_leads s c seen h
atom_leads s (Crash c) seen fit h = quiet_leads _ seen (crash_coupled s c seen h)
atom_leads s (End k) seen fit h = end_leads s k seen h
atom_leads s (Order c line step) seen fit h = client_leads s c s.conf (s.clients c) (Line line step) seen refl refl h
atom_leads s (Deliver place) seen fit h = deliver_leads s place (slice_get s.letters place) seen h
atom_leads s (Commit b) seen fit h = quiet_leads _ seen (record { sessions = h.sessions; world = h.world; clients = h.clients })
atom_leads s (Stop b kept) seen fit h = quiet_leads _ seen (record { sessions = h.sessions; world = h.world; clients = h.clients })
atom_leads s (StopMeta place kept) seen fit h = stop_meta_leads s place kept (slice_get s.letters place) seen h
atom_leads s (Faint place) seen fit h = quiet_leads _ seen (faint_coupled s place (slice_get s.letters place) seen h)
atom_leads s (Kill b) seen fit h = quiet_leads _ seen (record { sessions = h.sessions; world = h.world; clients = h.clients })
atom_leads s KillMeta seen fit h = quiet_leads _ seen (down_coupled s seen h)
atom_leads s (Rise b) seen fit h = quiet_leads _ seen (record { sessions = h.sessions; world = h.world; clients = h.clients })
atom_leads s RiseMeta seen fit h = quiet_leads _ seen (record { sessions = h.sessions; world = λ e. e; clients = h.clients })
atom_leads s (Loosen b other) seen fit h = quiet_leads _ seen (record { sessions = h.sessions; world = h.world; clients = h.clients })
atom_leads s (Lose b) seen fit h = quiet_leads _ seen (record { sessions = h.sessions; world = h.world; clients = h.clients })
atom_leads s (Shows e) seen fit h =
    leads_to is_ruled (StaysSeen seen) (Coupled s) seen (e ∷ []) (λ t k. seen_stays s seen t k h) (asides_lead seen (e ∷ []) (notice_aside e fit, tt))

-- before the first event
blank_coupled : Coupled blank no_history
unfolding meta_from
blank_coupled = record {
  sessions = record { last = refl; live = λ k e. absurd cc; within = λ k e. absurd cc };
  world = λ e. absurd cc;
  clients = λ c. record { count = refl; process = tt };
}

-- each atomic step leads on
pub couples : Couples AnyLine is_ruled Coupled
couples = record { begun = blank_coupled; each = atom_leads }
