-- Clients are in sessions that were given.
use Rattle.std.proofs.Common.{◌≡◌, ℕ, suc, ◌+◌, ◌≤◌, List, ◌∷◌, Option, Some, None, refl, sym, ap, ◌∙◌, subst, inl, inr, arith, slice_get}
use Rattle.dl_types.specs.declared.address.Address.{Address}
use Rattle.dl_types.specs.declared.address.Address.TheVariants.{Client, Bookie as AtBookie, Meta as AtMeta}
use Rattle.dl_msg.specs.declared.letter.Letter.{Letter}
use Rattle.dl_msg.specs.declared.msg.Msg.{Msg}
use Rattle.dl_session.specs.declared.admit.Admit.{Admit}
use Rattle.dl_session.specs.declared.admit.Admit.TheVariants as admit
use Rattle.dl_session.specs.Sessions.{after_connect, after_expiry, after_run}
use Rattle.dl_formats.specs.declared.conf.Conf.{Conf}
use Rattle.dl_rules_nodes.specs.Bookies.{table_row, answer_now}
use Rattle.dl_rules_nodes.specs.Items.{MetaItem, Setup, Connect, Expire, Ask}
use Rattle.dl_rules_nodes.specs.Metadata.{Meta, meta_from, meta_of, does, answer_of, reply_of}
use Rattle.dl_rules_client.specs.Acts.{Input, Line, Came, Acts}
use Rattle.dl_rules_client.specs.Clients.{acts_of}
use Rattle.dl_machine.specs.States.{State, Outcome, Joined, with_value, with_client, with_letters, with_meta_item, marks, quietly, can_take, args_of}
use Rattle.dl_machine.specs.Growth.{with_sent, confirms}
use Rattle.dl_machine.specs.Atoms.{Atom, SetUp, Join, Crash, End, Order, Deliver, Commit, Stop, StopMeta, Faint, Kill, KillMeta, Rise, RiseMeta, Loosen}
use Rattle.dl_machine.specs.Atoms.{Lose, Shows, MetaRequest, meta_in, request_in, admit_in, new_process, joins, joins_in, acts_on, client_takes}
use Rattle.dl_machine.specs.Atoms.{with_answer, runs, admits, reply_msg, meta_takes, takes_letter, delivers, faints_at, faints, stops_run, stops_request}
use Rattle.dl_machine.specs.Atoms.{stops_msg, stops_meta, atom}
use Rattle.dl_machine.specs.Laws.{OneItemMore, IsGiven, JoinedAreGiven, SessionsAreGiven}
use Rattle.std.specs.Prelude.{Bool, true, false, ◌&&◌, is_none}
use Rattle.dl_session.specs.Sessions.{is_live}
use Rattle.dl_machine.proofs.Movements.{cond_both, put_each, ButLedgers, but_then, but_sent, but_confirms, but_run}
use Rattle.dl_machine.proofs.StayLaws.{atom_keeps, kept_by_all}

-- ---- clients

-- A client had joined, in this session.
record Was (before : Option Joined) (k : ℕ) : Type 0 where
  process : Joined
  there : before ≡ Some process
  same : process.session ≡ k

-- each client that has joined had joined before, in its session
abbrev EachWas : State → (ℕ → Option Joined) → Type 0
EachWas s now = (c : ℕ) (me : Joined) → now c ≡ Some me → Was (s.clients c) me.session

-- the session of a client, 0 where it has not joined
abbrev session_of : Option Joined → ℕ
session_of None = 0
session_of (Some me) = me.session

-- where the clients stay as they are, each had joined before
each_same : (s : State) (now : ℕ → Option Joined) → now ≡ s.clients → EachWas s now
each_same s now e c me w = record { process = me; there = sym (ap (λ (f : ℕ → Option Joined). f c) e) ∙ w; same = refl }

-- a change of ledgers alone leaves the clients
but_clients : (s t : State) → ButLedgers s t → t.clients ≡ s.clients
but_clients s t e = ap (λ (v : State). v.clients) e

-- a client that does something had joined before
acts_was : (s : State) (c : ℕ) (me : Joined) (x : Input) (acts : Acts) → s.clients c ≡ Some me → EachWas s (acts_on s c me x acts).state.clients
acts_was s c me x acts given =
    let process : Option Joined = Some (record me { view = x ∷ me.view }) in
    let told : State = record (with_letters (with_client s c process) acts.letters) { calls = with_value s.calls c (s.calls c + acts.taken) } in
    let sent : State = with_sent told acts.sent in
    let t : State = (confirms sent acts.confirmed).state in
    let same : t.clients ≡ with_value s.clients c process =
    but_clients told t (but_then told sent t (but_sent told acts.sent) (but_confirms sent acts.confirmed)) in
    subst (λ (f : ℕ → Option Joined). EachWas s f) (sym same)
    (put_each s.clients c process (λ j p. (q : Joined) → p ≡ Some q → Was (s.clients j) q.session)
    (λ q w. record { process = me; there = given; same = ap session_of w })
    (λ j q w. record { process = q; there = w; same = refl }))

-- so it is where a client takes something
client_was : (s : State) (c : ℕ) (conf : Option Conf) (me : Option Joined) (x : Input) → s.clients c ≡ me → EachWas s (client_takes s c conf me x).state.clients
client_was s c (Some conf) (Some me) x e = acts_was s c me x (acts_of (args_of conf c me) me.view x) e
client_was s c (Some conf) None x e = each_same s _ refl
client_was s c None me x e = each_same s _ refl

-- ---- nodes

-- an answer leaves the clients
answer_same : (s : State) (l : Letter) (reply : Option Msg) → (with_answer s l reply).clients ≡ s.clients
answer_same s l None = refl
answer_same s l (Some reply) = refl

-- so does a request that runs
runs_same : (s : State) (r : MetaRequest) → (runs s r).state.clients ≡ s.clients
runs_same s r =
    let asked : State = with_meta_item s (Ask r.session r.number r.op) in
    but_clients asked (runs s r).state (but_run (meta_in s).tree r.op (answer_of (meta_in s) r.session r.op) asked)

-- so does a request that is admitted
admits_same : (s : State) (r : MetaRequest) (a : Admit) → (admits s r a).state.clients ≡ s.clients
admits_same s r admit.Run = runs_same s r
admits_same s r admit.Old = refl
admits_same s r admit.Expired = refl

-- so does a letter to the metadata node
meta_same : (s : State) (l : Letter) (r : Option MetaRequest) → (meta_takes s l r).state.clients ≡ s.clients
meta_same s l None = refl
meta_same s l (Some r) =
    answer_same (admits s r (admit_in s r)).state l (reply_msg r (reply_of (meta_in s) r.session r.number r.op)) ∙ admits_same s r (admit_in s r)

-- each client had joined before a letter is taken
letter_was : (s : State) (l : Letter) (to from : Address) → EachWas s (takes_letter s l to from).state.clients
letter_was s l (AtBookie b) (Client c) = each_same s _ (answer_same _ l (answer_now (s.nodes b).bookie l.msg (table_row (s.nodes b).bookie l.msg)))
letter_was s l (AtBookie b) (AtBookie d) = each_same s _ refl
letter_was s l (AtBookie b) AtMeta = each_same s _ refl
letter_was s l AtMeta from = each_same s _ (meta_same s l (request_in l.msg))
letter_was s l (Client c) from = client_was s c s.conf (s.clients c) (Came l) refl

-- the same of a letter that is delivered
deliver_was : (s : State) (place : ℕ) (l : Option Letter) → EachWas s (delivers s place l).state.clients
deliver_was s place None = each_same s _ refl
deliver_was s place (Some l) =
    cond_both (λ (o : Outcome). EachWas s o.state.clients) (can_take s l l.to) (takes_letter (marks s place) l l.to l.from) (quietly s)
    (letter_was (marks s place) l l.to l.from) (each_same s _ refl)

-- a storage node that goes down on a letter leaves the clients
faint_at_same : (s : State) (to : Address) → (faints_at s to).clients ≡ s.clients
faint_at_same s (AtBookie b) = refl
faint_at_same s (Client c) = refl
faint_at_same s AtMeta = refl

-- the same of the letter at a place
faint_was : (s : State) (place : ℕ) (l : Option Letter) → EachWas s (faints s place l).clients
faint_was s place None = each_same s _ refl
faint_was s place (Some l) =
    cond_both (λ (t : State). EachWas s t.clients) (can_take s l l.to) (faints_at (marks s place) l.to) s
    (each_same s _ (faint_at_same (marks s place) l.to)) (each_same s _ refl)

-- a request whose commit stops leaves the clients
stop_run_same : (s : State) (r : MetaRequest) (kept : Bool) → (stops_run s r kept).state.clients ≡ s.clients
stop_run_same s r true = runs_same s r
stop_run_same s r false = refl

-- the same of a request that is admitted so
stop_request_same : (s : State) (place : ℕ) (r : MetaRequest) (kept : Bool) (a : Admit) → (stops_request s place r kept a).state.clients ≡ s.clients
stop_request_same s place r kept admit.Run = stop_run_same (marks s place) r kept
stop_request_same s place r kept admit.Old = refl
stop_request_same s place r kept admit.Expired = refl

-- the same of a message
stop_msg_same : (s : State) (place : ℕ) (kept : Bool) (r : Option MetaRequest) → (stops_msg s place kept r).state.clients ≡ s.clients
stop_msg_same s place kept None = refl
stop_msg_same s place kept (Some r) = stop_request_same s place r kept (admit_in s r)

-- the same of the letter at a place
stop_meta_same : (s : State) (place : ℕ) (kept : Bool) (l : Option Letter) → (stops_meta s place kept l).state.clients ≡ s.clients
stop_meta_same s place kept None = refl
stop_meta_same s place kept (Some l) =
    cond_both (λ (o : Outcome). o.state.clients ≡ s.clients) s.meta_up (stops_msg s place kept (request_in l.msg)) (quietly s)
    (stop_msg_same s place kept (request_in l.msg)) refl

-- ---- the last session

-- no item takes a session back
item_last : (m : Meta) (x : MetaItem) → m.sessions.last ≤ (does m x).sessions.last
unfolding does after_connect after_expiry after_run
item_last m (Setup conf) = omega arith
item_last m (Connect k) = omega arith
item_last m (Expire k) = omega arith
item_last m (Ask session number op) = omega arith

-- one item more takes no session back
more_last : (items now : List MetaItem) → OneItemMore items now → (meta_of items).sessions.last ≤ (meta_of now).sessions.last
unfolding meta_from
more_last items now (inl e) = omega (arith, ap (λ (xs : List MetaItem). (meta_of xs).sessions.last) e)
more_last items now (inr h) =
    subst (λ (xs : List MetaItem). (meta_of items).sessions.last ≤ (meta_of xs).sessions.last) (sym h.1) (item_last (meta_of items) h.0)

-- no atomic step takes a session back
last_grows : (s : State) (a : Atom) → (meta_in s).sessions.last ≤ (meta_in (atom s a).state).sessions.last
last_grows s a = more_last _ _ (atom_keeps s a).stays.items

-- a session that is given is the last one
connect_last : (k : ℕ) (items : List MetaItem) → (meta_of (Connect k ∷ items)).sessions.last ≡ suc (meta_of items).sessions.last
unfolding meta_from does after_connect
connect_last k items = omega arith

-- ---- sessions that were given

-- where each client had joined before and no session is taken back, sessions stay given
given_then : (s t : State) → EachWas s t.clients → (meta_in s).sessions.last ≤ (meta_in t).sessions.last → JoinedAreGiven s → JoinedAreGiven t
given_then s t each more h c me w =
    let was = each c me w in
    let given = h c was.process was.there in
    (omega (arith, given.0, was.same), omega (arith, given.1, was.same, more))

-- a client that joins is in a session that was given
join_given : (s : State) (c : ℕ) → JoinedAreGiven s → JoinedAreGiven (joins s c).state
join_given s c h =
    let k : ℕ = suc (meta_in s).sessions.last in
    let t : State = (joins_in s c k).state in
    let last = connect_last k s.meta.items in
    cond_both (λ (o : Outcome). JoinedAreGiven o.state) s.meta_up (joins_in s c k) (quietly s)
    (put_each s.clients c (Some (new_process s c k)) (λ j p. (me : Joined) → p ≡ Some me → IsGiven t me.session)
    (λ me w. let same : k ≡ me.session = ap session_of w in (omega (arith, same), omega (arith, same, last)))
    (λ j me w. let given = h j me w in (given.0, omega (arith, given.1, last))))
    h

-- a step by which no client joins leaves sessions given
step_given : (s : State) (a : Atom) → EachWas s (atom s a).state.clients → JoinedAreGiven s → JoinedAreGiven (atom s a).state
step_given s a each h = given_then s (atom s a).state each (last_grows s a) h

-- each atomic step leaves sessions given
atom_given : (s : State) (a : Atom) → JoinedAreGiven s → JoinedAreGiven (atom s a).state
unfolding atom
atom_given s (SetUp conf) h =
    step_given s (SetUp conf) (cond_both (λ (t : State). EachWas s t.clients) (is_none s.conf) _ s (each_same s _ refl) (each_same s _ refl)) h
atom_given s (Join c) h = join_given s c h
atom_given s (Crash c) h =
    step_given s (Crash c) (put_each s.clients c None (λ j p. (q : Joined) → p ≡ Some q → Was (s.clients j) q.session)
    (λ q w. absurd cc) (λ j q w. record { process = q; there = w; same = refl })) h
atom_given s (End k) h =
    step_given s (End k) (cond_both (λ (o : Outcome). EachWas s o.state.clients) (s.meta_up && is_live (meta_in s).sessions k) _ (quietly s)
    (each_same s _ refl) (each_same s _ refl)) h
atom_given s (Order c line step) h =
    step_given s (Order c line step) (client_was s c s.conf (s.clients c) (Line line step) refl) h
atom_given s (Deliver place) h = step_given s (Deliver place) (deliver_was s place (slice_get s.letters place)) h
atom_given s (Commit b) h = step_given s (Commit b) (each_same s _ refl) h
atom_given s (Stop b kept) h = step_given s (Stop b kept) (each_same s _ refl) h
atom_given s (StopMeta place kept) h =
    step_given s (StopMeta place kept) (each_same s _ (stop_meta_same s place kept (slice_get s.letters place))) h
atom_given s (Faint place) h = step_given s (Faint place) (faint_was s place (slice_get s.letters place)) h
atom_given s (Kill b) h = step_given s (Kill b) (each_same s _ refl) h
atom_given s KillMeta h = step_given s KillMeta (each_same s _ refl) h
atom_given s (Rise b) h = step_given s (Rise b) (each_same s _ refl) h
atom_given s RiseMeta h = step_given s RiseMeta (each_same s _ refl) h
atom_given s (Loosen b other) h = step_given s (Loosen b other) (each_same s _ refl) h
atom_given s (Lose b) h = step_given s (Lose b) (each_same s _ refl) h
atom_given s (Shows event) h = step_given s (Shows event) (each_same s _ refl) h

-- clients are in sessions that were given, which is the law
pub sessions_are_given : SessionsAreGiven
sessions_are_given = record {
  begun = λ c me w. absurd cc;
  files = λ bookies meta c me w. absurd cc;
  reached = kept_by_all JoinedAreGiven atom_given;
}
