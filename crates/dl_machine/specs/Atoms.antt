-- The atomic steps: a client takes one line, one letter is delivered, a storage node commits its queue, the metadata node
-- commits one request, a session begins or ends, a node stops, loads or loses its disk. What a failing device does is an atomic
-- step too. What an atomic step asks for is tested in it, so that each list of atomic steps is a run of the machine.
use Rattle.std.specs.Prelude.{ℕ, suc, ◌+◌, Bool, true, false, if◌then◌else◌, not, ◌&&◌, [], ◌∷◌, map, Option, Some, None, is_none, is_some, slice_get}
use Rattle.dl_types.specs.declared.address.Address.{Address}
use Rattle.dl_types.specs.declared.address.Address.TheVariants.{Client, Bookie as AtBookie, Meta as AtMeta}
use Rattle.dl_types.specs.declared.meta_op.MetaOp.{MetaOp}
use Rattle.dl_msg.specs.declared.letter.Letter.{Letter}
use Rattle.dl_msg.specs.declared.meta_reply.MetaReply.{MetaReply}
use Rattle.dl_msg.specs.declared.msg.Msg.{Msg}
use Rattle.dl_msg.specs.declared.msg.Msg.TheVariants as msg
use Rattle.dl_session.specs.declared.admit.Admit.{Admit}
use Rattle.dl_session.specs.declared.admit.Admit.TheVariants as admit
use Rattle.dl_session.specs.Sessions.{is_live}
use Rattle.dl_formats.specs.declared.conf.Conf.{Conf}
use Rattle.dl_rules_nodes.specs.Bookies.{Bookie, Taken, Reply, table_row, after, answer_now, replies_of, after_commit, after_stop, without_queue}
use Rattle.dl_rules_nodes.specs.Items.{Setup, Connect, Expire, Ask}
use Rattle.dl_rules_nodes.specs.Metadata.{Meta, meta_of, admit_of, answer_of, reply_of}
use Rattle.dl_schedule.specs.declared.step.Step.{Step}
use Rattle.dl_transcript.specs.declared.event.Event.{Event}
use Rattle.dl_transcript.specs.declared.event.Event.TheVariants as event
use Rattle.dl_rules_client.specs.Acts.{Input, Line, Came, Acts}
use Rattle.dl_rules_client.specs.Clients.{acts_of}
use Rattle.dl_machine.specs.States.{State, Node, Mode, Up, Down, Lost, Joined, Outcome, with_value, with_node, with_bookie, with_client, with_letters}
use Rattle.dl_machine.specs.States.{with_meta_item, marks, is_up, can_take, args_of, quietly, then_shows}
use Rattle.dl_machine.specs.Growth.{with_sent, confirms, shows_run}

-- what happens at once, or not at all
pub data Atom : Type 0 where
  -- the world is set up
  SetUp : (conf : Conf) → Atom
  -- a client joins, and gets a session
  Join : (client : ℕ) → Atom
  -- a client's process ends
  Crash : (client : ℕ) → Atom
  -- a session ends
  End : (session : ℕ) → Atom
  -- a client takes a line
  Order : (client line : ℕ) (step : Step) → Atom
  -- the letter at a place is delivered
  Deliver : (place : ℕ) → Atom
  -- a storage node commits its queue
  Commit : (bookie : ℕ) → Atom
  -- a storage node goes down inside a commit, with the batch or without
  Stop : (bookie : ℕ) (kept : Bool) → Atom
  -- the metadata node goes down inside the commit of the request at a place, with the request or without
  StopMeta : (place : ℕ) (kept : Bool) → Atom
  -- a storage node goes down on the letter at a place, without an answer
  Faint : (place : ℕ) → Atom
  -- a storage node goes down
  Kill : (bookie : ℕ) → Atom
  -- the metadata node goes down
  KillMeta : Atom
  -- a storage node that is down is loaded
  Rise : (bookie : ℕ) → Atom
  -- the metadata node is loaded
  RiseMeta : Atom
  -- a load of a storage node fails, with the batch of its last commit that was stopped or failed, or without
  Loosen : (bookie : ℕ) (other : Bool) → Atom
  -- a storage node loses its disk
  Lose : (bookie : ℕ) → Atom
  -- an event is shown
  Shows : (event : Event) → Atom

-- ---- the world and sessions

-- the tree and the sessions of a state
abbrev pub meta_in : State → Meta
meta_in s = meta_of s.meta.items

-- the world is set up once
abbrev pub sets_up : State → Conf → State
sets_up s conf = if is_none s.conf then record (with_meta_item s (Setup conf)) { conf = Some conf; meta_up = true } else s

-- a process of a client that has taken nothing yet, in a session
abbrev pub new_process : State → (client session : ℕ) → Joined
new_process s c k = record { session = k; calls = s.calls c; view = [] }

-- a client's process begins in this session
abbrev pub joins_in : State → (client session : ℕ) → Outcome
joins_in s c k = record {
  state = with_client (with_meta_item s (Connect k)) c (Some (new_process s c k));
  events = event.Joined c k ∷ [];
}

-- a client's process begins, in the session after the last one, where the metadata node is up
abbrev pub joins : State → ℕ → Outcome
joins s c = if s.meta_up then joins_in s c (suc (meta_in s).sessions.last) else quietly s

-- a session that is live ends, where the metadata node is up
abbrev pub ends : State → ℕ → Outcome
ends s k =
    if s.meta_up && is_live (meta_in s).sessions k
    then record { state = with_meta_item s (Expire k); events = event.Expired k ∷ [] }
    else quietly s

-- ---- clients

-- the state in which a client took something: its view and its count of records, the letters that it sent, the entry that it
-- sent
abbrev pub with_acts : State → ℕ → Joined → Input → Acts → State
with_acts s c me x acts =
    let now = with_client s c (Some (record me { view = x ∷ me.view })) in
    with_sent (record (with_letters now acts.letters) { calls = with_value s.calls c (s.calls c + acts.taken) }) acts.sent

-- a client does something as it takes this: what its writer has confirmed grows, and then its own events come
abbrev pub acts_on : State → ℕ → Joined → Input → Acts → Outcome
acts_on s c me x acts = then_shows (confirms (with_acts s c me x acts) acts.confirmed) acts.events

-- a client takes something, where it has joined
abbrev pub client_takes : State → ℕ → Option Conf → Option Joined → Input → Outcome
client_takes s c (Some conf) (Some me) x = acts_on s c me x (acts_of (args_of conf c me) me.view x)
client_takes s c (Some conf) None x = quietly s
client_takes s c None me x = quietly s

-- ---- letters

-- the letter that answers another
abbrev pub answer_to : Letter → Msg → Letter
answer_to l reply = record { from = l.to; to = l.from; session = l.session; msg = reply }

-- a letter is answered, where it has an answer
abbrev pub with_answer : State → Letter → Option Msg → State
with_answer s l None = s
with_answer s l (Some reply) = with_letters s (answer_to l reply ∷ [])

-- a storage node takes a message of a client, by the row of its table
abbrev pub takes_row : State → Letter → (bookie client : ℕ) → Taken → State
takes_row s l b c row =
    let k = (s.nodes b).bookie in
    with_answer (with_bookie s b (after k c l.session row)) l (answer_now k l.msg row)

-- a storage node takes a letter of a client
abbrev pub bookie_takes : State → Letter → (bookie client : ℕ) → State
bookie_takes s l b c = takes_row s l b c (table_row (s.nodes b).bookie l.msg)

-- A request to the metadata node: its session, its number in it, and its operation.
pub record MetaRequest : Type 0 where
  pub session : ℕ
  pub number : ℕ
  pub op : MetaOp

-- the request that a message is, where it is one
abbrev pub request_in : Msg → Option MetaRequest
request_in (msg.MetaAsk session number op) = Some (record { session = session; number = number; op = op })
request_in m = None

-- whether a request runs
abbrev pub admit_in : State → MetaRequest → Admit
admit_in s r = admit_of (meta_in s) r.session r.number

-- a request runs: it is an item, and shows what it changed
abbrev pub runs : State → MetaRequest → Outcome
runs s r =
    let m = meta_in s in
    shows_run m.tree r.op (answer_of m r.session r.op) (with_meta_item s (Ask r.session r.number r.op))

-- a request is admitted: it runs, or nothing happens
abbrev pub admits : State → MetaRequest → Admit → Outcome
admits s r admit.Run = runs s r
admits s r admit.Old = quietly s
admits s r admit.Expired = quietly s

-- the message that replies to a request
abbrev pub reply_msg : MetaRequest → Option MetaReply → Option Msg
reply_msg r None = None
reply_msg r (Some reply) = Some (msg.MetaReply r.session r.number reply)

-- the metadata node takes a letter: a request is admitted and replied to, and nothing else says anything to it
abbrev pub meta_takes : State → Letter → Option MetaRequest → Outcome
meta_takes s l None = quietly s
meta_takes s l (Some r) =
    let now = admits s r (admit_in s r) in
    record now { state = with_answer now.state l (reply_msg r (reply_of (meta_in s) r.session r.number r.op)) }

-- a letter is taken by its receiver; a storage node answers clients alone
abbrev pub takes_letter : State → Letter → (to from : Address) → Outcome
takes_letter s l (AtBookie b) (Client c) = quietly (bookie_takes s l b c)
takes_letter s l (AtBookie b) (AtBookie d) = quietly s
takes_letter s l (AtBookie b) AtMeta = quietly s
takes_letter s l AtMeta from = meta_takes s l (request_in l.msg)
takes_letter s l (Client c) from = client_takes s c s.conf (s.clients c) (Came l)

-- the letter at a place is delivered, where its receiver can take it
abbrev pub delivers : State → ℕ → Option Letter → Outcome
delivers s place None = quietly s
delivers s place (Some l) = if can_take s l l.to then takes_letter (marks s place) l l.to l.from else quietly s

-- ---- commits and stops of storage nodes

-- the letter of a reply that leaves with a commit
abbrev pub reply_letter : ℕ → Reply → Letter
reply_letter b r = record { from = AtBookie b; to = Client r.client; session = r.session; msg = r.msg }

-- a storage node commits its queue, and the replies that waited leave
abbrev pub commits : State → ℕ → State
commits s b =
    let k = (s.nodes b).bookie in
    with_letters (with_bookie s b (after_commit k)) (map (reply_letter b) (replies_of k))

-- a storage node that is up goes down inside a commit, with its batch or without; its disk may hold either
abbrev pub stopped_node : Node → Bool → Node
stopped_node n kept =
    if is_up n.mode then record { bookie = after_stop n.bookie kept; mode = Down; other = Some (after_stop n.bookie (not kept)) } else n

-- a storage node that is up goes down, and its queue is gone
abbrev pub killed_node : Node → Node
killed_node n = if is_up n.mode then record n { bookie = without_queue n.bookie; mode = Down } else n

-- a storage node that is down is loaded, and what its disk holds is settled
abbrev pub risen_node : Node → Mode → Node
risen_node n Up = n
risen_node n Down = record n { mode = Up; other = None }
risen_node n Lost = n

-- the disk of a storage node holds the other list, where there is one
abbrev pub swapped_node : Node → Option Bookie → Node
swapped_node n None = n
swapped_node n (Some b) = record n { bookie = b; other = Some n.bookie }

-- a load of a storage node that is down fails, and leaves the list or the other one
abbrev pub loosened_node : Node → Mode → Bool → Node
loosened_node n Up other = n
loosened_node n Down other = if other then swapped_node n n.other else n
loosened_node n Lost other = n

-- a storage node whose disk is lost
abbrev pub lost_node : Node → Node
lost_node n = record n { bookie = without_queue n.bookie; mode = Lost }

-- a storage node goes down on a letter
abbrev pub faints_at : State → Address → State
faints_at s (AtBookie b) = with_node s b (killed_node (s.nodes b))
faints_at s AtMeta = s
faints_at s (Client c) = s

-- the letter at a place is taken by a storage node that goes down on it, where it can take it
abbrev pub faints : State → ℕ → Option Letter → State
faints s place None = s
faints s place (Some l) = if can_take s l l.to then faints_at (marks s place) l.to else s

-- ---- stops of the metadata node

-- the metadata node goes down
abbrev pub without_meta : State → State
without_meta s = record s { meta_up = false }

-- what comes of a request whose commit stops: with the request, which then shows what it changed, or without
abbrev pub stops_run : State → MetaRequest → Bool → Outcome
stops_run s r true = let now = runs s r in record now { state = without_meta now.state }
stops_run s r false = quietly (without_meta s)

-- a request whose commit stops is not replied to; one that would not run changes nothing
abbrev pub stops_request : State → ℕ → MetaRequest → Bool → Admit → Outcome
stops_request s place r kept admit.Run = stops_run (marks s place) r kept
stops_request s place r kept admit.Old = quietly s
stops_request s place r kept admit.Expired = quietly s

-- the same of a message, where it is a request
abbrev pub stops_msg : State → ℕ → Bool → Option MetaRequest → Outcome
stops_msg s place kept None = quietly s
stops_msg s place kept (Some r) = stops_request s place r kept (admit_in s r)

-- the same of the letter at a place, where the metadata node is up
abbrev pub stops_meta : State → ℕ → Bool → Option Letter → Outcome
stops_meta s place kept None = quietly s
stops_meta s place kept (Some l) = if s.meta_up then stops_msg s place kept (request_in l.msg) else quietly s

-- ---- the atomic steps

-- what an atomic step leaves, and what it shows
unfoldable pub atom : State → Atom → Outcome
atom s (SetUp conf) = quietly (sets_up s conf)
atom s (Join c) = joins s c
atom s (Crash c) = quietly (with_client s c None)
atom s (End k) = ends s k
atom s (Order c line step) = client_takes s c s.conf (s.clients c) (Line line step)
atom s (Deliver place) = delivers s place (slice_get s.letters place)
atom s (Commit b) = quietly (commits s b)
atom s (Stop b kept) = quietly (with_node s b (stopped_node (s.nodes b) kept))
atom s (StopMeta place kept) = stops_meta s place kept (slice_get s.letters place)
atom s (Faint place) = quietly (faints s place (slice_get s.letters place))
atom s (Kill b) = quietly (with_node s b (killed_node (s.nodes b)))
atom s KillMeta = quietly (without_meta s)
atom s (Rise b) = quietly (with_node s b (risen_node (s.nodes b) (s.nodes b).mode))
atom s RiseMeta = quietly (record s { meta_up = is_some s.conf })
atom s (Loosen b other) = quietly (with_node s b (loosened_node (s.nodes b) (s.nodes b).mode other))
atom s (Lose b) = quietly (with_node s b (lost_node (s.nodes b)))
atom s (Shows e) = record { state = s; events = e ∷ [] }
