-- The ranges of what a state keeps and an atomic step shows: the clients that have joined, the counts of their records, the entries
-- that were sent, and the last session.
use Rattle.std.proofs.Common.{length, ◌≡◌, ℕ, suc, ◌+◌, ◌*◌, ◌-◌, ◌≤◌, ◌==◌, Bool, true, false, cond, not, ◌&&◌, List, [], ◌∷◌, drop, map, Option, Some}
use Rattle.std.proofs.Common.{None, Result, Ok, Err, refl, sym, subst, arith, slice_get}
use Rattle.std.specs.Prelude.{is_none}
use Rattle.std.specs.List.{AllByRecursion, list_any}
use Rattle.dl_types.specs.declared.address.Address.{Address}
use Rattle.dl_types.specs.declared.address.Address.TheVariants.{Client, Bookie as AtBookie, Meta as AtMeta}
use Rattle.dl_types.specs.declared.meta_answer.MetaAnswer.{MetaAnswer}
use Rattle.dl_types.specs.declared.meta_op.MetaOp.{MetaOp}
use Rattle.dl_types.specs.declared.one_op.OneOp.{OneOp}
use Rattle.dl_types.specs.declared.one_op.OneOp.TheVariants.{Create, Delete, Set, Check, Get, Children}
use Rattle.dl_text.specs.NameFields.{IsName}
use Rattle.dl_text.specs.Numbers.{most_u64}
use Rattle.dl_msg.specs.declared.letter.Letter.{Letter}
use Rattle.dl_msg.specs.declared.msg.Msg.{Msg}
use Rattle.dl_msg.specs.declared.msg.Msg.TheVariants as msg
use Rattle.dl_tree.specs.Trees.{Nodes, after_request, without_session}
use Rattle.dl_session.specs.declared.admit.Admit.{Admit}
use Rattle.dl_session.specs.declared.admit.Admit.TheVariants as admit
use Rattle.dl_session.specs.Sessions.{is_live, after_connect, after_expiry, after_run}
use Rattle.dl_formats.specs.declared.conf.Conf.{Conf}
use Rattle.dl_formats.specs.declared.segment.SegmentMeta.{SegmentMeta}
use Rattle.dl_formats.specs.declared.segment.SegmentMeta.TheVariants.{InProgress, Completed}
use Rattle.dl_formats.specs.Keys.{path_of}
use Rattle.dl_formats.specs.NodeBytes.{ten_nines}
use Rattle.dl_formats.specs.Reading.{segment_at}
use Rattle.dl_tree.specs.declared.node.Node.{Node as TreeNode}
use Rattle.std.specs.Prelude.{bytes_eq, filter_map, find, option_to_list}
use Rattle.std.proofs.lemmas.Bool.{and_parts, eqb-true}
use Rattle.std.specs.List.{cons_option}
use Rattle.std.specs.FinMap.{get, keys}
use Rattle.dl_rules_client.proofs.NodeRanges.{SegmentFits, segment_such, option_all}
use Rattle.dl_rules_client.proofs.RangeLists.{AllOk}
use Rattle.dl_formats.specs.declared.fault.MetaBytesFault.{MetaBytesFault}
use Rattle.dl_formats.specs.Keys as key
use Rattle.dl_rules_nodes.specs.Bookies.{Bookie, Waiting, Reply, Taken, Looks, Answers, Queues, table_row, answer_now, after, replies_of, after_commit}
use Rattle.dl_rules_nodes.specs.Bookies.{add_row, copy_row, fence_row, lac_of, durable, queued_items, has_fence, lacking}
use Rattle.dl_rules_nodes.specs.Bookies.{if_room, with_room, entry_answer, look_answer, told_after, all_items, with_batch, after_stop}
use Rattle.dl_msg.specs.declared.resource.Resource.{Resource}
use Rattle.dl_rules_nodes.specs.Items.{Item, AddItem, CopyItem, FenceItem, entry_in, is_add, is_entry, is_fence, MetaItem, Setup, Connect, Expire, Ask}
use Rattle.dl_rules_nodes.specs.Metadata.{Meta, first_tree, meta_from, meta_of, does, answer_of, reply_by, reply_of}
use Rattle.dl_schedule.specs.declared.step.Step.{Step}
use Rattle.dl_schedule.specs.StepLines.{IsStep, IsClient, IsBookie, IsCount, IsLink}
use Rattle.dl_transcript.specs.declared.event.Event.{Event}
use Rattle.dl_transcript.specs.declared.event.Event.TheVariants as event
use Rattle.dl_transcript.specs.Ranges.{IsU32, IsU64, IsSession, IsEvent}
use Rattle.dl_rules_client.specs.Acts.{Input, Line, Came, ClientArgs, Acts, SentEntry, Confirmation}
use Rattle.dl_rules_client.specs.Clients.{client_of, acts_of}
use Rattle.dl_rules_client.specs.EventRanges.{OpFits, AnswerFits, IsEntryOf, MsgFits, LetterFits, IsInput, IsCountable, lines_in, set_most, ArgsFit}
use Rattle.dl_rules_client.proofs.RangeLists.{all-get, AllSome, all-append, all-last, all-take, all-drop, all-map, all-flat}
use Rattle.dl_rules_client.proofs.LogRanges.{IsRow}
use Rattle.dl_rules_client.proofs.ClientRanges.{ActsFit, SentFits}
use Rattle.dl_rules_client.proofs.InputRanges.{client_fits, fewer, taken_line_fits, taken_letter_fits}
use Rattle.dl_machine.specs.States.{Node, Mode, Up, Down, Lost, is_up, with_node, with_bookie, State, Outcome, Joined, LedgerSeen, with_value, with_client}
use Rattle.dl_machine.specs.States.{with_letters, with_meta_item, marks, quietly, then_shows}
use Rattle.dl_machine.specs.States.{can_take, args_of}
use Rattle.dl_machine.specs.Growth.{stream_in, closing_of, closing_by, closing_at, first_in, count_in, closing_to, grow_event, entries_to_grow, grown_to, grows}
use Rattle.dl_machine.specs.Growth.{with_entry, with_sent, confirms, Closing, closes}
use Rattle.dl_machine.specs.Growth.{closing_with, points_by, is_done, ops_of, shows_op, shows_ops, shows_run}
use Rattle.dl_machine.specs.Atoms.{commits, answer_to, takes_row, reply_letter, stopped_node, killed_node, risen_node, swapped_node, loosened_node}
use Rattle.dl_machine.specs.Atoms.{lost_node, Atom}
use Rattle.dl_machine.specs.Atoms.{SetUp, Join, Crash, End, Order, Deliver, Commit, Stop, StopMeta, Faint, Kill, KillMeta, Rise, RiseMeta, Loosen}
use Rattle.dl_machine.specs.Atoms.{Lose, Shows, MetaRequest, meta_in, request_in, admit_in, sets_up, new_process, joins, joins_in, ends, acts_on}
use Rattle.dl_machine.specs.Atoms.{client_takes, with_answer, bookie_takes, runs, admits, reply_msg, meta_takes, takes_letter, delivers}
use Rattle.dl_machine.specs.Atoms.{faints_at, faints, stops_run, stops_request, stops_msg, stops_meta, atom}
use Rattle.dl_machine.specs.Limits.{most_lines}
use Rattle.dl_machine.proofs.Movements.{cond_both, put_each}
use Rattle.dl_machine.proofs.TreeRanges.{IsTreePath, TreeFits, tree_more, without_fits, OneOpFits, RequestLeaves, request_leaves}
use Rattle.dl_machine.proofs.RequestRanges.{request_ops, request_few, first_tree_fits}
use Rattle.dl_machine.proofs.StreamNames.{progress_named}
use Rattle.dl_machine.proofs.PointRanges.{PointsFit, request_points}

-- ---- states

-- A client that has joined, where at most so many lines were run, and so many lines and letters taken.
pub record JoinedFits (lines inputs c : ℕ) (me : Joined) : Type 0 where
  pub number : IsClient c
  pub session : IsSession me.session
  pub view : AllByRecursion IsInput me.view
  pub few : length me.view ≤ inputs
  pub calls : me.calls + set_most * lines_in me.view ≤ set_most * lines

-- a world has 1 to 16 storage nodes
abbrev pub ConfFits : Conf → Type 0
ConfFits conf = IsCount conf.b

-- the entry of an item has a number of 64 bits, and bytes
abbrev pub ItemFits : Item → Type 0
ItemFits (AddItem ledger entry count bytes) = IsEntryOf entry bytes
ItemFits (CopyItem ledger entry count bytes) = IsEntryOf entry bytes
ItemFits (FenceItem ledger) = Unit {0}

-- A reply that waits is one of a storage node to a client.
pub record WaitingFits (b : ℕ) (w : Waiting) : Type 0 where
  pub here : IsBookie b
  pub client : IsClient w.client
  pub reply : MsgFits w.reply
  pub item : AllSome ItemFits w.item

-- The items of a storage node, and the replies that wait at it.
pub record BookieFits (b : ℕ) (k : Bookie) : Type 0 where
  pub queue : AllByRecursion (WaitingFits b) k.queue
  pub batches : AllByRecursion (AllByRecursion ItemFits) k.batches

-- A storage node, and the other list that its disk may hold.
pub record NodeFits (b : ℕ) (n : Node) : Type 0 where
  pub bookie : BookieFits b n.bookie
  pub other : AllSome (BookieFits b) n.other

-- how many paths may have been made where at most so many lines and letters were taken: a request makes at most 12
abbrev pub tree_most : ℕ → ℕ
tree_most inputs = 4 + 12 * inputs

-- The parts of a state, where at most so many lines were run, and so many lines and letters taken: the
-- configuration, the storage nodes, the letters, the clients, the counts of their records, the ledgers, the last session, and the tree.
pub record PartsFit (lines inputs : ℕ) (world : Option Conf) (held : ℕ → Node) (sent : List Letter) (clients : ℕ → Option Joined) (counts : ℕ → ℕ)
    (seen : ℕ → LedgerSeen) (last : ℕ) (nodes_now : Nodes) : Type 0 where
  pub conf : AllSome ConfFits world
  pub nodes : (b : ℕ) → NodeFits b (held b)
  pub letters : AllByRecursion LetterFits sent
  pub joined : (c : ℕ) → AllSome (JoinedFits lines inputs c) (clients c)
  pub calls : (c : ℕ) → counts c ≤ set_most * lines
  pub ledgers : (l : ℕ) → AllByRecursion SentFits (seen l).sent
  pub sessions : last ≤ lines
  pub tree : TreeFits (tree_most inputs) nodes_now

-- a state
abbrev pub StateFits : (lines inputs : ℕ) → State → Type 0
StateFits lines inputs s =
    PartsFit lines inputs s.conf s.nodes s.letters s.clients s.calls s.ledgers (meta_in s).sessions.last (meta_in s).tree

-- A state, and what is shown with it.
pub record OutcomeFits (lines inputs : ℕ) (o : Outcome) : Type 0 where
  pub state : StateFits lines inputs o.state
  pub events : AllByRecursion IsEvent o.events

-- a client behind lines more
joined_more : (n m i j c : ℕ) (me : Option Joined) → n ≤ m → i ≤ j → AllSome (JoinedFits n i c) me → AllSome (JoinedFits m j c) me
joined_more n m i j c None h g fit = tt
joined_more n m i j c (Some me) h g fit =
    record { number = fit.number; session = fit.session; view = fit.view; few = omega (arith, g, fit.few); calls = omega (arith, h, fit.calls) }

-- a state behind lines more
pub state_more : (n m i j : ℕ) (s : State) → n ≤ m → i ≤ j → StateFits n i s → StateFits m j s
state_more n m i j s h g fit = record {
  conf = fit.conf;
  nodes = fit.nodes;
  letters = fit.letters;
  joined = λ c. joined_more n m i j c (s.clients c) h g (fit.joined c);
  calls = λ c. omega (arith, h, fit.calls c);
  ledgers = fit.ledgers;
  sessions = omega (arith, h, fit.sessions);
  tree = tree_more (tree_most i) (tree_most j) (meta_in s).tree (omega (arith, g)) fit.tree;
}

-- nothing is shown
pub quietly_fits : (n i : ℕ) (s : State) → StateFits n i s → OutcomeFits n i (quietly s)
quietly_fits n i s fit = record { state = fit; events = tt }

-- events more
then_fits : (n i : ℕ) (o : Outcome) (es : List Event) → OutcomeFits n i o → AllByRecursion IsEvent es → OutcomeFits n i (then_shows o es)
then_fits n i o es fit each = record { state = fit.state; events = all-append IsEvent o.events es fit.events each }

-- ---- growth

-- a ledger is now this one
ledger_fits : (n i : ℕ) (s : State) (l : ℕ) (g : LedgerSeen) → AllByRecursion SentFits g.sent → StateFits n i s
    → PartsFit n i s.conf s.nodes s.letters s.clients s.calls (with_value s.ledgers l g) (meta_in s).sessions.last (meta_in s).tree
ledger_fits n i s l g is fit = record {
  conf = fit.conf;
  nodes = fit.nodes;
  letters = fit.letters;
  joined = fit.joined;
  calls = fit.calls;
  ledgers = put_each s.ledgers l g (λ j x. AllByRecursion SentFits x.sent) is fit.ledgers;
  sessions = fit.sessions;
  tree = fit.tree;
}

-- a row of an entry that was sent, as it grows
grow_fits : (x : SentEntry) → SentFits x → AllByRecursion IsEvent (map (grow_event x.stream) x.rows)
grow_fits x is = all-map IsRow IsEvent (grow_event x.stream)
    (λ row r. (is.stream, (r.place, (r.txid, (r.client, (r.call, r.payload)))))) x.rows is.rows

-- a ledger grows
grows_fit : (n i : ℕ) (s : State) (l count : ℕ) → StateFits n i s → OutcomeFits n i (grows s l count)
grows_fit n i s l count fit =
    let g : LedgerSeen = s.ledgers l in
    record {
      state = ledger_fits n i s l (grown_to g count) (fit.ledgers l) fit;
      events = all-flat SentFits IsEvent (λ (x : SentEntry). map (grow_event x.stream) x.rows) grow_fits (entries_to_grow g count)
          (all-take SentFits (count - g.grown) (drop g.grown g.sent) (all-drop SentFits g.grown g.sent (fit.ledgers l)));
    }

-- what a writer has confirmed grows
confirms_fit : (n i : ℕ) (s : State) (x : Option Confirmation) → StateFits n i s → OutcomeFits n i (confirms s x)
confirms_fit n i s None fit = quietly_fits n i s fit
confirms_fit n i s (Some x) fit = grows_fit n i s x.ledger x.count fit

-- the entry that a client sent
sent_fits : (n i : ℕ) (s : State) (x : Option SentEntry) → AllSome SentFits x → StateFits n i s → StateFits n i (with_sent s x)
sent_fits n i s None is fit = fit
sent_fits n i s (Some x) is fit =
    ledger_fits n i s x.ledger (with_entry (s.ledgers x.ledger) x) (all-last SentFits (s.ledgers x.ledger).sent x (fit.ledgers x.ledger) is) fit

-- the segment that is closed is one of a stream, and has at most ten digits
abbrev ClosingFits : Closing → Type 0
ClosingFits x = IsName x.stream × (x.segment ≤ ten_nines)

-- a segment of a stream
closing_of_fits : (path : List ℕ) (count : ℕ) (stream : Option (List ℕ)) (segment ledger : ℕ) → AllSome IsName stream → segment ≤ ten_nines
    → AllSome ClosingFits (closing_of path count stream segment ledger)
closing_of_fits path count None segment ledger name is = tt
closing_of_fits path count (Some stream) segment ledger name is =
    cond_both (AllSome ClosingFits) (bytes_eq (path_of (key.Ledger ledger)) path) _ None (name, is) tt

-- what a node's bytes say
closing_by_fits : (ledger_path : List ℕ) (count : ℕ) (path : List ℕ) (r : Result SegmentMeta MetaBytesFault) → IsTreePath path → AllOk r SegmentFits
    → AllSome ClosingFits (closing_by ledger_path count path r)
closing_by_fits ledger_path count path (Ok (InProgress segment ledger)) there is =
    closing_of_fits ledger_path count (stream_in (λ s. key.Progress s segment) path) segment ledger (progress_named path segment there is) is
closing_by_fits ledger_path count path (Ok (Completed segment ledger entries rows last)) there is = tt
closing_by_fits ledger_path count path (Err fault) there is = tt

-- what a node says
closing_at_fits : (most : ℕ) (t : Nodes) (ledger_path : List ℕ) (count : ℕ) (path : List ℕ) (n : Option TreeNode) → get t path ≡ n → TreeFits most t
    → AllSome ClosingFits (closing_at ledger_path count path n)
closing_at_fits most t ledger_path count path None e fit = tt
closing_at_fits most t ledger_path count path (Some n) e fit =
    closing_by_fits ledger_path count path (segment_at n.bytes) (fit.each path n e).at (segment_such n.bytes)

-- the first of a value, where there is one, and of others
front_fits : {B : Type 0} (P : B → Type 0) (o : Option B) (others : List B) → AllSome P o → AllSome P (first_in others)
    → AllSome P (first_in (cons_option o others))
front_fits P None others is rest = rest
front_fits P (Some y) others is rest = is

-- the first of values
first_fits : {A B : Type 0} (P : B → Type 0) (f : A → Option B) → ((x : A) → AllSome P (f x)) → (xs : List A) → AllSome P (first_in (filter_map f xs))
first_fits P f h [] = tt
first_fits P f h (x ∷ xs) = front_fits P (f x) (filter_map f xs) (h x) (first_fits P f h xs)

-- the closing that a set is
closing_to_fits : (most : ℕ) (t : Nodes) (path : List ℕ) (count : Option ℕ) → TreeFits most t → AllSome ClosingFits (closing_to t path count)
closing_to_fits most t path None fit = tt
closing_to_fits most t path (Some count) fit =
    first_fits ClosingFits (λ p. closing_at path count p (get t p)) (λ p. closing_at_fits most t path count p (get t p) refl fit) (keys t)

-- the closing that an operation is
closing_with_fits : (most : ℕ) (t : Nodes) (x : OneOp) → TreeFits most t → AllSome ClosingFits (closing_with t x)
closing_with_fits most t (Create path bytes mode) fit = tt
closing_with_fits most t (Delete path version) fit = tt
closing_with_fits most t (Set path bytes version) fit = closing_to_fits most t path (count_in bytes) fit
closing_with_fits most t (Check path version) fit = tt
closing_with_fits most t (Get path) fit = tt
closing_with_fits most t (Children path) fit = tt

-- a closing
closes_fit : (n i : ℕ) (s : State) (x : Option Closing) → AllSome ClosingFits x → StateFits n i s → OutcomeFits n i (closes s x)
closes_fit n i s None is fit = quietly_fits n i s fit
closes_fit n i s (Some x) is fit =
    then_fits n i (grows s x.ledger x.count) (event.Closed x.stream x.segment ∷ []) (grows_fit n i s x.ledger x.count fit)
    ((is.0, (omega arith, omega (arith, is.1))), tt)

-- what operations show
ops_fit : (n i most : ℕ) (t : Nodes) (xs : List OneOp) (s : State) → AllByRecursion PointsFit xs → TreeFits most t → StateFits n i s
    → OutcomeFits n i (shows_ops t xs s)
ops_fit n i most t [] s is tree fit = quietly_fits n i s fit
ops_fit n i most t (x ∷ xs) s is tree fit =
    let now : Outcome = shows_op t x s in
    let shown : OutcomeFits n i now =
    then_fits n i (closes s (closing_with t x)) (points_by x) (closes_fit n i s (closing_with t x) (closing_with_fits most t x tree) fit) is.0 in
    let later : OutcomeFits n i (shows_ops t xs now.state) = ops_fit n i most t xs now.state is.1 tree shown.state in
    record { state = later.state; events = all-append IsEvent now.events (shows_ops t xs now.state).events shown.events later.events }

-- what a request shows
run_fits : (n i most : ℕ) (t : Nodes) (op : MetaOp) (a : MetaAnswer) (s : State) → OpFits op → TreeFits most t → StateFits n i s
    → OutcomeFits n i (shows_run t op a s)
run_fits n i most t op a s is tree fit =
    let each : AllByRecursion PointsFit (ops_of op) = subst (λ x. AllByRecursion PointsFit (ops_of x)) (sym is.same) (request_points is.request is.fits) in
    cond_both (OutcomeFits n i) (is_done a) (shows_ops t (ops_of op) s) (quietly s) (ops_fit n i most t (ops_of op) s each tree fit) (quietly_fits n i s fit)

-- ---- clients

-- a client that did something, behind lines more
acts_fit : (n more m i : ℕ) (s : State) (c : ℕ) (me : Joined) (x : Input) (acts : Acts) → n + more ≤ m
    → JoinedFits m (suc i) c (record me { view = x ∷ me.view }) → ActsFit more acts → StateFits n i s → OutcomeFits m (suc i) (acts_on s c me x acts)
acts_fit n more m i s c me x acts h is did fit =
    let process : Option Joined = Some (record me { view = x ∷ me.view }) in
    let told : State = record (with_letters (with_client s c process) acts.letters) { calls = with_value s.calls c (s.calls c + acts.taken) } in
    let later = state_more n m i (suc i) s (omega (arith, h)) (omega arith) fit in
    let base : StateFits m (suc i) told = record {
      conf = later.conf;
      nodes = later.nodes;
      letters = all-append LetterFits s.letters acts.letters later.letters did.letters;
      joined = put_each s.clients c process (λ j p. AllSome (JoinedFits m (suc i) j) p) is later.joined;
      calls = put_each s.calls c (s.calls c + acts.taken) (λ j k. k ≤ set_most * m) (omega (arith, h, fit.calls c, did.taken)) later.calls;
      ledgers = later.ledgers;
      sessions = later.sessions;
      tree = later.tree;
    } in
    then_fits m (suc i) (confirms (with_sent told acts.sent) acts.confirmed) acts.events
    (confirms_fit m (suc i) (with_sent told acts.sent) acts.confirmed (sent_fits m (suc i) told acts.sent did.sent base)) did.events

-- what a client is started with
args_fit : (n c : ℕ) (conf : Conf) (me : Joined) (view : List Input) → ConfFits conf → n ≤ most_lines → length view ≤ most_u64 → IsClient c
    → IsSession me.session → me.calls + set_most * lines_in view ≤ set_most * n → ArgsFit (lines_in view) (length view) (args_of conf c me)
args_fit n c conf me view world few counted number session calls =
    record { number = number; session = session; count = world; calls = omega (arith, few, calls); counted = counted }

-- a client takes a line
line_fits : (n i : ℕ) (s : State) (c : ℕ) (conf : Option Conf) (me : Option Joined) (line : ℕ) (x : Step) → suc n ≤ most_lines → tree_most (suc i) ≤ most_u64
    → IsU32 line × (IsStep x × IsCountable x) → AllSome ConfFits conf → AllSome (JoinedFits n i c) me → StateFits n i s
    → OutcomeFits (suc n) (suc i) (client_takes s c conf me (Line line x))
line_fits n i s c (Some conf) (Some me) line x few small is world mine fit =
    let view : List Input = Line line x ∷ me.view in
    let who : ClientArgs = args_of conf c me in
    let calls : me.calls + set_most * lines_in view ≤ set_most * suc n = omega (arith, mine.calls) in
    let inputs : length view ≤ suc i = omega (arith, mine.few) in
    let args = args_fit (suc n) c conf me view world few (omega (arith, inputs, small)) mine.number mine.session calls in
    let now =
    client_fits who me.view (fewer who (lines_in me.view) (lines_in view) (length me.view) (length view) (omega arith) (omega arith) args) mine.view in
    let move = taken_line_fits who (lines_in me.view) (length me.view) (client_of who me.view) line x args is now in
    acts_fit n 1 (suc n) i s c me (Line line x) (acts_of who me.view (Line line x)) (omega arith)
    (record { number = mine.number; session = mine.session; view = (is, mine.view); few = inputs; calls = calls }) move.acts fit
line_fits n i s c (Some conf) None line x few small is world mine fit =
    quietly_fits (suc n) (suc i) s (state_more n (suc n) i (suc i) s (omega arith) (omega arith) fit)
line_fits n i s c None me line x few small is world mine fit =
    quietly_fits (suc n) (suc i) s (state_more n (suc n) i (suc i) s (omega arith) (omega arith) fit)

-- a letter that no client takes
unheard_fits : (n i : ℕ) (s : State) → StateFits n i s → StateFits n (suc i) s
unheard_fits n i s fit = state_more n n i (suc i) s (omega arith) (omega arith) fit

-- a client takes a letter
letter_fits : (n i : ℕ) (s : State) (c : ℕ) (conf : Option Conf) (me : Option Joined) (l : Letter) → n ≤ most_lines → tree_most (suc i) ≤ most_u64
    → LetterFits l
    → AllSome ConfFits conf → AllSome (JoinedFits n i c) me → StateFits n i s → OutcomeFits n (suc i) (client_takes s c conf me (Came l))
letter_fits n i s c (Some conf) (Some me) l few small link world mine fit =
    let view : List Input = Came l ∷ me.view in
    let who : ClientArgs = args_of conf c me in
    let inputs : length view ≤ suc i = omega (arith, mine.few) in
    let args = args_fit n c conf me view world few (omega (arith, inputs, small)) mine.number mine.session mine.calls in
    let now =
    client_fits who me.view (fewer who (lines_in me.view) (lines_in view) (length me.view) (length view) (omega arith) (omega arith) args) mine.view in
    let move = taken_letter_fits who (lines_in me.view) (length me.view) (client_of who me.view) l args link now in
    acts_fit n 0 n i s c me (Came l) (acts_of who me.view (Came l)) (omega arith)
    (record { number = mine.number; session = mine.session; view = (link, mine.view); few = inputs; calls = mine.calls }) move.acts fit
letter_fits n i s c (Some conf) None l few small link world mine fit = quietly_fits n (suc i) s (unheard_fits n i s fit)
letter_fits n i s c None me l few small link world mine fit = quietly_fits n (suc i) s (unheard_fits n i s fit)

-- ---- the metadata node

-- a request that runs gives no session
ask_last : (items : List MetaItem) (session number : ℕ) (op : MetaOp) → (meta_of (Ask session number op ∷ items)).sessions.last ≡ (meta_of items).sessions.last
unfolding meta_from does after_run
ask_last items session number op = refl

-- nor does the end of one
expire_last : (items : List MetaItem) (session : ℕ) → (meta_of (Expire session ∷ items)).sessions.last ≡ (meta_of items).sessions.last
unfolding meta_from does after_expiry
expire_last items session = refl

-- nor does a setup
setup_last : (items : List MetaItem) (conf : Conf) → (meta_of (Setup conf ∷ items)).sessions.last ≡ (meta_of items).sessions.last
unfolding meta_from does
setup_last items conf = refl

-- a session that is given is the last one
connect_last : (items : List MetaItem) (k : ℕ) → (meta_of (Connect k ∷ items)).sessions.last ≡ suc (meta_of items).sessions.last
unfolding meta_from does after_connect
connect_last items k = omega arith

-- a request that runs leaves the tree that it makes
ask_tree : (items : List MetaItem) (session number : ℕ) (op : MetaOp)
    → (meta_of (Ask session number op ∷ items)).tree ≡ (after_request (meta_of items).tree session op).1
unfolding meta_from does
ask_tree items session number op = refl

-- the end of a session takes its nodes
expire_tree : (items : List MetaItem) (session : ℕ) → (meta_of (Expire session ∷ items)).tree ≡ without_session (meta_of items).tree session
unfolding meta_from does
expire_tree items session = refl

-- a setup makes the first tree
setup_tree : (items : List MetaItem) (conf : Conf) → (meta_of (Setup conf ∷ items)).tree ≡ first_tree conf
unfolding meta_from does
setup_tree items conf = refl

-- a session that is given leaves the tree
connect_tree : (items : List MetaItem) (k : ℕ) → (meta_of (Connect k ∷ items)).tree ≡ (meta_of items).tree
unfolding meta_from does
connect_tree items k = refl

-- an item more that leaves the last session
item_fits : (n i : ℕ) (s : State) (x : MetaItem) → (meta_of (x ∷ s.meta.items)).sessions.last ≡ (meta_in s).sessions.last
    → TreeFits (tree_most i) (meta_of (x ∷ s.meta.items)).tree → StateFits n i s → StateFits n i (with_meta_item s x)
item_fits n i s x e now fit = record {
  conf = fit.conf;
  nodes = fit.nodes;
  letters = fit.letters;
  joined = fit.joined;
  calls = fit.calls;
  ledgers = fit.ledgers;
  sessions = omega (arith, e, fit.sessions);
  tree = now;
}

-- what a request answers, and the tree that it leaves
asked_leaves : (i : ℕ) (t : Nodes) (session : ℕ) (op : MetaOp) → tree_most (suc i) ≤ most_u64 → OpFits op → TreeFits (tree_most i) t
    → RequestLeaves (tree_most (suc i)) (after_request t session op)
asked_leaves i t session op small is fit =
    let same : tree_most i + 12 ≡ tree_most (suc i) = omega arith in
    subst (λ m. RequestLeaves m (after_request t session op)) same
    (request_leaves (tree_most i) t session op
    (subst (λ x. AllByRecursion OneOpFits (ops_of x)) (sym is.same) (request_ops is.request is.fits))
    (subst (λ x. length (ops_of x) ≤ 6) (sym is.same) (request_few is.request)) (omega (arith, small)) fit)

-- a request runs
runs_fit : (n i : ℕ) (s : State) (r : MetaRequest) → tree_most (suc i) ≤ most_u64 → OpFits r.op → StateFits n i s → OutcomeFits n (suc i) (runs s r)
runs_fit n i s r small is fit =
    let leaves = asked_leaves i (meta_in s).tree r.session r.op small is fit.tree in
    run_fits n (suc i) (tree_most i) (meta_in s).tree r.op (answer_of (meta_in s) r.session r.op) (with_meta_item s (Ask r.session r.number r.op)) is fit.tree
    (item_fits n (suc i) s (Ask r.session r.number r.op) (ask_last s.meta.items r.session r.number r.op)
    (subst (TreeFits (tree_most (suc i))) (sym (ask_tree s.meta.items r.session r.number r.op)) leaves.tree) (unheard_fits n i s fit))

-- a request is admitted
admits_fit : (n i : ℕ) (s : State) (r : MetaRequest) (a : Admit) → tree_most (suc i) ≤ most_u64 → OpFits r.op → StateFits n i s
    → OutcomeFits n (suc i) (admits s r a)
admits_fit n i s r admit.Run small is fit = runs_fit n i s r small is fit
admits_fit n i s r admit.Old small is fit = quietly_fits n (suc i) s (unheard_fits n i s fit)
admits_fit n i s r admit.Expired small is fit = quietly_fits n (suc i) s (unheard_fits n i s fit)

-- letters more
letters_more : (n i : ℕ) (s : State) (letters : List Letter) → AllByRecursion LetterFits letters → StateFits n i s → StateFits n i (with_letters s letters)
letters_more n i s letters each fit = record {
  conf = fit.conf;
  nodes = fit.nodes;
  letters = all-append LetterFits s.letters letters fit.letters each;
  joined = fit.joined;
  calls = fit.calls;
  ledgers = fit.ledgers;
  sessions = fit.sessions;
  tree = fit.tree;
}

-- another storage node at a number
node_fits : (n i : ℕ) (s : State) (b : ℕ) (x : Node) → NodeFits b x → StateFits n i s → StateFits n i (with_node s b x)
node_fits n i s b x is fit = record {
  conf = fit.conf;
  nodes = put_each s.nodes b x NodeFits is fit.nodes;
  letters = fit.letters;
  joined = fit.joined;
  calls = fit.calls;
  ledgers = fit.ledgers;
  sessions = fit.sessions;
  tree = fit.tree;
}

-- a link goes both ways
link_back : (a b : Address) → IsLink a b → IsLink b a
link_back (Client c) (AtBookie b) is = (is.1, is.0)
link_back (Client c) AtMeta is = is
link_back (Client c) (Client d) is = is
link_back (AtBookie b) (Client c) is = (is.1, is.0)
link_back (AtBookie b) (AtBookie d) is = is
link_back (AtBookie b) AtMeta is = is
link_back AtMeta (Client c) is = is
link_back AtMeta (AtBookie b) is = is
link_back AtMeta AtMeta is = is

-- an answer more
answer_fits : (n i : ℕ) (s : State) (l : Letter) (reply : Option Msg) → LetterFits l → AllSome MsgFits reply → StateFits n i s
    → StateFits n i (with_answer s l reply)
answer_fits n i s l None link is fit = fit
answer_fits n i s l (Some reply) link is fit =
    letters_more n i s (answer_to l reply ∷ []) ((link_back l.from l.to link.0, is), tt) fit

-- the operation of a request
abbrev AsksFit : MetaRequest → Type 0
AsksFit r = OpFits r.op

-- the request that a message is
asked_fits : (m : Msg) → MsgFits m → AllSome AsksFit (request_in m)
asked_fits (msg.MetaAsk session number op) is = is
asked_fits m is = tt

-- a reply has the answer of the request
replied_fits : (r : MetaRequest) (m : Meta) (a : Admit) → AnswerFits (answer_of m r.session r.op)
    → AllSome MsgFits (reply_msg r (reply_by m r.session r.number r.op a))
replied_fits r m admit.Run is = is
replied_fits r m admit.Old is = tt
replied_fits r m admit.Expired is = tt

-- the metadata node takes a letter
meta_fits : (n i : ℕ) (s : State) (l : Letter) (r : Option MetaRequest) → tree_most (suc i) ≤ most_u64 → LetterFits l → AllSome AsksFit r → StateFits n i s
    → OutcomeFits n (suc i) (meta_takes s l r)
meta_fits n i s l None small link is fit = quietly_fits n (suc i) s (unheard_fits n i s fit)
meta_fits n i s l (Some r) small link is fit =
    let now = admits_fit n i s r (admit_in s r) small is fit in
    let leaves = asked_leaves i (meta_in s).tree r.session r.op small is fit.tree in
    record {
      state = answer_fits n (suc i) (admits s r (admit_in s r)).state l (reply_msg r (reply_of (meta_in s) r.session r.number r.op)) link
          (replied_fits r (meta_in s) (admit_in s r) leaves.answer) now.state;
      events = now.events;
    }

-- ---- letters

-- what a storage node replies, and what it keeps
abbrev TakenFits : Taken → Type 0
TakenFits Looks = Unit {0}
TakenFits (Answers reply) = MsgFits reply
TakenFits (Queues reply item) = MsgFits reply × AllSome ItemFits item

-- a reply waits, unless something lacks
if_room_fits : (l : ℕ) (entry : Option ℕ) (reply : Msg) (item : Option Item) (what : Option Resource) → MsgFits reply × AllSome ItemFits item
    → TakenFits (if_room l entry reply item what)
if_room_fits l entry reply item None is = is
if_room_fits l entry reply item (Some what) is = tt

-- the same of a row
room_fits : (k : Bookie) (l : ℕ) (entry : Option ℕ) (row : Taken) → TakenFits row → TakenFits (with_room k l entry row)
room_fits k l entry Looks is = tt
room_fits k l entry (Answers reply) is = is
room_fits k l entry (Queues reply item) is = if_room_fits l entry reply item (lacking k l entry item) is

-- an entry of a writer, by the tests of its row
add_fits : (l e : ℕ) (stored fenced queued shut : Bool) (item : Option Item) → AllSome ItemFits item
    → TakenFits (cond stored (Answers (msg.AddOk l e))
    (cond fenced (Answers (msg.AddFenced l e)) (cond queued (Queues (msg.AddOk l e) None)
    (cond shut (Queues (msg.AddFenced l e) None) (Queues (msg.AddOk l e) item)))))
add_fits l e true fenced queued shut item is = tt
add_fits l e false true queued shut item is = tt
add_fits l e false false true shut item is = (tt, tt)
add_fits l e false false false true item is = (tt, tt)
add_fits l e false false false false item is = (tt, is)

-- an entry of a recovery
copy_fits : (t l e : ℕ) (stored queued : Bool) (item : Option Item) → AllSome ItemFits item
    → TakenFits (cond stored (Answers (msg.CopyOk t l e)) (cond queued (Queues (msg.CopyOk t l e) None) (Queues (msg.CopyOk t l e) item)))
copy_fits t l e true queued item is = tt
copy_fits t l e false true item is = (tt, tt)
copy_fits t l e false false item is = (tt, is)

-- a fence
fence_fits : (k : Bookie) (t l : ℕ) (fenced queued : Bool) (item : Option Item) → AllSome ItemFits item
    → TakenFits (cond fenced (Answers (lac_of k t l)) (cond queued (Queues (msg.LacIs t l true 0) None) (Queues (msg.LacIs t l true 0) item)))
fence_fits k t l true queued item is = tt
fence_fits k t l false true item is = (tt, tt)
fence_fits k t l false false item is = (tt, is)

-- what a message does
table_fits : (k : Bookie) (m : Msg) → MsgFits m → TakenFits (table_row k m)
unfolding table_row
table_fits k (msg.Add l e n bytes) is =
    room_fits k l (Some e) (add_row k l e n bytes)
    (add_fits l e (list_any (is_add l e) (durable k)) (has_fence k l) (list_any (is_add l e) (queued_items k)) (list_any (is_fence l) (queued_items k))
    (Some (AddItem l e n bytes)) is)
table_fits k (msg.Copy t l e n bytes) is =
    room_fits k l (Some e) (copy_row k t l e n bytes)
    (copy_fits t l e (list_any (is_entry l e) (durable k)) (list_any (is_entry l e) (queued_items k)) (Some (CopyItem l e n bytes)) is)
table_fits k (msg.AskLac t l true) is =
    room_fits k l None (fence_row k t l) (fence_fits k t l (has_fence k l) (list_any (is_fence l) (queued_items k)) (Some (FenceItem l)) tt)
table_fits k m is = tt

-- the entry of an item that has it
item_entry : (l e : ℕ) (x : Item) → ItemFits x → is_entry l e x ≡ true → IsEntryOf e (entry_in x)
item_entry l e (AddItem m f n bytes) is same = (subst IsU64 (eqb-true f e (and_parts (m == l) (f == e) same).1) is.0, is.1)
item_entry l e (CopyItem m f n bytes) is same = (subst IsU64 (eqb-true f e (and_parts (m == l) (f == e) same).1) is.0, is.1)
item_entry l e (FenceItem m) is same = absurd cc

-- the first item that has an entry
found_entry : (l e : ℕ) (items : List Item) → AllByRecursion ItemFits items
    → AllSome (λ x. IsEntryOf e (entry_in x)) (find (is_entry l e) items)
found_entry l e [] each = tt
found_entry l e (x ∷ items) each = go (is_entry l e x) refl (found_entry l e items each.1)
  where
    go : (t : Bool) → is_entry l e x ≡ t → AllSome (λ y. IsEntryOf e (entry_in y)) (find (is_entry l e) items)
        → AllSome (λ y. IsEntryOf e (entry_in y)) (cond t (Some x) (find (is_entry l e) items))
    go true same rest = item_entry l e x each.0 same
    go false other rest = rest

-- the answer to an asked entry
entry_fits : (k : Bookie) (t l e : ℕ) (x : Option Item) → AllSome (λ y. IsEntryOf e (entry_in y)) x → MsgFits (entry_answer k t l e x)
entry_fits k t l e None is = tt
entry_fits k t l e (Some x) is = is

-- the durable items
durable_fit : (b : ℕ) (k : Bookie) → BookieFits b k → AllByRecursion ItemFits (durable k)
durable_fit b k fit = all-flat (AllByRecursion ItemFits) ItemFits (λ (batch : List Item). batch) (λ batch each. each) k.batches fit.batches

-- the queued items
queued_fit : (b : ℕ) (k : Bookie) → BookieFits b k → AllByRecursion ItemFits (queued_items k)
queued_fit b k fit = all-flat (WaitingFits b) ItemFits (λ (w : Waiting). option_to_list w.item) (λ w is. option_all ItemFits w.item is.item) k.queue fit.queue

-- one batch more
batch_fits : (batches : List (List Item)) (items : List Item) → AllByRecursion (AllByRecursion ItemFits) batches → AllByRecursion ItemFits items
    → AllByRecursion (AllByRecursion ItemFits) (with_batch batches items)
batch_fits batches [] each more = each
batch_fits batches (x ∷ xs) each more = all-last (AllByRecursion ItemFits) batches (x ∷ xs) each more

-- a storage node after a stopped commit
after_stop_fits : (b : ℕ) (k : Bookie) (kept : Bool) → BookieFits b k → BookieFits b (after_stop k kept)
after_stop_fits b k kept fit = record {
  queue = tt;
  batches = cond_both (AllByRecursion (AllByRecursion ItemFits)) kept (with_batch k.batches (queued_items k)) k.batches
      (batch_fits k.batches (queued_items k) fit.batches (queued_fit b k fit)) fit.batches;
}

-- the answer from the durable list
look_fits : (b : ℕ) (k : Bookie) (m : Msg) → BookieFits b k → MsgFits m → MsgFits (look_answer k m)
unfolding look_answer
look_fits b k (msg.AskLac t l f) fit is = tt
look_fits b k (msg.AskEntry t l e) fit is = entry_fits k t l e (find (is_entry l e) (durable k)) (found_entry l e (durable k) (durable_fit b k fit))
look_fits b k m fit is = is

-- the answer that leaves at once
now_fits : (b : ℕ) (k : Bookie) (m : Msg) (row : Taken) → BookieFits b k → MsgFits m → TakenFits row → AllSome MsgFits (answer_now k m row)
now_fits b k m Looks fit asked is = look_fits b k m fit asked
now_fits b k m (Answers reply) fit asked is = is
now_fits b k m (Queues reply item) fit asked is = tt

-- a count that is told after a batch
told_fits : (items : List Item) (m : Msg) → MsgFits m → MsgFits (told_after items m)
told_fits items (msg.LacIs t l f n) is = tt
told_fits items m is = is

-- a storage node after a message of a client
after_fits : (b : ℕ) (k : Bookie) (c session : ℕ) (row : Taken) → IsBookie b → IsClient c → TakenFits row → BookieFits b k
    → BookieFits b (after k c session row)
after_fits b k c session (Queues reply item) here who is fit = record {
  queue = all-last (WaitingFits b) k.queue _ fit.queue (record { here = here; client = who; reply = is.0; item = is.1 });
  batches = fit.batches;
}
after_fits b k c session (Answers reply) here who is fit = fit
after_fits b k c session Looks here who is fit = fit

-- a storage node takes a message
row_fits : (n i : ℕ) (s : State) (l : Letter) (b c : ℕ) (row : Taken) → LetterFits l → TakenFits row → IsClient c × IsBookie b → StateFits n i s
    → StateFits n i (takes_row s l b c row)
row_fits n i s l b c row link is ends fit =
    let k : Bookie = (s.nodes b).bookie in
    let own = fit.nodes b in
    answer_fits n i (with_bookie s b (after k c l.session row)) l (answer_now k l.msg row) link (now_fits b k l.msg row own.bookie link.1 is)
    (node_fits n i s b (record (s.nodes b) { bookie = after k c l.session row })
    (record { bookie = after_fits b k c l.session row ends.1 ends.0 is own.bookie; other = own.other }) fit)

-- a letter is taken
taken_fits : (n i : ℕ) (s : State) (l : Letter) (to from : Address) → n ≤ most_lines → tree_most (suc i) ≤ most_u64 → LetterFits l → IsLink from to
    → StateFits n i s → OutcomeFits n (suc i) (takes_letter s l to from)
taken_fits n i s l (AtBookie b) (Client c) few small link ends fit =
    quietly_fits n (suc i) (bookie_takes s l b c) (row_fits n (suc i) s l b c (table_row (s.nodes b).bookie l.msg) link
    (table_fits (s.nodes b).bookie l.msg link.1) ends (unheard_fits n i s fit))
taken_fits n i s l (AtBookie b) (AtBookie d) few small link ends fit = quietly_fits n (suc i) s (unheard_fits n i s fit)
taken_fits n i s l (AtBookie b) AtMeta few small link ends fit = quietly_fits n (suc i) s (unheard_fits n i s fit)
taken_fits n i s l AtMeta from few small link ends fit = meta_fits n i s l (request_in l.msg) small link (asked_fits l.msg link.1) fit
taken_fits n i s l (Client c) from few small link ends fit =
    letter_fits n i s c s.conf (s.clients c) l few small link fit.conf (fit.joined c) fit

-- a letter is delivered
deliver_fits : (n i : ℕ) (s : State) (place : ℕ) (l : Option Letter) → n ≤ most_lines → tree_most (suc i) ≤ most_u64 → AllSome LetterFits l → StateFits n i s
    → OutcomeFits n (suc i) (delivers s place l)
deliver_fits n i s place None few small link fit = quietly_fits n (suc i) s (unheard_fits n i s fit)
deliver_fits n i s place (Some l) few small link fit =
    cond_both (OutcomeFits n (suc i)) (can_take s l l.to) (takes_letter (marks s place) l l.to l.from) (quietly s)
    (taken_fits n i (marks s place) l l.to l.from few small link link.0 fit) (quietly_fits n (suc i) s (unheard_fits n i s fit))

-- ---- storage nodes

-- a storage node that goes down
killed_fits : (b : ℕ) (x : Node) → NodeFits b x → NodeFits b (killed_node x)
killed_fits b x fit = cond_both (NodeFits b) (is_up x.mode) _ x (record { bookie = after_stop_fits b x.bookie false fit.bookie; other = fit.other }) fit

-- a storage node that goes down inside a commit
stopped_fits : (b : ℕ) (x : Node) (kept : Bool) → NodeFits b x → NodeFits b (stopped_node x kept)
stopped_fits b x kept fit =
    cond_both (NodeFits b) (is_up x.mode) _ x
    (record { bookie = after_stop_fits b x.bookie kept fit.bookie; other = after_stop_fits b x.bookie (not kept) fit.bookie }) fit

-- a storage node that is loaded
risen_fits : (b : ℕ) (x : Node) (mode : Mode) → NodeFits b x → NodeFits b (risen_node x mode)
risen_fits b x Up fit = fit
risen_fits b x Down fit = record { bookie = fit.bookie; other = tt }
risen_fits b x Lost fit = fit

-- a storage node whose disk holds the other list
swapped_fits : (b : ℕ) (x : Node) (other : Option Bookie) → AllSome (BookieFits b) other → NodeFits b x → NodeFits b (swapped_node x other)
swapped_fits b x None is fit = fit
swapped_fits b x (Some k) is fit = record { bookie = is; other = fit.bookie }

-- a storage node whose load fails
loosened_fits : (b : ℕ) (x : Node) (mode : Mode) (other : Bool) → NodeFits b x → NodeFits b (loosened_node x mode other)
loosened_fits b x Up other fit = fit
loosened_fits b x Down true fit = swapped_fits b x x.other fit.other fit
loosened_fits b x Down false fit = fit
loosened_fits b x Lost other fit = fit

-- the letters of replies that waited
replies_fit : (b : ℕ) (k : Bookie) → BookieFits b k → AllByRecursion LetterFits (map (reply_letter b) (replies_of k))
replies_fit b k fit =
    all-map (λ (r : Reply). IsBookie b × (IsClient r.client × MsgFits r.msg)) LetterFits (reply_letter b) (λ r is. ((is.0, is.1.0), is.1.1)) (replies_of k)
    (all-map (WaitingFits b) (λ (r : Reply). IsBookie b × (IsClient r.client × MsgFits r.msg)) _
    (λ w is. (is.here, (is.client, told_fits (all_items k) w.reply is.reply))) k.queue fit.queue)

-- a storage node commits its queue
commits_fit : (n i : ℕ) (s : State) (b : ℕ) → StateFits n i s → StateFits n i (commits s b)
unfolding after_commit
commits_fit n i s b fit =
    let own = fit.nodes b in
    letters_more n i (with_bookie s b (after_commit (s.nodes b).bookie)) (map (reply_letter b) (replies_of (s.nodes b).bookie))
    (replies_fit b (s.nodes b).bookie own.bookie)
    (node_fits n i s b (record (s.nodes b) { bookie = after_commit (s.nodes b).bookie })
    (record {
      bookie = record {
        queue = tt;
        batches = batch_fits (s.nodes b).bookie.batches (queued_items (s.nodes b).bookie) own.bookie.batches (queued_fit b (s.nodes b).bookie own.bookie);
      };
      other = own.other;
    }) fit)

-- a storage node goes down on a letter
faint_at_fits : (n i : ℕ) (s : State) (to : Address) → StateFits n i s → StateFits n i (faints_at s to)
faint_at_fits n i s (AtBookie b) fit = node_fits n i s b (killed_node (s.nodes b)) (killed_fits b (s.nodes b) (fit.nodes b)) fit
faint_at_fits n i s (Client c) fit = fit
faint_at_fits n i s AtMeta fit = fit

-- the same of the letter at a place
faint_fits : (n i : ℕ) (s : State) (place : ℕ) (l : Option Letter) → StateFits n i s → StateFits n i (faints s place l)
faint_fits n i s place None fit = fit
faint_fits n i s place (Some l) fit =
    cond_both (StateFits n i) (can_take s l l.to) (faints_at (marks s place) l.to) s (faint_at_fits n i (marks s place) l.to fit) fit

-- the commit of a request stops
stop_run_fits : (n i : ℕ) (s : State) (r : MetaRequest) (kept : Bool) → tree_most (suc i) ≤ most_u64 → OpFits r.op → StateFits n i s
    → OutcomeFits n (suc i) (stops_run s r kept)
stop_run_fits n i s r true small is fit = let now = runs_fit n i s r small is fit in record { state = now.state; events = now.events }
stop_run_fits n i s r false small is fit = record { state = unheard_fits n i s fit; events = tt }

-- the same of a request that is admitted so
stop_request_fits : (n i : ℕ) (s : State) (place : ℕ) (r : MetaRequest) (kept : Bool) (a : Admit) → tree_most (suc i) ≤ most_u64 → OpFits r.op
    → StateFits n i s → OutcomeFits n (suc i) (stops_request s place r kept a)
stop_request_fits n i s place r kept admit.Run small is fit = stop_run_fits n i (marks s place) r kept small is fit
stop_request_fits n i s place r kept admit.Old small is fit = quietly_fits n (suc i) s (unheard_fits n i s fit)
stop_request_fits n i s place r kept admit.Expired small is fit = quietly_fits n (suc i) s (unheard_fits n i s fit)

-- the same of a message
stop_msg_fits : (n i : ℕ) (s : State) (place : ℕ) (kept : Bool) (r : Option MetaRequest) → tree_most (suc i) ≤ most_u64 → AllSome AsksFit r
    → StateFits n i s → OutcomeFits n (suc i) (stops_msg s place kept r)
stop_msg_fits n i s place kept None small is fit = quietly_fits n (suc i) s (unheard_fits n i s fit)
stop_msg_fits n i s place kept (Some r) small is fit = stop_request_fits n i s place r kept (admit_in s r) small is fit

-- the same of the letter at a place
stop_meta_fits : (n i : ℕ) (s : State) (place : ℕ) (kept : Bool) (l : Option Letter) → tree_most (suc i) ≤ most_u64 → AllSome LetterFits l
    → StateFits n i s → OutcomeFits n (suc i) (stops_meta s place kept l)
stop_meta_fits n i s place kept None small link fit = quietly_fits n (suc i) s (unheard_fits n i s fit)
stop_meta_fits n i s place kept (Some l) small link fit =
    cond_both (OutcomeFits n (suc i)) s.meta_up (stops_msg s place kept (request_in l.msg)) (quietly s)
    (stop_msg_fits n i s place kept (request_in l.msg) small (asked_fits l.msg link.1) fit)
    (quietly_fits n (suc i) s (unheard_fits n i s fit))

-- ---- sessions

-- a client joins
join_fits : (n i : ℕ) (s : State) (c : ℕ) → suc n ≤ most_lines → IsClient c → StateFits n i s → OutcomeFits (suc n) i (joins s c)
join_fits n i s c few number fit =
    let k : ℕ = suc (meta_in s).sessions.last in
    let later = state_more n (suc n) i i s (omega arith) (omega arith) fit in
    let last = connect_last s.meta.items k in
    let process : Option Joined = Some (new_process s c k) in
    cond_both (OutcomeFits (suc n) i) s.meta_up (joins_in s c k) (quietly s)
    (record {
      state = record {
        conf = later.conf;
        nodes = later.nodes;
        letters = later.letters;
        joined = put_each s.clients c process (λ j p. AllSome (JoinedFits (suc n) i j) p)
            (record {
              number = number;
              session = (omega arith, omega (arith, few, fit.sessions));
              view = tt;
              few = omega arith;
              calls = omega (arith, later.calls c);
            }) later.joined;
        calls = later.calls;
        ledgers = later.ledgers;
        sessions = omega (arith, last, fit.sessions);
        tree = subst (TreeFits (tree_most i)) (sym (connect_tree s.meta.items k)) fit.tree;
      };
      events = ((number, (omega arith, omega (arith, few, fit.sessions))), tt);
    })
    (quietly_fits (suc n) i s later)

-- a client's process ends
crash_fits : (n i : ℕ) (s : State) (c : ℕ) → StateFits n i s → StateFits n i (with_client s c None)
crash_fits n i s c fit = record {
  conf = fit.conf;
  nodes = fit.nodes;
  letters = fit.letters;
  joined = put_each s.clients c None (λ j p. AllSome (JoinedFits n i j) p) tt fit.joined;
  calls = fit.calls;
  ledgers = fit.ledgers;
  sessions = fit.sessions;
  tree = fit.tree;
}

-- a session ends
end_fits : (n i : ℕ) (s : State) (k : ℕ) → IsSession k → StateFits n i s → OutcomeFits n i (ends s k)
end_fits n i s k is fit =
    let now : TreeFits (tree_most i) (meta_of (Expire k ∷ s.meta.items)).tree =
    subst (TreeFits (tree_most i)) (sym (expire_tree s.meta.items k)) (without_fits (tree_most i) (meta_in s).tree k fit.tree) in
    cond_both (OutcomeFits n i) (s.meta_up && is_live (meta_in s).sessions k) _ (quietly s)
    (record { state = item_fits n i s (Expire k) (expire_last s.meta.items k) now fit; events = (is, tt) }) (quietly_fits n i s fit)

-- the world is set up
setup_fits : (n i : ℕ) (s : State) (conf : Conf) → ConfFits conf → StateFits n i s → StateFits n i (sets_up s conf)
setup_fits n i s conf is fit =
    let now : TreeFits (tree_most i) (meta_of (Setup conf ∷ s.meta.items)).tree =
    subst (TreeFits (tree_most i)) (sym (setup_tree s.meta.items conf)) (tree_more 4 (tree_most i) (first_tree conf) (omega arith) (first_tree_fits conf)) in
    let set = item_fits n i s (Setup conf) (setup_last s.meta.items conf) now fit in
    cond_both (StateFits n i) (is_none s.conf) _ s
    (record {
      conf = is;
      nodes = set.nodes;
      letters = set.letters;
      joined = set.joined;
      calls = set.calls;
      ledgers = set.ledgers;
      sessions = set.sessions;
      tree = set.tree;
    })
    fit

-- ---- atomic steps

-- what an atomic step takes from its line is such as the grammar takes
abbrev pub IsAtom : Atom → Type 0
IsAtom (SetUp conf) = ConfFits conf
IsAtom (Join c) = IsClient c
IsAtom (Crash c) = Unit {0}
IsAtom (End k) = IsSession k
IsAtom (Order c line x) = IsU32 line × (IsStep x × IsCountable x)
IsAtom (Deliver place) = Unit {0}
IsAtom (Commit b) = Unit {0}
IsAtom (Stop b kept) = Unit {0}
IsAtom (StopMeta place kept) = Unit {0}
IsAtom (Faint place) = Unit {0}
IsAtom (Kill b) = Unit {0}
IsAtom KillMeta = Unit {0}
IsAtom (Rise b) = Unit {0}
IsAtom RiseMeta = Unit {0}
IsAtom (Loosen b other) = Unit {0}
IsAtom (Lose b) = Unit {0}
IsAtom (Shows e) = IsEvent e

-- how many lines an atomic step counts for: those by which a client joins or takes a line count
abbrev pub cost : Atom → ℕ
cost (Join c) = 1
cost (Order c line x) = 1
cost (SetUp conf) = 0
cost (Crash c) = 0
cost (End k) = 0
cost (Deliver place) = 0
cost (Commit b) = 0
cost (Stop b kept) = 0
cost (StopMeta place kept) = 0
cost (Faint place) = 0
cost (Kill b) = 0
cost KillMeta = 0
cost (Rise b) = 0
cost RiseMeta = 0
cost (Loosen b other) = 0
cost (Lose b) = 0
cost (Shows e) = 0

-- how many lines and letters are taken by an atomic step
abbrev pub takings : Atom → ℕ
takings (Order c line x) = 1
takings (Deliver place) = 1
takings (StopMeta place kept) = 1
takings (Join c) = 0
takings (SetUp conf) = 0
takings (Crash c) = 0
takings (End k) = 0
takings (Commit b) = 0
takings (Stop b kept) = 0
takings (Faint place) = 0
takings (Kill b) = 0
takings KillMeta = 0
takings (Rise b) = 0
takings RiseMeta = 0
takings (Loosen b other) = 0
takings (Lose b) = 0
takings (Shows e) = 0

-- a state, and what is shown with it, behind lines and takings more
outcome_more : (n m i j : ℕ) (o : Outcome) → n ≤ m → i ≤ j → OutcomeFits n i o → OutcomeFits m j o
outcome_more n m i j o h g fit = record { state = state_more n m i j o.state h g fit.state; events = fit.events }

-- the state behind an atomic step that no client takes, and what it shows
still_fits : (n i m j : ℕ) (o : Outcome) → n ≤ m → i ≤ j → StateFits n i o.state → AllByRecursion IsEvent o.events → OutcomeFits m j o
still_fits n i m j o h g fit each = record { state = state_more n m i j o.state h g fit; events = each }

-- the state behind an atomic step, and what it shows, where at most so many lines were run then, and so many lines and letters taken
pub atom_fits : (n m i j : ℕ) (s : State) (a : Atom) → n + cost a ≤ m → i + takings a ≤ j → m ≤ most_lines → tree_most j ≤ most_u64 → IsAtom a
    → StateFits n i s
    → OutcomeFits m j (atom s a)
unfolding atom
atom_fits n m i j s (SetUp conf) h g few small is fit = still_fits n i m j _ (omega (arith, h)) (omega (arith, g)) (setup_fits n i s conf is fit) tt
atom_fits n m i j s (Join c) h g few small is fit =
    outcome_more (suc n) m i j _ (omega (arith, h)) (omega (arith, g)) (join_fits n i s c (omega (arith, h, few)) is fit)
atom_fits n m i j s (Crash c) h g few small is fit = still_fits n i m j _ (omega (arith, h)) (omega (arith, g)) (crash_fits n i s c fit) tt
atom_fits n m i j s (End k) h g few small is fit = outcome_more n m i j _ (omega (arith, h)) (omega (arith, g)) (end_fits n i s k is fit)
atom_fits n m i j s (Order c line x) h g few small is fit =
    outcome_more (suc n) m (suc i) j _ (omega (arith, h)) (omega (arith, g))
    (line_fits n i s c s.conf (s.clients c) line x (omega (arith, h, few)) (omega (arith, g, small)) is fit.conf (fit.joined c) fit)
atom_fits n m i j s (Deliver place) h g few small is fit =
    outcome_more n m (suc i) j _ (omega (arith, h)) (omega (arith, g))
    (deliver_fits n i s place (slice_get s.letters place) (omega (arith, h, few)) (omega (arith, g, small))
    (all-get LetterFits s.letters place fit.letters) fit)
atom_fits n m i j s (Commit b) h g few small is fit =
    still_fits n i m j _ (omega (arith, h)) (omega (arith, g)) (commits_fit n i s b fit) tt
atom_fits n m i j s (Stop b kept) h g few small is fit =
    still_fits n i m j _ (omega (arith, h)) (omega (arith, g))
    (node_fits n i s b (stopped_node (s.nodes b) kept) (stopped_fits b (s.nodes b) kept (fit.nodes b)) fit) tt
atom_fits n m i j s (StopMeta place kept) h g few small is fit =
    outcome_more n m (suc i) j _ (omega (arith, h)) (omega (arith, g)) (stop_meta_fits n i s place kept (slice_get s.letters place)
    (omega (arith, g, small)) (all-get LetterFits s.letters place fit.letters) fit)
atom_fits n m i j s (Faint place) h g few small is fit =
    still_fits n i m j _ (omega (arith, h)) (omega (arith, g)) (faint_fits n i s place (slice_get s.letters place) fit) tt
atom_fits n m i j s (Kill b) h g few small is fit =
    still_fits n i m j _ (omega (arith, h)) (omega (arith, g)) (node_fits n i s b (killed_node (s.nodes b)) (killed_fits b (s.nodes b) (fit.nodes b)) fit) tt
atom_fits n m i j s KillMeta h g few small is fit = still_fits n i m j _ (omega (arith, h)) (omega (arith, g)) fit tt
atom_fits n m i j s (Rise b) h g few small is fit =
    still_fits n i m j _ (omega (arith, h)) (omega (arith, g)) (node_fits n i s b _ (risen_fits b (s.nodes b) (s.nodes b).mode (fit.nodes b)) fit) tt
atom_fits n m i j s RiseMeta h g few small is fit = still_fits n i m j _ (omega (arith, h)) (omega (arith, g)) fit tt
atom_fits n m i j s (Loosen b other) h g few small is fit =
    still_fits n i m j _ (omega (arith, h)) (omega (arith, g)) (node_fits n i s b _ (loosened_fits b (s.nodes b) (s.nodes b).mode other (fit.nodes b)) fit) tt
atom_fits n m i j s (Lose b) h g few small is fit =
    still_fits n i m j _ (omega (arith, h)) (omega (arith, g))
    (node_fits n i s b (lost_node (s.nodes b))
    (record { bookie = after_stop_fits b (s.nodes b).bookie false (fit.nodes b).bookie; other = (fit.nodes b).other }) fit) tt
atom_fits n m i j s (Shows e) h g few small is fit = still_fits n i m j _ (omega (arith, h)) (omega (arith, g)) fit (is, tt)
