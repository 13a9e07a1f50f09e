-- Each atomic step keeps the promises of letters and storage nodes.
use Rattle.std.proofs.Common.{◌≡◌, ℕ, suc, ◌+◌, Bool, true, false, ◌&&◌, List, [], ◌∷◌, map, Option, Some, None, refl, sym, subst, subst₂}
use Rattle.std.proofs.Common.{slice_get}
use Rattle.std.specs.Prelude.{IfSome, is_none}
use Rattle.std.specs.List.{AllByRecursion}
use Rattle.std.proofs.lemmas.Bool.{cond_both}
use Rattle.std.proofs.lemmas.Option.{IfSome_then}
use Rattle.dl_types.specs.declared.address.Address.{Address}
use Rattle.dl_types.specs.declared.address.Address.TheVariants.{Client, Bookie as AtBookie, Meta as AtMeta}
use Rattle.dl_msg.specs.declared.letter.Letter.{Letter}
use Rattle.dl_msg.specs.declared.meta_reply.MetaReply.{MetaReply}
use Rattle.dl_msg.specs.declared.msg.Msg.{Msg}
use Rattle.dl_msg.specs.declared.msg.Msg.TheVariants as msg
use Rattle.dl_session.specs.declared.admit.Admit.{Admit}
use Rattle.dl_session.specs.declared.admit.Admit.TheVariants as admit
use Rattle.dl_session.specs.Sessions.{is_live}
use Rattle.dl_formats.specs.declared.conf.Conf.{Conf}
use Rattle.dl_rules_nodes.specs.Bookies.{Reply, Taken, table_row, after as taken_bookie, answer_now, replies_of, after_commit}
use Rattle.dl_rules_nodes.specs.Items.{Ask}
use Rattle.dl_rules_nodes.specs.Metadata.{answer_of, reply_of}
use Rattle.dl_rules_client.specs.Acts.{Input, Line, Came, Acts}
use Rattle.dl_rules_client.specs.Clients.{acts_of}
use Rattle.dl_rules_client.proofs.RangeLists.{AllSome, all-append, all-map, all-get}
use Rattle.dl_machine.specs.States.{State, Node, Joined, Outcome, blank, with_value, with_client, with_letters, with_meta_item, marks, is_up, can_take, args_of, quietly}
use Rattle.dl_machine.specs.Growth.{with_sent, confirms}
use Rattle.dl_machine.specs.Atoms.{Atom, SetUp, Join, Crash, End, Order, Deliver, Commit, Stop, StopMeta, Faint, Kill, KillMeta, Rise, RiseMeta, Loosen}
use Rattle.dl_machine.specs.Atoms.{Lose, Shows, MetaRequest, meta_in, request_in, admit_in, sets_up, joins, joins_in, ends, client_takes, with_answer, answer_to}
use Rattle.dl_machine.specs.Atoms.{takes_row, runs, admits, reply_msg, meta_takes, takes_letter, delivers, commits, reply_letter, stopped_node, killed_node, risen_node}
use Rattle.dl_machine.specs.Atoms.{loosened_node, lost_node, faints_at, faints, without_meta, stops_run, stops_request, stops_msg, stops_meta, acts_on, atom}
use Rattle.dl_machine.specs.Runs.{after}
use Rattle.dl_machine.proofs.Movements.{ButLedgers, but_sent, but_confirms, but_run}
use Rattle.dl_law_nodes.specs.Disks.{Nodes, Grows}
use Rattle.dl_law_nodes.specs.Promises.{Shapes, AskHolds, AnswerHolds}
use Rattle.dl_law_nodes.specs.Laws.{with_bookie, with_node, GoesOn, MessageIsTaken, IsCommitted}
use Rattle.dl_law_nodes.proofs.Growth.{growth_lasts}
use Rattle.dl_law_nodes.proofs.Survival.{ask_lasts, answer_lasts}
use Rattle.dl_law_nodes.proofs.Items.{all_weaker}
use Rattle.dl_law_nodes.proofs.Meetings.{all_fences_last}
use Rattle.dl_law_nodes.proofs.NodeSteps.{messages_are_taken, commits_keep, all_nodes_survive, nodes_begin}
use Rattle.dl_law_stores.specs.States.{PostHolds, LetterHolds, Holds, StateHolds, ClientTells, ReceiverTells, PlaceTells}
use Rattle.dl_law_stores.specs.Laws.{StepTells, StateGoesOn, StepsKeep, AllTell, RunsKeep, FencesLastInRuns}

-- a letter keeps its promise as nodes go on
post_lasts : (shape : Shapes) (k m : Nodes) → Grows k m → (to from : Address) (x : Msg) → PostHolds shape k to from x → PostHolds shape m to from x
post_lasts shape k m g (AtBookie b) (Client c) x h = ask_lasts shape k m g x h
post_lasts shape k m g (AtBookie b) (AtBookie d) x h = tt
post_lasts shape k m g (AtBookie b) AtMeta x h = tt
post_lasts shape k m g (Client c) (AtBookie b) x h = answer_lasts shape k m g b x h
post_lasts shape k m g (Client c) AtMeta x h = h
post_lasts shape k m g (Client c) (Client d) x h = h
post_lasts shape k m g AtMeta from x h = tt

module _ (shape : Shapes) where
  -- letters keep their promises as nodes go on
  letters_last : (k m : Nodes) → Grows k m → (letters : List Letter) → AllByRecursion (LetterHolds shape k) letters
      → AllByRecursion (LetterHolds shape m) letters
  letters_last k m g letters h = all_weaker (LetterHolds shape k) (LetterHolds shape m) (λ l. post_lasts shape k m g l.to l.from l.msg) letters h

  -- ---- parts of states

  -- a state goes on
  abbrev Goes : State → State → Type 0
  Goes s t = StateGoesOn shape s t

  -- nodes and letters stay
  stays : (s t : State) → t.nodes ≡ s.nodes → t.letters ≡ s.letters → StateHolds shape s → Goes s t
  stays s t nodes letters h = record {
    grows = subst (λ (k : Nodes). Grows s.nodes k) (sym nodes) (growth_lasts.same s.nodes);
    holds = subst₂ (λ (k : Nodes) (ls : List Letter). Holds shape k ls) (sym nodes) (sym letters) h;
  }

  -- a change of ledgers alone behind a step
  then_ledgers : (s t u : State) → ButLedgers t u → Goes s t → Goes s u
  then_ledgers s t u e g = subst (λ (v : State). Goes s v) (sym e) (record { grows = g.grows; holds = g.holds })

  -- letters more behind a step
  then_letters : (s t : State) (more : List Letter) → AllByRecursion (LetterHolds shape t.nodes) more → Goes s t → Goes s (with_letters t more)
  then_letters s t more h g = record {
    grows = g.grows;
    holds = record { nodes = g.holds.nodes; each = all-append (LetterHolds shape t.nodes) t.letters more g.holds.each h };
  }

  -- a storage node goes on
  node_goes : (s : State) (b : ℕ) (n : Node) → StateHolds shape s → GoesOn shape s.nodes b n → Goes s (record s { nodes = with_value s.nodes b n })
  node_goes s b n h g = record {
    grows = g.grows;
    holds = record { nodes = g.each; each = letters_last s.nodes (with_node s.nodes b n) g.grows s.letters h.each };
  }

  -- ---- the metadata node

  -- a request that runs
  runs_goes : (s : State) (r : MetaRequest) → StateHolds shape s → Goes s (runs s r).state
  runs_goes s r h =
      then_ledgers s (with_meta_item s (Ask r.session r.number r.op)) (runs s r).state
      (but_run (meta_in s).tree r.op (answer_of (meta_in s) r.session r.op) (with_meta_item s (Ask r.session r.number r.op)))
      (stays s (with_meta_item s (Ask r.session r.number r.op)) refl refl h)

  -- a request that is admitted
  admits_goes : (s : State) (r : MetaRequest) (a : Admit) → StateHolds shape s → Goes s (admits s r a).state
  admits_goes s r admit.Run h = runs_goes s r h
  admits_goes s r admit.Old h = stays s s refl refl h
  admits_goes s r admit.Expired h = stays s s refl refl h

  -- a reply of the metadata node
  reply_holds : (k : Nodes) (from : Address) (session number : ℕ) (r : MetaReply) → PostHolds shape k from AtMeta (msg.MetaReply session number r)
  reply_holds k (AtBookie b) session number r = tt
  reply_holds k (Client c) session number r = tt
  reply_holds k AtMeta session number r = tt

  -- it is sent, where there is one
  replied : (s t : State) (l : Letter) (r : MetaRequest) (reply : Option MetaReply) → l.to ≡ AtMeta → Goes s t → Goes s (with_answer t l (reply_msg r reply))
  replied s t l r None to g = g
  replied s t l r (Some reply) to g =
      then_letters s t (answer_to l (msg.MetaReply r.session r.number reply) ∷ []) (
        subst (λ (from : Address). PostHolds shape t.nodes l.from from (msg.MetaReply r.session r.number reply)) (sym to)
            (reply_holds t.nodes l.from r.session r.number reply),
        tt,
      ) g

  -- the metadata node takes a letter
  meta_goes : (s : State) (l : Letter) (r : Option MetaRequest) → l.to ≡ AtMeta → StateHolds shape s → Goes s (meta_takes s l r).state
  meta_goes s l None to h = stays s s refl refl h
  meta_goes s l (Some r) to h =
      replied s (admits s r (admit_in s r)).state l r (reply_of (meta_in s) r.session r.number r.op) to (admits_goes s r (admit_in s r) h)

  -- ---- clients

  -- a client does something
  acts_go : (s : State) (c : ℕ) (me : Joined) (x : Input) (acts : Acts) → StateHolds shape s → AllByRecursion (LetterHolds shape s.nodes) acts.letters
      → Goes s (acts_on s c me x acts).state
  acts_go s c me x acts h told =
      let process : Option Joined = Some (record me { view = x ∷ me.view }) in
      let then : State = record (with_letters (with_client s c process) acts.letters) { calls = with_value s.calls c (s.calls c + acts.taken) } in
      let base : Goes s then = record {
        grows = growth_lasts.same s.nodes;
        holds = record { nodes = h.nodes; each = all-append (LetterHolds shape s.nodes) s.letters acts.letters h.each told };
      } in
      then_ledgers s (with_sent then acts.sent) (confirms (with_sent then acts.sent) acts.confirmed).state
      (but_confirms (with_sent then acts.sent) acts.confirmed)
      (then_ledgers s then (with_sent then acts.sent) (but_sent then acts.sent) base)

  -- a client takes something
  client_goes : (s : State) (c : ℕ) (conf : Option Conf) (me : Option Joined) (x : Input) → StateHolds shape s → ClientTells shape s c conf me x
      → Goes s (client_takes s c conf me x).state
  client_goes s c (Some conf) (Some me) x h told = acts_go s c me x (acts_of (args_of conf c me) me.view x) h told
  client_goes s c (Some conf) None x h told = stays s s refl refl h
  client_goes s c None me x h told = stays s s refl refl h

  -- ---- storage nodes

  -- an answer is sent, where there is one
  answered : (s t : State) (l : Letter) (b c : ℕ) (reply : Option Msg) → l.to ≡ AtBookie b → l.from ≡ Client c
      → IfSome reply (AnswerHolds shape t.nodes b) → Goes s t → Goes s (with_answer t l reply)
  answered s t l b c None to from a g = g
  answered s t l b c (Some reply) to from a g =
      then_letters s t (answer_to l reply ∷ [])
      (subst₂ (λ (x y : Address). PostHolds shape t.nodes x y reply) (sym from) (sym to) a, tt) g

  -- a storage node takes a letter of a client
  bookie_goes : (s : State) (l : Letter) (b c : ℕ) → l.to ≡ AtBookie b → l.from ≡ Client c → is_up (s.nodes b).mode ≡ true → StateHolds shape s
      → AskHolds shape s.nodes l.msg → Goes s (takes_row s l b c (table_row (s.nodes b).bookie l.msg))
  bookie_goes s l b c to from up h a =
      answered s (record s { nodes = with_value s.nodes b n }) l b c (answer_now (s.nodes b).bookie l.msg row) to from
      (IfSome_then (answer_now (s.nodes b).bookie l.msg row) taken.answer
      (λ x w. answer_lasts shape s.nodes (with_node s.nodes b n) taken.goes.grows b x w)) (node_goes s b n h taken.goes)
    where
      row : Taken
      row = table_row (s.nodes b).bookie l.msg

      n : Node
      n = with_bookie (s.nodes b) (taken_bookie (s.nodes b).bookie c l.session (table_row (s.nodes b).bookie l.msg))

      taken : MessageIsTaken shape s.nodes b c l.session l.msg (table_row (s.nodes b).bookie l.msg)
      taken = messages_are_taken shape s.nodes h.nodes b c l.session l.msg up a

  -- ---- letters

  -- a letter is taken
  taken_goes : (s : State) (l : Letter) (to from : Address) → l.to ≡ to → l.from ≡ from → can_take s l to ≡ true → StateHolds shape s
      → PostHolds shape s.nodes to from l.msg → ReceiverTells shape s l to → Goes s (takes_letter s l to from).state
  taken_goes s l (AtBookie b) (Client c) to from can h a told = bookie_goes s l b c to from can h a
  taken_goes s l (AtBookie b) (AtBookie d) to from can h a told = stays s s refl refl h
  taken_goes s l (AtBookie b) AtMeta to from can h a told = stays s s refl refl h
  taken_goes s l AtMeta from to e can h a told = meta_goes s l (request_in l.msg) to h
  taken_goes s l (Client c) from to e can h a told = client_goes s c s.conf (s.clients c) (Came l) h told

  -- a letter that is marked first
  marked_goes : (s : State) (place : ℕ) (t : State) → Goes (marks s place) t → Goes s t
  marked_goes s place t g = record { grows = g.grows; holds = g.holds }

  -- a state in which a letter is marked holds
  marked_holds : (s : State) (place : ℕ) → StateHolds shape s → StateHolds shape (marks s place)
  marked_holds s place h = record { nodes = h.nodes; each = h.each }

  -- a letter is delivered
  deliver_goes : (s : State) (place : ℕ) (l : Option Letter) → StateHolds shape s → AllSome (LetterHolds shape s.nodes) l → PlaceTells shape s l
      → Goes s (delivers s place l).state
  deliver_goes s place None h a told = stays s s refl refl h
  deliver_goes s place (Some l) h a told =
      cond_both (can_take s l l.to) (takes_letter (marks s place) l l.to l.from) (quietly s) (λ (o : Outcome). Goes s o.state)
      (λ can. marked_goes s place (takes_letter (marks s place) l l.to l.from).state
      (taken_goes (marks s place) l l.to l.from refl refl can (marked_holds s place h) a told))
      (λ _. stays s s refl refl h)

  -- a storage node commits
  commit_goes : (s : State) (b : ℕ) → StateHolds shape s → Goes s (commits s b)
  commit_goes s b h =
      let c : IsCommitted shape s.nodes b (with_bookie (s.nodes b) (after_commit (s.nodes b).bookie)) = commits_keep shape s.nodes h.nodes b in
      let n : Node = with_bookie (s.nodes b) (after_commit (s.nodes b).bookie) in
      then_letters s (record s { nodes = with_value s.nodes b n }) (map (reply_letter b) (replies_of (s.nodes b).bookie))
      (all-map (λ (r : Reply). AnswerHolds shape (with_node s.nodes b n) b r.msg) (LetterHolds shape (with_node s.nodes b n)) (reply_letter b)
      (λ r a. a) (replies_of (s.nodes b).bookie) c.replies) (node_goes s b n h c.goes)

  -- a storage node goes down on a letter
  faint_at_goes : (s : State) (to : Address) → StateHolds shape s → Goes s (faints_at s to)
  faint_at_goes s (AtBookie b) h = node_goes s b (killed_node (s.nodes b)) h (all_nodes_survive shape s.nodes h.nodes b).kill
  faint_at_goes s AtMeta h = stays s s refl refl h
  faint_at_goes s (Client c) h = stays s s refl refl h

  -- the letter at a place, where it can be taken
  faint_goes : (s : State) (place : ℕ) (l : Option Letter) → StateHolds shape s → Goes s (faints s place l)
  faint_goes s place None h = stays s s refl refl h
  faint_goes s place (Some l) h =
      cond_both (can_take s l l.to) (faints_at (marks s place) l.to) s (Goes s)
      (λ _. marked_goes s place (faints_at (marks s place) l.to) (faint_at_goes (marks s place) l.to (marked_holds s place h)))
      (λ _. stays s s refl refl h)

  -- ---- stops of the metadata node

  -- a request whose commit stops
  stops_run_goes : (s : State) (r : MetaRequest) (kept : Bool) → StateHolds shape s → Goes s (stops_run s r kept).state
  stops_run_goes s r true h = let g = runs_goes s r h in record { grows = g.grows; holds = record { nodes = g.holds.nodes; each = g.holds.each } }
  stops_run_goes s r false h = stays s (without_meta s) refl refl h

  -- one that would run
  stops_request_goes : (s : State) (place : ℕ) (r : MetaRequest) (kept : Bool) (a : Admit) → StateHolds shape s
      → Goes s (stops_request s place r kept a).state
  stops_request_goes s place r kept admit.Run h =
      marked_goes s place (stops_run (marks s place) r kept).state (stops_run_goes (marks s place) r kept (marked_holds s place h))
  stops_request_goes s place r kept admit.Old h = stays s s refl refl h
  stops_request_goes s place r kept admit.Expired h = stays s s refl refl h

  -- a message that is one
  stops_msg_goes : (s : State) (place : ℕ) (kept : Bool) (r : Option MetaRequest) → StateHolds shape s → Goes s (stops_msg s place kept r).state
  stops_msg_goes s place kept None h = stays s s refl refl h
  stops_msg_goes s place kept (Some r) h = stops_request_goes s place r kept (admit_in s r) h

  -- the letter at a place
  stops_meta_goes : (s : State) (place : ℕ) (kept : Bool) (l : Option Letter) → StateHolds shape s → Goes s (stops_meta s place kept l).state
  stops_meta_goes s place kept None h = stays s s refl refl h
  stops_meta_goes s place kept (Some l) h =
      cond_both s.meta_up (stops_msg s place kept (request_in l.msg)) (quietly s) (λ (o : Outcome). Goes s o.state)
      (λ _. stops_msg_goes s place kept (request_in l.msg) h) (λ _. stays s s refl refl h)

  -- ---- the world and sessions

  -- a setup
  set_up_goes : (s : State) (conf : Conf) → StateHolds shape s → Goes s (sets_up s conf)
  set_up_goes s conf h = cond_both (is_none s.conf) _ s (Goes s) (λ _. stays s _ refl refl h) (λ _. stays s s refl refl h)

  -- a join
  join_goes : (s : State) (c : ℕ) → StateHolds shape s → Goes s (joins s c).state
  join_goes s c h =
      let k : ℕ = suc (meta_in s).sessions.last in
      cond_both s.meta_up (joins_in s c k) (quietly s) (λ (o : Outcome). Goes s o.state)
      (λ _. stays s (joins_in s c k).state refl refl h) (λ _. stays s s refl refl h)

  -- the end of a session
  end_goes : (s : State) (k : ℕ) → StateHolds shape s → Goes s (ends s k).state
  end_goes s k h =
      cond_both (s.meta_up && is_live (meta_in s).sessions k) _ (quietly s) (λ (o : Outcome). Goes s o.state)
      (λ _. stays s _ refl refl h) (λ _. stays s s refl refl h)

  -- ---- each atomic step

  -- an atomic step
  step_goes : (s : State) (a : Atom) → StateHolds shape s → StepTells shape s a → Goes s (atom s a).state
  unfolding atom
  step_goes s (SetUp conf) h told = set_up_goes s conf h
  step_goes s (Join c) h told = join_goes s c h
  step_goes s (Crash c) h told = stays s (with_client s c None) refl refl h
  step_goes s (End k) h told = end_goes s k h
  step_goes s (Order c line x) h told = client_goes s c s.conf (s.clients c) (Line line x) h told
  step_goes s (Deliver place) h told =
      deliver_goes s place (slice_get s.letters place) h (all-get (LetterHolds shape s.nodes) s.letters place h.each) told
  step_goes s (Commit b) h told = commit_goes s b h
  step_goes s (Stop b kept) h told = node_goes s b (stopped_node (s.nodes b) kept) h ((all_nodes_survive shape s.nodes h.nodes b).stop kept)
  step_goes s (StopMeta place kept) h told = stops_meta_goes s place kept (slice_get s.letters place) h
  step_goes s (Faint place) h told = faint_goes s place (slice_get s.letters place) h
  step_goes s (Kill b) h told = node_goes s b (killed_node (s.nodes b)) h (all_nodes_survive shape s.nodes h.nodes b).kill
  step_goes s KillMeta h told = stays s (without_meta s) refl refl h
  step_goes s (Rise b) h told = node_goes s b (risen_node (s.nodes b) (s.nodes b).mode) h (all_nodes_survive shape s.nodes h.nodes b).rise
  step_goes s RiseMeta h told = stays s _ refl refl h
  step_goes s (Loosen b other) h told =
      node_goes s b (loosened_node (s.nodes b) (s.nodes b).mode other) h ((all_nodes_survive shape s.nodes h.nodes b).loosen other)
  step_goes s (Lose b) h told = node_goes s b (lost_node (s.nodes b)) h (all_nodes_survive shape s.nodes h.nodes b).lose
  step_goes s (Shows e) h told = stays s s refl refl h

  -- all atomic steps in a row
  run_goes : (s : State) (xs : List Atom) → StateHolds shape s → AllTell shape s xs → Goes s (after s xs)
  unfolding after AllTell
  run_goes s [] h told = stays s s refl refl h
  run_goes s (a ∷ xs) h told =
      let first : Goes s (atom s a).state = step_goes s a h told.0 in
      let later : Goes (atom s a).state (after (atom s a).state xs) = run_goes (atom s a).state xs first.holds told.1 in
      record {
        grows = growth_lasts.twice s.nodes (atom s a).state.nodes (after (atom s a).state xs).nodes first.grows later.grows;
        holds = later.holds;
      }

  -- before a setup
  blank_holds : StateHolds shape blank
  blank_holds = record { nodes = nodes_begin.made shape; each = tt }

  -- what a letter of a bookie promises
  told_there : (s : State) (place b c : ℕ) (l : Letter) → StateHolds shape s → slice_get s.letters place ≡ Some l → l.from ≡ AtBookie b
      → l.to ≡ Client c → AnswerHolds shape s.nodes b l.msg
  told_there s place b c l h there from to =
      subst₂ (λ (x y : Address). PostHolds shape s.nodes x y l.msg) to from
      (subst (AllSome (LetterHolds shape s.nodes)) there (all-get (LetterHolds shape s.nodes) s.letters place h.each))

-- each atomic step keeps
pub steps_keep : StepsKeep
steps_keep shape s a h told = step_goes shape s a h told

-- so do all in a row
pub runs_keep : RunsKeep
runs_keep = record { begun = blank_holds; reached = run_goes }

-- fences last
pub fences_last_in_runs : FencesLastInRuns
fences_last_in_runs shape xs told = record {
  told = λ place b c ledger l there from to w.
      (all_fences_last shape (after blank xs).nodes).told b ledger l.msg (told_there shape (after blank xs) place b c l holds there from to) w;
  behind = λ b. (holds.nodes b).items.fences_last;
}
  where
    holds : StateHolds shape (after blank xs)
    holds = (run_goes shape blank xs (blank_holds shape) told).holds
