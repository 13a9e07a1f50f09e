-- What the parts of an atomic step leave as it was: letters, what was delivered, the items of the metadata node, and the durable
-- items of storage nodes.
use Rattle.std.proofs.Common.{◌≡◌, ℕ, ◌+◌, Bool, true, false, cond, ◌==◌, List, [], ◌∷◌, ◌++◌, Option, Some, None, refl, sym, ap, ◌∙◌, subst, inl, inr}
use Rattle.std.proofs.Common.{eqb-true, append-nil}
use Rattle.std.proofs.lemmas.List.{append_assoc}
use Rattle.dl_types.specs.declared.address.Address.{Address}
use Rattle.dl_types.specs.declared.address.Address.TheVariants.{Client, Bookie as AtBookie, Meta as AtMeta}
use Rattle.dl_types.specs.declared.meta_answer.MetaAnswer.{MetaAnswer}
use Rattle.dl_types.specs.declared.meta_op.MetaOp.{MetaOp}
use Rattle.dl_types.specs.declared.one_op.OneOp.{OneOp}
use Rattle.dl_tree.specs.Trees.{Nodes}
use Rattle.dl_msg.specs.declared.letter.Letter.{Letter}
use Rattle.dl_msg.specs.declared.msg.Msg.{Msg}
use Rattle.dl_session.specs.declared.admit.Admit.{Admit}
use Rattle.dl_session.specs.declared.admit.Admit.TheVariants as admit
use Rattle.dl_formats.specs.declared.conf.Conf.{Conf}
use Rattle.dl_rules_nodes.specs.Bookies.{Bookie, Taken, Looks, Answers, Queues, durable, queued_items, table_row, answer_now, after_commit, after_stop}
use Rattle.dl_rules_nodes.specs.Bookies.{after as taken_bookie}
use Rattle.dl_rules_nodes.specs.Items.{MetaItem, Ask}
use Rattle.dl_rules_nodes.specs.Metadata.{answer_of, reply_of}
use Rattle.dl_rules_nodes.proofs.BookieLaws.{durable_items_only_grow}
use Rattle.dl_rules_client.specs.Acts.{Input, Came, Acts, SentEntry, Confirmation}
use Rattle.dl_rules_client.specs.Clients.{acts_of}
use Rattle.dl_machine.specs.States.{State, Node, Mode, Up, Down, Lost, Joined, Outcome, with_value, with_node, with_client, with_letters, with_meta_item, is_up}
use Rattle.dl_machine.specs.States.{args_of, quietly}
use Rattle.dl_machine.specs.Growth.{Closing, with_sent, confirms, closes, closing_with, shows_op, shows_ops, shows_run, is_done, ops_of}
use Rattle.dl_machine.specs.Atoms.{MetaRequest, meta_in, request_in, admit_in, acts_on, client_takes, with_answer, takes_row, runs, admits, reply_msg}
use Rattle.dl_machine.specs.Atoms.{meta_takes, takes_letter, commits, stopped_node, killed_node, risen_node, swapped_node, loosened_node, lost_node}
use Rattle.dl_machine.specs.Atoms.{faints_at, without_meta, stops_run}
use Rattle.dl_machine.specs.Laws.{Extends, OneItemMore, IsSettled, UpIsSettled}

-- ---- lists and choices

-- a list begins with itself
pub extends_same : {A : Type 0} (xs : List A) → Extends xs xs
extends_same xs = record { more = []; same = sym (append-nil xs) }

-- a list with others behind it begins with it
pub extends_by : {A : Type 0} (xs more : List A) → Extends xs (xs ++ more)
extends_by xs more = record { more = more; same = refl }

-- a choice keeps what both its sides keep
pub cond_both : {A : Type 0} (P : A → Type 0) (t : Bool) (x y : A) → P x → P y → P (cond t x y)
cond_both P true x y h k = h
cond_both P false x y h k = k

-- a function with another value at one number keeps what the value there and the others keep
pub put_each : {A : Type 0} (f : ℕ → A) (i : ℕ) (x : A) (P : ℕ → A → Type 0) → P i x → ((j : ℕ) → P j (f j)) → (j : ℕ) → P j (with_value f i x j)
put_each f i x P here others j = go (j == i) refl
  where
    go : (t : Bool) → (j == i) ≡ t → P j (cond t x (f j))
    go true w = subst (λ k. P k x) (sym (eqb-true j i w)) here
    go false w = others j

-- ---- storage nodes

-- A storage node after a step: where it was settled, its durable items stay; where it is settled when it is up, it still is.
pub record NodeKeeps (n m : Node) : Type 0 where
  pub grows : IsSettled n → Extends (durable n.bookie) (durable m.bookie)
  pub settled : UpIsSettled n → UpIsSettled m

-- a storage node that stays as it is
pub node_same : (n : Node) → NodeKeeps n n
node_same n = record { grows = λ e. extends_same _; settled = λ h. h }

-- a message changes no durable item
node_taken : (n : Node) (client session : ℕ) (row : Taken) → NodeKeeps n (record n { bookie = taken_bookie n.bookie client session row })
node_taken n client session Looks = node_same n
node_taken n client session (Answers reply) = node_same n
node_taken n client session (Queues reply item) = record { grows = λ e. extends_same _; settled = λ h. h }

-- a commit adds to them
pub node_committed : (n : Node) → NodeKeeps n (record n { bookie = after_commit n.bookie })
node_committed n = record {
  grows = λ e. record { more = queued_items n.bookie; same = (durable_items_only_grow n.bookie).commit };
  settled = λ h. h;
}

-- the list of a node that was stopped
stopped_grows : (k : Bookie) (kept : Bool) → Extends (durable k) (durable (after_stop k kept))
stopped_grows k true = record { more = queued_items k; same = (durable_items_only_grow k).stop true }
stopped_grows k false = extends_same _

-- a storage node that goes down inside a commit
pub node_stopped : (n : Node) (kept : Bool) → NodeKeeps n (stopped_node n kept)
node_stopped n kept =
    cond_both (NodeKeeps n) (is_up n.mode) _ n
    (record { grows = λ e. stopped_grows n.bookie kept; settled = λ h e. absurd cc })
    (node_same n)

-- a storage node that goes down
pub node_killed : (n : Node) → NodeKeeps n (killed_node n)
node_killed n =
    cond_both (NodeKeeps n) (is_up n.mode) _ n
    (record { grows = λ e. stopped_grows n.bookie false; settled = λ h e. absurd cc })
    (node_same n)

-- a node that is loaded is settled
pub node_risen : (n : Node) (m : Mode) → NodeKeeps n (risen_node n m)
node_risen n Up = node_same n
node_risen n Down = record { grows = λ e. extends_same _; settled = λ h e. refl }
node_risen n Lost = node_same n

-- a node whose disk may hold another list is not settled
node_swapped : (n : Node) (other : Option Bookie) → n.other ≡ other → NodeKeeps n (swapped_node n other)
node_swapped n None w = node_same n
node_swapped n (Some b) w = record { grows = λ e. absurd cc; settled = λ h e. absurd (let f = h e in cc) }

-- a storage node whose load fails
pub node_loosened : (n : Node) (m : Mode) (other : Bool) → NodeKeeps n (loosened_node n m other)
node_loosened n Up other = node_same n
node_loosened n Down true = node_swapped n n.other refl
node_loosened n Down false = node_same n
node_loosened n Lost other = node_same n

-- a storage node that loses its disk
pub node_lost : (n : Node) → NodeKeeps n (lost_node n)
node_lost n = record { grows = λ e. stopped_grows n.bookie false; settled = λ h e. absurd cc }

-- ---- states

-- What a step that marks no letter leaves as it was.
pub record Moves (s t : State) : Type 0 where
  pub letters : Extends s.letters t.letters
  pub delivered : t.delivered ≡ s.delivered
  pub items : OneItemMore s.meta.items t.meta.items
  pub nodes : (b : ℕ) → NodeKeeps (s.nodes b) (t.nodes b)

-- a state that stays as it is
pub moves_same : (s : State) → Moves s s
moves_same s = record { letters = extends_same _; delivered = refl; items = inl refl; nodes = λ b. node_same (s.nodes b) }

-- letters more
letters_more : (s t : State) (letters : List Letter) → Moves s t → Moves s (with_letters t letters)
letters_more s t letters m = record {
  letters = record {
    more = m.letters.more ++ letters;
    same = ap (λ (xs : List Letter). xs ++ letters) m.letters.same ∙ append_assoc s.letters m.letters.more letters;
  };
  delivered = m.delivered;
  items = m.items;
  nodes = m.nodes;
}

-- a letter is answered
answer_more : (s t : State) (l : Letter) (reply : Option Msg) → Moves s t → Moves s (with_answer t l reply)
answer_more s t l None m = m
answer_more s t l (Some reply) m = letters_more s t _ m

-- a storage node changes
pub node_moves : (s : State) (b : ℕ) (n : Node) → NodeKeeps (s.nodes b) n → Moves s (with_node s b n)
node_moves s b n k = record {
  letters = extends_same _;
  delivered = refl;
  items = inl refl;
  nodes = put_each s.nodes b n (λ j m. NodeKeeps (s.nodes j) m) k (λ j. node_same (s.nodes j));
}

-- ---- growing changes ledgers alone

-- all but the ledgers of a state is that of another
abbrev pub ButLedgers : State → State → Type 0
ButLedgers s t = t ≡ record s { ledgers = t.ledgers }

-- two changes of ledgers alone are one
pub but_then : (s t u : State) → ButLedgers s t → ButLedgers t u → ButLedgers s u
but_then s t u e f = f ∙ ap (λ (v : State). record v { ledgers = u.ledgers }) e

-- a step, and then a change of ledgers alone
pub moves_but : (s t u : State) → Moves s t → ButLedgers t u → Moves s u
moves_but s t u m e =
    subst (λ v. Moves s v) (sym e) (record { letters = m.letters; delivered = m.delivered; items = m.items; nodes = m.nodes })

-- an entry that was sent changes ledgers alone
pub but_sent : (s : State) (x : Option SentEntry) → ButLedgers s (with_sent s x)
but_sent s None = refl
but_sent s (Some x) = refl

-- so does what a writer confirms
pub but_confirms : (s : State) (x : Option Confirmation) → ButLedgers s (confirms s x).state
but_confirms s None = refl
but_confirms s (Some x) = refl

-- so does a closing
but_closes : (s : State) (x : Option Closing) → ButLedgers s (closes s x).state
but_closes s None = refl
but_closes s (Some x) = refl

-- so do operations that were done
but_ops : (t : Nodes) (ops : List OneOp) (s : State) → ButLedgers s (shows_ops t ops s).state
but_ops t [] s = refl
but_ops t (x ∷ xs) s =
    let now : State = (shows_op t x s).state in
    but_then s now (shows_ops t xs now).state (but_closes s (closing_with t x)) (but_ops t xs now)

-- so does a request that ran
pub but_run : (t : Nodes) (op : MetaOp) (a : MetaAnswer) (s : State) → ButLedgers s (shows_run t op a s).state
but_run t op a s = cond_both (λ (o : Outcome). ButLedgers s o.state) (is_done a) (shows_ops t (ops_of op) s) (quietly s) (but_ops t (ops_of op) s) refl

-- ---- clients

-- a client does something
acts_move : (s : State) (c : ℕ) (me : Joined) (x : Input) (acts : Acts) → Moves s (acts_on s c me x acts).state
acts_move s c me x acts =
    let process : Option Joined = Some (record me { view = x ∷ me.view }) in
    let told : State = record (with_letters (with_client s c process) acts.letters) { calls = with_value s.calls c (s.calls c + acts.taken) } in
    let base : Moves s told = record { letters = extends_by _ _; delivered = refl; items = inl refl; nodes = λ b. node_same (s.nodes b) } in
    moves_but s (with_sent told acts.sent) _
    (moves_but s told (with_sent told acts.sent) base (but_sent told acts.sent))
    (but_confirms (with_sent told acts.sent) acts.confirmed)

-- a client takes something
pub client_moves : (s : State) (c : ℕ) (conf : Option Conf) (me : Option Joined) (x : Input) → Moves s (client_takes s c conf me x).state
client_moves s c (Some conf) (Some me) x = acts_move s c me x (acts_of (args_of conf c me) me.view x)
client_moves s c (Some conf) None x = moves_same s
client_moves s c None me x = moves_same s

-- ---- nodes

-- a storage node takes a message by its row
row_moves : (s : State) (l : Letter) (b c : ℕ) (row : Taken) → Moves s (takes_row s l b c row)
row_moves s l b c row =
    answer_more s _ l (answer_now (s.nodes b).bookie l.msg row) (node_moves s b _ (node_taken (s.nodes b) c l.session row))

-- an item more
pub item_moves : (s t : State) (x : MetaItem) → t.letters ≡ s.letters → t.delivered ≡ s.delivered → t.nodes ≡ s.nodes
    → t.meta.items ≡ x ∷ s.meta.items → Moves s t
item_moves s t x letters delivered nodes items = record {
  letters = subst (λ (ls : List Letter). Extends s.letters ls) (sym letters) (extends_same _);
  delivered = delivered;
  items = inr (x, items);
  nodes = λ b. subst (λ (f : ℕ → Node). NodeKeeps (s.nodes b) (f b)) (sym nodes) (node_same (s.nodes b));
}

-- a request that runs is one item more
pub runs_moves : (s : State) (r : MetaRequest) → Moves s (runs s r).state
runs_moves s r =
    let ask : MetaItem = Ask r.session r.number r.op in
    let asked : State = with_meta_item s ask in
    moves_but s asked _ (item_moves s asked ask refl refl refl refl) (but_run (meta_in s).tree r.op (answer_of (meta_in s) r.session r.op) asked)

-- a request is admitted
admits_moves : (s : State) (r : MetaRequest) (a : Admit) → Moves s (admits s r a).state
admits_moves s r admit.Run = runs_moves s r
admits_moves s r admit.Old = moves_same s
admits_moves s r admit.Expired = moves_same s

-- the metadata node takes a letter
meta_moves : (s : State) (l : Letter) (r : Option MetaRequest) → Moves s (meta_takes s l r).state
meta_moves s l None = moves_same s
meta_moves s l (Some r) =
    answer_more s _ l (reply_msg r (reply_of (meta_in s) r.session r.number r.op)) (admits_moves s r (admit_in s r))

-- a letter is taken
pub taken_moves : (s : State) (l : Letter) (to from : Address) → Moves s (takes_letter s l to from).state
taken_moves s l (AtBookie b) (Client c) = row_moves s l b c (table_row (s.nodes b).bookie l.msg)
taken_moves s l (AtBookie b) (AtBookie d) = moves_same s
taken_moves s l (AtBookie b) AtMeta = moves_same s
taken_moves s l AtMeta from = meta_moves s l (request_in l.msg)
taken_moves s l (Client c) from = client_moves s c s.conf (s.clients c) (Came l)

-- a storage node goes down on a letter
pub faints_moves : (s : State) (to : Address) → Moves s (faints_at s to)
faints_moves s (AtBookie b) = node_moves s b _ (node_killed (s.nodes b))
faints_moves s (Client c) = moves_same s
faints_moves s AtMeta = moves_same s

-- the metadata node goes down
pub without_meta_moves : (s t : State) → Moves s t → Moves s (without_meta t)
without_meta_moves s t m = record { letters = m.letters; delivered = m.delivered; items = m.items; nodes = m.nodes }

-- a commit of a request stops
pub stops_moves : (s : State) (r : MetaRequest) (kept : Bool) → Moves s (stops_run s r kept).state
stops_moves s r true = without_meta_moves s (runs s r).state (runs_moves s r)
stops_moves s r false = without_meta_moves s s (moves_same s)

-- a storage node commits its queue
pub commit_moves : (s : State) (b : ℕ) → Moves s (commits s b)
commit_moves s b = letters_more s _ _ (node_moves s b _ (node_committed (s.nodes b)))
