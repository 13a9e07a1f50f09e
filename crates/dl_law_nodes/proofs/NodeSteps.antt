-- Each step of a storage node: it keeps its promises, and so do all nodes as it goes on.
use Rattle.std.proofs.Common.{◌≡◌, ℕ, Bool, true, false, not, ◌==◌, List, [], ◌∷◌, ◌++◌, map, Option, Some, None, refl, sym, ap, ◌∙◌, subst, option_to_list}
use Rattle.std.proofs.Common.{append-nil, append_assoc}
use Rattle.std.specs.List.{list_any, AllByRecursion}
use Rattle.std.specs.Prelude.{IfSome}
use Rattle.std.proofs.lemmas.Bool.{true≢false, cond-true, eq-eqb, cond_both}
use Rattle.dl_msg.specs.declared.msg.Msg.{Msg}
use Rattle.dl_msg.specs.declared.msg.Msg.TheVariants as msg
use Rattle.dl_rules_nodes.specs.Items.{Item, is_add, is_entry, is_fence}
use Rattle.dl_rules_nodes.specs.Bookies.{Bookie, Waiting, Reply, Taken, Looks, Answers, Queues, durable, items_of, queued_items, all_items, table_row, waits, after}
use Rattle.dl_rules_nodes.specs.Bookies.{told_after, replies_of, after_commit, after_stop}
use Rattle.dl_rules_nodes.proofs.BookieLaws.{durable_items_only_grow}
use Rattle.dl_rules_client.proofs.RangeLists.{all-append, all-last}
use Rattle.dl_machine.specs.States.{Node, Mode, Up, Down, Lost, is_up, new_node, loaded_node}
use Rattle.dl_machine.specs.Atoms.{stopped_node, killed_node, risen_node, swapped_node, loosened_node, lost_node}
use Rattle.dl_machine.proofs.Movements.{put_each}
use Rattle.dl_law_nodes.specs.Disks.{Nodes, disk_has, Grows}
use Rattle.dl_law_nodes.specs.Promises.{Shapes, FencedIf, AnswerHolds, ItemHolds, ReplyHolds, ItemsHold, OtherHolds, NodeHolds, AllHold}
use Rattle.dl_law_nodes.specs.Laws.{with_bookie, with_node, GoesOn, NodesBegin, MessagesAreTaken, CommitsKeep, AllNodesSurvive}
use Rattle.dl_law_nodes.proofs.Items.{any_left, all_front, all_weaker, fences_front, fences_with}
use Rattle.dl_law_nodes.proofs.Growth.{NodeGrows, grows_with, queued-waits, taken_grows, commit_queue, commit_items, commit_grows, stop_grows, gone_grows, kill_grows}
use Rattle.dl_law_nodes.proofs.Growth.{rise_grows, OtherIsIdle, loosen_grows}
use Rattle.dl_law_nodes.proofs.Survival.{node_lasts, items_last}
use Rattle.dl_law_nodes.proofs.Tables.{QueueHolds, RowHolds, disk_alone, greatest_stored, table_holds, answer_now_holds, row_may}

-- the items of a node with one reply more
all-waits : (b : Bookie) (w : Waiting) → all_items (waits b w) ≡ all_items b ++ option_to_list w.item
all-waits b w = ap (λ (xs : List Item). durable b ++ xs) (queued-waits b w) ∙ sym (append_assoc (durable b) (queued_items b) (option_to_list w.item))

-- a reply that waits keeps its promise as items are added
reply_more : (items more : List Item) (x : Msg) → ReplyHolds items x → ReplyHolds (items ++ more) x
reply_more items more (msg.AddOk l e) h = any_left (is_add l e) items more h
reply_more items more (msg.AddFenced l e) h = any_left (is_fence l) items more h
reply_more items more (msg.CopyOk t l e) h = any_left (is_entry l e) items more h
reply_more items more (msg.LacIs t l f n) h = any_left (is_fence l) items more h
reply_more items more _ h = absurd h

-- a node with a queue that is empty has its durable items alone
idle_items : (b : Bookie) → b.queue ≡ [] → all_items b ≡ durable b
idle_items b idle = ap (λ (queue : List Waiting). durable b ++ items_of queue) idle ∙ append-nil (durable b)

-- the items of a node after a stop
stop_kept : (b : Bookie) → all_items (after_stop b true) ≡ all_items b
stop_kept b = append-nil (durable (after_stop b true)) ∙ (durable_items_only_grow b).stop true

module _ (shape : Shapes) (k : Nodes) where
  -- ---- items

  -- the first of items in a row
  items_front : (xs ys : List Item) → ItemsHold shape k (xs ++ ys) → ItemsHold shape k xs
  items_front xs ys h = record { each = all_front (ItemHolds shape k) xs ys h.each; fences_last = fences_front xs ys h.fences_last }

  -- the durable items of a node
  durable_hold : (b : Bookie) → ItemsHold shape k (all_items b) → ItemsHold shape k (durable b)
  durable_hold b h = items_front (durable b) (queued_items b) h

  -- the durable items of a node after a stop
  stopped_hold : (b : Bookie) (kept : Bool) → ItemsHold shape k (all_items b) → ItemsHold shape k (durable (after_stop b kept))
  stopped_hold b true h = subst (ItemsHold shape k) (sym ((durable_items_only_grow b).stop true)) h
  stopped_hold b false h = durable_hold b h

  -- a node in which nothing waits
  quiet_holds : (n : Node) → n.bookie.queue ≡ [] → ItemsHold shape k (durable n.bookie) → IfSome n.other (OtherHolds shape k)
      → (is_up n.mode ≡ true → n.other ≡ None) → NodeHolds shape k n
  quiet_holds n idle items other settled = record {
    items = subst (ItemsHold shape k) (sym (idle_items n.bookie idle)) items;
    waiting = subst (AllByRecursion (λ (w : Waiting). ReplyHolds (all_items n.bookie) w.reply)) (sym idle) tt;
    other = other;
    settled = settled;
    idle = λ _. idle;
  }

  -- ---- messages

  -- a reply more waits
  waits_hold : (n : Node) (w : Waiting) → is_up n.mode ≡ true → NodeHolds shape k n → QueueHolds shape k (all_items n.bookie) w.reply w.item
      → NodeHolds shape k (with_bookie n (waits n.bookie w))
  waits_hold n w up h q = record {
    items = subst (ItemsHold shape k) (sym (all-waits n.bookie w)) (record {
      each = all-append (ItemHolds shape k) (all_items n.bookie) (option_to_list w.item) h.items.each q.item_holds;
      fences_last = fences_with (all_items n.bookie) w.item h.items.fences_last q.may;
    });
    waiting = subst (λ items. AllByRecursion (λ (x : Waiting). ReplyHolds items x.reply) (n.bookie.queue ++ w ∷ [])) (sym (all-waits n.bookie w))
        (all-last (λ (x : Waiting). ReplyHolds (all_items n.bookie ++ option_to_list w.item) x.reply) n.bookie.queue w
        (all_weaker (λ (x : Waiting). ReplyHolds (all_items n.bookie) x.reply)
        (λ (x : Waiting). ReplyHolds (all_items n.bookie ++ option_to_list w.item) x.reply)
        (λ (x : Waiting). reply_more (all_items n.bookie) (option_to_list w.item) x.reply) n.bookie.queue h.waiting)
        q.reply_holds);
    other = h.other;
    settled = h.settled;
    idle = λ e. absurd (true≢false (sym up ∙ e));
  }

  -- a message is taken
  taken_holds : (b client session : ℕ) (m : Msg) (row : Taken) → is_up (k b).mode ≡ true → NodeHolds shape k (k b) → RowHolds shape k b m row
      → NodeHolds shape k (with_bookie (k b) (after (k b).bookie client session row))
  taken_holds b client session m Looks up h r = h
  taken_holds b client session m (Answers reply) up h r = h
  taken_holds b client session m (Queues reply item) up h r =
      waits_hold (k b) (record { client = client; session = session; reply = reply; item = item }) up h r

  -- ---- what befalls a node

  -- a commit
  commit_holds : (n : Node) → NodeHolds shape k n → NodeHolds shape k (with_bookie n (after_commit n.bookie))
  commit_holds n h =
      quiet_holds (with_bookie n (after_commit n.bookie)) (commit_queue n.bookie)
      (subst (ItemsHold shape k) (sym (commit_items n.bookie)) h.items) h.other h.settled

  -- a stop inside a commit
  stop_holds : (n : Node) (kept : Bool) → NodeHolds shape k n → NodeHolds shape k (stopped_node n kept)
  stop_holds n kept h =
      cond_both (is_up n.mode) (record { bookie = after_stop n.bookie kept; mode = Down; other = Some (after_stop n.bookie (not kept)) }) n (NodeHolds shape k)
      (λ _. quiet_holds (record { bookie = after_stop n.bookie kept; mode = Down; other = Some (after_stop n.bookie (not kept)) }) refl
      (stopped_hold n.bookie kept h.items) (record { items = stopped_hold n.bookie (not kept) h.items; idle = refl }) (λ e. absurd (true≢false (sym e))))
      (λ _. h)

  -- the end of a process, and the loss of a disk
  gone_holds : (n : Node) (mode : Mode) → is_up mode ≡ false → NodeHolds shape k n
      → NodeHolds shape k (record n { bookie = after_stop n.bookie false; mode = mode })
  gone_holds n mode down h =
      quiet_holds (record n { bookie = after_stop n.bookie false; mode = mode }) refl (durable_hold n.bookie h.items) h.other
      (λ e. absurd (true≢false (sym e ∙ down)))

  -- the end of a process
  kill_holds : (n : Node) → NodeHolds shape k n → NodeHolds shape k (killed_node n)
  kill_holds n h =
      cond_both (is_up n.mode) (record n { bookie = after_stop n.bookie false; mode = Down }) n (NodeHolds shape k) (λ _. gone_holds n Down refl h) (λ _. h)

  -- a load
  rise_holds : (n : Node) (mode : Mode) → NodeHolds shape k n → NodeHolds shape k (risen_node n mode)
  rise_holds n Up h = h
  rise_holds n Down h = record { items = h.items; waiting = h.waiting; other = tt; settled = λ _. refl; idle = λ e. absurd (true≢false e) }
  rise_holds n Lost h = h

  -- the other list of a disk that holds one
  swap_holds : (n : Node) (other : Option Bookie) → n.other ≡ other → is_up n.mode ≡ false → NodeHolds shape k n → NodeHolds shape k (swapped_node n other)
  swap_holds n None w down h = h
  swap_holds n (Some b) w down h =
      quiet_holds (record n { bookie = b; other = Some n.bookie }) there.idle there.items
      (record { items = durable_hold n.bookie h.items; idle = h.idle down }) (λ e. absurd (true≢false (sym e ∙ down)))
    where
      there : OtherHolds shape k b
      there = subst (λ (o : Option Bookie). IfSome o (OtherHolds shape k)) w h.other

  -- a load that fails
  loosen_holds : (n : Node) (mode : Mode) (other : Bool) → n.mode ≡ mode → NodeHolds shape k n → NodeHolds shape k (loosened_node n mode other)
  loosen_holds n Up other w h = h
  loosen_holds n Down true w h = swap_holds n n.other refl (ap is_up w) h
  loosen_holds n Down false w h = h
  loosen_holds n Lost other w h = h

  -- no reply waits for the other list
  other_idle : (other : Option Bookie) → IfSome other (OtherHolds shape k) → OtherIsIdle other
  other_idle None h = tt
  other_idle (Some b) h = h.idle

  -- ---- among other nodes

  -- a node that goes on as one that keeps its promises
  goes_on : (b : ℕ) (n : Node) → AllHold shape k → NodeGrows (k b) n → NodeHolds shape k n → GoesOn shape k b n
  goes_on b n all g h = record {
    grows = grows;
    each = put_each k b n (λ j m. NodeHolds shape (with_node k b n) m) (node_lasts shape k (with_node k b n) grows n h)
        (λ j. node_lasts shape k (with_node k b n) grows (k j) (all j));
  }
    where
      grows : Grows k (with_node k b n)
      grows = grows_with k b n g

-- messages are taken
pub messages_are_taken : MessagesAreTaken
messages_are_taken shape k all b client session m up a = record {
  goes = goes_on shape k b _ all (taken_grows (k b) client session row (row_may shape k b m row r)) (taken_holds shape k b client session m row up (all b) r);
  answer = answer_now_holds shape k b m row r;
}
  where
    row : Taken
    row = table_row (k b).bookie m

    r : RowHolds shape k b m row
    r = table_holds shape k b (all b) ((all b).settled up) m a

-- whatever befalls a node
pub all_nodes_survive : AllNodesSurvive
all_nodes_survive shape k all b = record {
  stop = λ kept. goes_on shape k b (stopped_node (k b) kept) all (stop_grows (k b) kept) (stop_holds shape k (k b) kept (all b));
  kill = goes_on shape k b (killed_node (k b)) all (kill_grows (k b)) (kill_holds shape k (k b) (all b));
  rise = goes_on shape k b (risen_node (k b) (k b).mode) all (rise_grows (k b) (k b).mode) (rise_holds shape k (k b) (k b).mode (all b));
  loosen = λ other.
      goes_on shape k b (loosened_node (k b) (k b).mode other) all
      (loosen_grows (k b) (k b).mode other (other_idle shape k (k b).other (all b).other)) (loosen_holds shape k (k b) (k b).mode other refl (all b));
  lose = goes_on shape k b (lost_node (k b)) all (gone_grows (k b) Lost) (gone_holds shape k (k b) Lost refl (all b));
}

-- ---- commits

-- the node after its commit, among the others
committed_there : (k : Nodes) (b : ℕ) (n : Node) → with_node k b n b ≡ n
committed_there k b n = cond-true (b == b) n (k b) (eq-eqb b b refl)

-- a node after its commit
abbrev committed : Node → Node
committed n = with_bookie n (after_commit n.bookie)

-- the nodes after the commit of one
abbrev committed_at : Nodes → ℕ → Nodes
committed_at k b = with_node k b (committed (k b))

-- an item of a node that commits is on its disk
committed_has : (k : Nodes) (b : ℕ) (p : Item → Bool) → (k b).other ≡ None → list_any p (all_items (k b).bookie) ≡ true
    → disk_has p (committed_at k b b) ≡ true
committed_has k b p alone h =
    subst (λ n. disk_has p n ≡ true) (sym (committed_there k b (committed (k b))))
    (disk_alone (list_any p) (committed (k b)) alone (ap (list_any p) (commit_items (k b).bookie) ∙ h))

module _ (shape : Shapes) (k : Nodes) (b : ℕ) (alone : (k b).other ≡ None) where
  -- a fence that is told
  fence_leaves : (l : ℕ) (f : Bool) → list_any (is_fence l) (all_items (k b).bookie) ≡ true → FencedIf f (committed_at k b) l b
  fence_leaves l true h = committed_has k b (is_fence l) alone h
  fence_leaves l false h = tt

  -- a reply that leaves
  reply_leaves : ItemsHold shape (committed_at k b) (all_items (k b).bookie) → (x : Msg) → ReplyHolds (all_items (k b).bookie) x
      → AnswerHolds shape (committed_at k b) b (told_after (all_items (k b).bookie) x)
  reply_leaves items (msg.AddOk l e) h = committed_has k b (is_add l e) alone h
  reply_leaves items (msg.AddFenced l e) h = committed_has k b (is_fence l) alone h
  reply_leaves items (msg.CopyOk t l e) h = committed_has k b (is_entry l e) alone h
  reply_leaves items (msg.LacIs t l f n) h = (fence_leaves l f h, greatest_stored shape (committed_at k b) l (all_items (k b).bookie) items.each)
  reply_leaves items _ h = absurd h

  -- replies that leave
  replies_leave : ItemsHold shape (committed_at k b) (all_items (k b).bookie) → (queue : List Waiting)
      → AllByRecursion (λ (w : Waiting). ReplyHolds (all_items (k b).bookie) w.reply) queue
      → AllByRecursion (λ (r : Reply). AnswerHolds shape (committed_at k b) b r.msg)
      (map (λ (w : Waiting). record { client = w.client; session = w.session; msg = told_after (all_items (k b).bookie) w.reply }) queue)
  replies_leave items [] h = tt
  replies_leave items (w ∷ queue) h = (reply_leaves items w.reply h.0, replies_leave items queue h.1)

-- no reply leaves a node that isn't up
no_replies : (shape : Shapes) (m : Nodes) (b : ℕ) (k : Bookie) → k.queue ≡ [] → AllByRecursion (λ (r : Reply). AnswerHolds shape m b r.msg) (replies_of k)
no_replies shape m b k idle =
    subst (λ (queue : List Waiting). AllByRecursion (λ (r : Reply). AnswerHolds shape m b r.msg)
    (map (λ (w : Waiting). record { client = w.client; session = w.session; msg = told_after (all_items k) w.reply }) queue)) (sym idle) tt

-- commits keep
pub commits_keep : CommitsKeep
commits_keep shape k all b = record { goes = goes; replies = leave (is_up (k b).mode) refl }
  where
    goes : GoesOn shape k b (committed (k b))
    goes = goes_on shape k b (committed (k b)) all (commit_grows (k b)) (commit_holds shape k (k b) (all b))

    items : ItemsHold shape (committed_at k b) (all_items (k b).bookie)
    items = items_last shape k (committed_at k b) goes.grows (all_items (k b).bookie) (all b).items

    leave : (up : Bool) → is_up (k b).mode ≡ up
        → AllByRecursion (λ (r : Reply). AnswerHolds shape (committed_at k b) b r.msg) (replies_of (k b).bookie)
    leave true up = replies_leave shape k b ((all b).settled up) items (k b).bookie.queue (all b).waiting
    leave false down =
        no_replies shape (committed_at k b) b (k b).bookie ((all b).idle down)

-- ---- nodes to begin with

-- no items hold
no_items : (shape : Shapes) (k : Nodes) → ItemsHold shape k []
no_items shape k = record { each = tt; fences_last = tt }

-- nodes begin
pub nodes_begin : NodesBegin
nodes_begin = record {
  made = λ shape b. quiet_holds shape (λ b. new_node) new_node refl (no_items shape (λ b. new_node)) tt (λ _. refl);
  lost = λ shape k. quiet_holds shape k (loaded_node None) refl (no_items shape k) tt (λ _. refl);
  loaded = λ shape k b idle items. quiet_holds shape k (loaded_node (Some b)) idle items tt (λ _. refl);
}
