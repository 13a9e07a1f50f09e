-- What each step of a storage node keeps on its disk.
use Rattle.std.proofs.Common.{◌≡◌, ℕ, Bool, true, false, not, ◌&&◌, List, [], ◌∷◌, ◌++◌, Option, Some, None, refl, ap, ◌∙◌, subst, option_to_list}
use Rattle.std.proofs.Common.{append-nil}
use Rattle.std.specs.List.{list_any}
use Rattle.std.proofs.lemmas.Bool.{and_parts, and_from, not-true, not_from_false}
use Rattle.std.proofs.lemmas.List.Concat.{flat_map-append}
use Rattle.dl_rules_nodes.specs.Items.{Item, is_add, is_entry, is_fence}
use Rattle.dl_rules_nodes.specs.Bookies.{Bookie, Waiting, Taken, Looks, Answers, Queues, durable, items_of, queued_items, all_items, waits, after, after_commit, after_stop}
use Rattle.dl_rules_nodes.proofs.BookieLaws.{durable_items_only_grow}
use Rattle.dl_machine.specs.States.{Node, Mode, Up, Down, Lost, is_up}
use Rattle.dl_machine.specs.Atoms.{stopped_node, killed_node, risen_node, swapped_node, loosened_node}
use Rattle.dl_machine.proofs.Movements.{cond_both, put_each}
use Rattle.dl_law_nodes.specs.Disks.{Nodes, other_passes, disk_passes, disk_has, lacks_add, adds_nowhere, denies, Grows}
use Rattle.dl_law_nodes.specs.Laws.{with_bookie, with_node, GrowthLasts}
use Rattle.dl_law_nodes.proofs.Items.{any_left, any_none, MayWait, waits_apart}

-- What a storage node keeps as it goes on as another one: items on its disk, and that an entry of a fenced ledger is added nowhere.
pub record NodeGrows (n m : Node) : Type 0 where
  pub has : (p : Item → Bool) → disk_has p n ≡ true → disk_has p m ≡ true
  pub lacks : (l e : ℕ) → disk_has (is_fence l) n ≡ true → adds_nowhere l e n ≡ true → adds_nowhere l e m ≡ true

-- among other nodes
pub grows_with : (k : Nodes) (b : ℕ) (n : Node) → NodeGrows (k b) n → Grows k (with_node k b n)
grows_with k b n g = record {
  stored = λ l e. each (is_add l e);
  held = λ l e. each (is_entry l e);
  fenced = λ l. each (is_fence l);
  denied = λ l e.
      put_each k b n (λ j m. denies k l e j ≡ true → (disk_has (is_fence l) m && adds_nowhere l e m) ≡ true)
      (λ h. let d = and_parts (disk_has (is_fence l) (k b)) (adds_nowhere l e (k b)) h in and_from _ _ (g.has (is_fence l) d.0) (g.lacks l e d.0 d.1))
      (λ j h. h);
}
  where
    each : (p : Item → Bool) (j : ℕ) → disk_has p (k j) ≡ true → disk_has p (with_node k b n j) ≡ true
    each p = put_each k b n (λ j m. disk_has p (k j) ≡ true → disk_has p m ≡ true) (g.has p) (λ j h. h)

-- nodes that stay, and nodes that go on twice
pub growth_lasts : GrowthLasts
growth_lasts = record {
  same = λ k. record { stored = λ l e b h. h; held = λ l e b h. h; fenced = λ l b h. h; denied = λ l e b h. h };
  twice = λ k m n g f. record {
    stored = λ l e b h. f.stored l e b (g.stored l e b h);
    held = λ l e b h. f.held l e b (g.held l e b h);
    fenced = λ l b h. f.fenced l b (g.fenced l b h);
    denied = λ l e b h. f.denied l e b (g.denied l e b h);
  };
}

-- ---- messages

-- a node that stays as it is
pub same_grows : (n : Node) → NodeGrows n n
same_grows n = record { has = λ p h. h; lacks = λ l e f h. h }

-- the queued items with one reply more
pub queued-waits : (b : Bookie) (w : Waiting) → queued_items (waits b w) ≡ queued_items b ++ option_to_list w.item
queued-waits b w =
    flat_map-append (λ (x : Waiting). option_to_list x.item) b.queue (w ∷ []) ∙ ap (λ (xs : List Item). queued_items b ++ xs) (append-nil (option_to_list w.item))

-- no item of two lists adds an entry
lacks_both : (l e : ℕ) (xs ys : List Item) → lacks_add l e xs ≡ true → lacks_add l e ys ≡ true → lacks_add l e (xs ++ ys) ≡ true
lacks_both l e xs ys a b = not_from_false _ (any_none (is_add l e) xs ys (not-true _ a) (not-true _ b))

-- a reply more waits, with an item that may wait
waits_grows : (n : Node) (w : Waiting) → MayWait (all_items n.bookie) w.item → NodeGrows n (with_bookie n (waits n.bookie w))
waits_grows n w may = record {
  has = λ p h. h;
  lacks = λ l e f h.
      let d = and_parts (disk_passes (lacks_add l e) n) (lacks_add l e (queued_items n.bookie)) h in
      let fence = any_left (is_fence l) (durable n.bookie) (queued_items n.bookie) (and_parts (list_any (is_fence l) (durable n.bookie)) _ f).0 in
      and_from _ _ d.0
      (ap (lacks_add l e) (queued-waits n.bookie w)
      ∙ lacks_both l e (queued_items n.bookie) (option_to_list w.item) d.1 (not_from_false _ (waits_apart l e (all_items n.bookie) w.item fence may)));
}

-- a row of the table that may be taken: an item that waits may follow those that are there
abbrev pub MayTake : List Item → Taken → Type 0
MayTake items Looks = Unit {0}
MayTake items (Answers reply) = Unit {0}
MayTake items (Queues reply item) = MayWait items item

-- a message
pub taken_grows : (n : Node) (client session : ℕ) (row : Taken) → MayTake (all_items n.bookie) row
    → NodeGrows n (with_bookie n (after n.bookie client session row))
taken_grows n client session Looks may = same_grows n
taken_grows n client session (Answers reply) may = same_grows n
taken_grows n client session (Queues reply item) may =
    waits_grows n (record { client = client; session = session; reply = reply; item = item }) may

-- ---- commits and stops

-- what is durable after a commit
pub commit_items : (b : Bookie) → durable (after_commit b) ≡ durable b ++ queued_items b
commit_items b = (durable_items_only_grow b).commit

-- what is queued after a commit
pub commit_queue : (b : Bookie) → (after_commit b).queue ≡ []
unfolding after_commit
commit_queue b = refl

-- a commit
pub commit_grows : (n : Node) → NodeGrows n (with_bookie n (after_commit n.bookie))
commit_grows n = record {
  has = λ p h.
      let d = and_parts (list_any p (durable n.bookie)) _ h in
      and_from _ _ (ap (list_any p) (commit_items n.bookie) ∙ any_left p (durable n.bookie) (queued_items n.bookie) d.0) d.1;
  lacks = λ l e f h.
      let d = and_parts (disk_passes (lacks_add l e) n) (lacks_add l e (queued_items n.bookie)) h in
      let disk = and_parts (lacks_add l e (durable n.bookie)) _ d.0 in
      and_from _ _ (and_from _ _ (ap (lacks_add l e) (commit_items n.bookie) ∙ lacks_both l e (durable n.bookie) (queued_items n.bookie) disk.0 d.1) disk.1)
      (ap (λ (queue : List Waiting). lacks_add l e (items_of queue)) (commit_queue n.bookie));
}

-- what is durable stays so in a commit that was stopped
stop_has : (p : Item → Bool) (b : Bookie) (kept : Bool) → list_any p (durable b) ≡ true → list_any p (durable (after_stop b kept)) ≡ true
stop_has p b true h = ap (list_any p) ((durable_items_only_grow b).stop true) ∙ any_left p (durable b) (queued_items b) h
stop_has p b false h = h

-- an entry that is added nowhere is not added by it
stop_lacks : (l e : ℕ) (b : Bookie) (kept : Bool) → lacks_add l e (durable b) ≡ true → lacks_add l e (queued_items b) ≡ true
    → lacks_add l e (durable (after_stop b kept)) ≡ true
stop_lacks l e b true h q = ap (lacks_add l e) ((durable_items_only_grow b).stop true) ∙ lacks_both l e (durable b) (queued_items b) h q
stop_lacks l e b false h q = h

-- a stop inside a commit
pub stop_grows : (n : Node) (kept : Bool) → NodeGrows n (stopped_node n kept)
stop_grows n kept = cond_both (NodeGrows n) (is_up n.mode) (record { bookie = after_stop n.bookie kept; mode = Down; other = Some (after_stop n.bookie (not kept)) }) n
    (record {
      has = λ p h. let d = and_parts (list_any p (durable n.bookie)) _ h in and_from _ _ (stop_has p n.bookie kept d.0) (stop_has p n.bookie (not kept) d.0);
      lacks = λ l e f h.
          let d = and_parts (disk_passes (lacks_add l e) n) (lacks_add l e (queued_items n.bookie)) h in
          let disk = and_parts (lacks_add l e (durable n.bookie)) _ d.0 in
          and_from _ _ (and_from _ _ (stop_lacks l e n.bookie kept disk.0 d.1) (stop_lacks l e n.bookie (not kept) disk.0 d.1)) refl;
    })
    (same_grows n)

-- the end of a process, and the loss of a disk: what waits is gone
pub gone_grows : (n : Node) (mode : Mode) → NodeGrows n (record n { bookie = after_stop n.bookie false; mode = mode })
gone_grows n mode = record {
  has = λ p h. h;
  lacks = λ l e f h. and_from _ _ (and_parts (disk_passes (lacks_add l e) n) (lacks_add l e (queued_items n.bookie)) h).0 refl;
}

-- the end of a process
pub kill_grows : (n : Node) → NodeGrows n (killed_node n)
kill_grows n = cond_both (NodeGrows n) (is_up n.mode) (record n { bookie = after_stop n.bookie false; mode = Down }) n (gone_grows n Down) (same_grows n)

-- ---- loads

-- a load settles which list the disk holds
pub rise_grows : (n : Node) (mode : Mode) → NodeGrows n (risen_node n mode)
rise_grows n Up = same_grows n
rise_grows n Down = record {
  has = λ p h. and_from _ _ (and_parts (list_any p (durable n.bookie)) _ h).0 refl;
  lacks = λ l e f h.
      let d = and_parts (disk_passes (lacks_add l e) n) (lacks_add l e (queued_items n.bookie)) h in
      and_from _ _ (and_from _ _ (and_parts (lacks_add l e (durable n.bookie)) _ d.0).0 refl) d.1;
}
rise_grows n Lost = same_grows n

-- no reply waits for the other list
abbrev pub OtherIsIdle : Option Bookie → Type 0
OtherIsIdle None = Unit {0}
OtherIsIdle (Some b) = b.queue ≡ []

-- what both lists pass they pass the other way round
swap_passes : (p : List Item → Bool) (n : Node) (b : Bookie) → n.other ≡ Some b → disk_passes p n ≡ true → (p (durable b) && p (durable n.bookie)) ≡ true
swap_passes p n b w h =
    let d = and_parts (p (durable n.bookie)) (other_passes p n.other) h in
    and_from _ _ (subst (λ (o : Option Bookie). other_passes p o ≡ true) w d.1) d.0

-- the disk holds the other list
swap_grows : (n : Node) (other : Option Bookie) → n.other ≡ other → OtherIsIdle other → NodeGrows n (swapped_node n other)
swap_grows n None w idle = same_grows n
swap_grows n (Some b) w idle = record {
  has = λ p h. swap_passes (list_any p) n b w h;
  lacks = λ l e f h.
      let d = and_parts (disk_passes (lacks_add l e) n) (lacks_add l e (queued_items n.bookie)) h in
      and_from _ _ (swap_passes (lacks_add l e) n b w d.0) (ap (λ (queue : List Waiting). lacks_add l e (items_of queue)) idle);
}

-- a load that fails
pub loosen_grows : (n : Node) (mode : Mode) (other : Bool) → OtherIsIdle n.other → NodeGrows n (loosened_node n mode other)
loosen_grows n Up other idle = same_grows n
loosen_grows n Down true idle = swap_grows n n.other refl idle
loosen_grows n Down false idle = same_grows n
loosen_grows n Lost other idle = same_grows n
