-- A storage node (BookKeeper documentation, "Bookies"): its durable batches and the replies that wait for the next commit; what
-- a message does, and what a commit leaves.
use Rattle.std.specs.Prelude.{ℕ, ◌+◌, ◌-◌, Bool, true, false, if◌then◌else◌, not, ◌&&◌, nat_lt, nat_le, List, [], ◌∷◌, ◌++◌, length, sum_by, Option}
use Rattle.std.specs.Prelude.{Some, None, flat_map, map, option_to_list, find}
use Rattle.std.specs.List.{list_any}
use Rattle.dl_pool.specs.Pools.{pages_of}
use Rattle.dl_msg.specs.declared.msg.Msg.{Msg}
use Rattle.dl_msg.specs.declared.msg.Msg.TheVariants.{Add, Copy, AskLac, AskEntry, AddOk, AddFenced, Full, CopyOk, LacIs, EntryIs, NoEntry}
use Rattle.dl_msg.specs.declared.resource.Resource.{Resource}
use Rattle.dl_msg.specs.declared.resource.Resource.TheVariants.{Pool, Index, Ledgers, Queue, Journal}
use Rattle.dl_rules_nodes.specs.Limits.{pool_pages, most_entries, most_ledgers, most_waiting, room_for_body}
use Rattle.dl_rules_nodes.specs.Items.{Item, AddItem, CopyItem, FenceItem, item_length, items_length, entry_in, is_add, is_entry, is_fence, is_of, greatest}
use Rattle.dl_rules_nodes.specs.Counts.{entries_count, ledgers_count}

-- A reply that waits for a commit, with its item where it has one of its own.
pub record Waiting : Type 0 where
  pub client : ℕ
  pub session : ℕ
  pub reply : Msg
  pub item : Option Item

-- The durable batches of items, the oldest first, of which the first has this number, and the queue of waiting replies.
pub record Bookie : Type 0 where
  pub first : ℕ
  pub batches : List (List Item)
  pub queue : List Waiting

-- a storage node without an item
abbrev pub empty_bookie : Bookie
empty_bookie = record { first = 0; batches = []; queue = [] }

-- the durable items
abbrev pub durable : Bookie → List Item
durable b = flat_map (λ batch. batch) b.batches

-- the items of replies
abbrev pub items_of : List Waiting → List Item
items_of queue = flat_map (λ (w : Waiting). option_to_list w.item) queue

-- the queued items
abbrev pub queued_items : Bookie → List Item
queued_items b = items_of b.queue

-- the durable items, and then the queued ones
abbrev pub all_items : Bookie → List Item
all_items b = durable b ++ queued_items b

-- whether a fence of the ledger is durable
abbrev pub has_fence : Bookie → ℕ → Bool
has_fence b l = list_any (is_fence l) (durable b)

-- ---- the table

-- what a message does: it is answered by a look at the durable list, or at once, or its reply waits, maybe with an item
pub data Taken : Type 0 where
  Looks : Taken
  Answers : (reply : Msg) → Taken
  Queues : (reply : Msg) (item : Option Item) → Taken

-- the greatest count that is known of a ledger
abbrev pub lac_of : Bookie → ℕ → ℕ → Msg
lac_of b tag l = LacIs tag l (has_fence b l) (greatest l (durable b))

-- an entry of a writer: the first row that fits
abbrev pub add_row : Bookie → (ledger entry count : ℕ) → List ℕ → Taken
add_row b l e n bytes =
    if list_any (is_add l e) (durable b) then Answers (AddOk l e)
    else (if has_fence b l then Answers (AddFenced l e)
    else (if list_any (is_add l e) (queued_items b) then Queues (AddOk l e) None
    else (if list_any (is_fence l) (queued_items b) then Queues (AddFenced l e) None
    else Queues (AddOk l e) (Some (AddItem l e n bytes)))))

-- an entry of a recovery, which passes a fence
abbrev pub copy_row : Bookie → (tag ledger entry count : ℕ) → List ℕ → Taken
copy_row b t l e n bytes =
    if list_any (is_entry l e) (durable b) then Answers (CopyOk t l e)
    else (if list_any (is_entry l e) (queued_items b) then Queues (CopyOk t l e) None
    else Queues (CopyOk t l e) (Some (CopyItem l e n bytes)))

-- a fence; the count that is told is that after the batch that the reply waits for
abbrev pub fence_row : Bookie → (tag ledger : ℕ) → Taken
fence_row b t l =
    if has_fence b l then Answers (lac_of b t l)
    else (if list_any (is_fence l) (queued_items b) then Queues (LacIs t l true 0) None
    else Queues (LacIs t l true 0) (Some (FenceItem l)))

-- ---- room

-- the pages of the pool that no queued item needs
abbrev pub spare_pages : Bookie → ℕ
spare_pages b = pool_pages - sum_by (λ x. pages_of (item_length x)) (queued_items b)

-- the pages that an item needs, where there is one
abbrev pub pages_for : Option Item → ℕ
pages_for None = 0
pages_for (Some x) = pages_of (item_length x)

-- where the shut gate of a journal with these batches stands: a batch has its own gate, a number and a length besides
abbrev pub gate_of : List (List Item) → ℕ
gate_of batches = 8 + sum_by (λ batch. 13 + items_length batch) batches

-- the longest body that the journal still takes
abbrev pub journal_spare : Bookie → ℕ
journal_spare b = room_for_body (b.first + length b.batches) (gate_of b.batches)

-- whether a message names an entry that no durable or queued item has
abbrev pub names_new_entry : Bookie → ℕ → Option ℕ → Bool
names_new_entry b l None = false
names_new_entry b l (Some e) = not (list_any (is_entry l e) (all_items b))

-- whether a message names a ledger that no durable or queued item is of
abbrev pub names_new_ledger : Bookie → ℕ → Bool
names_new_ledger b l = not (list_any (is_of l) (all_items b))

-- What there is no room for, of a message that names a ledger and maybe an entry, and whose reply waits with this item: the
-- first of five tests that fails.
unfoldable pub lacking : Bookie → ℕ → Option ℕ → Option Item → Option Resource
lacking b l entry item =
    if nat_lt (spare_pages b) (pages_for item) then Some Pool
    else (if nat_le most_entries (entries_count (all_items b)) && names_new_entry b l entry then Some Index
    else (if nat_le most_ledgers (ledgers_count (all_items b)) && names_new_ledger b l then Some Ledgers
    else (if nat_le most_waiting (length b.queue) then Some Queue
    else (if nat_lt (journal_spare b) (items_length (queued_items b ++ option_to_list item)) then Some Journal
    else None))))

-- the entry that a Full names: 0 for a fence
abbrev pub named_entry : Option ℕ → ℕ
named_entry None = 0
named_entry (Some e) = e

-- a reply waits, unless something lacks
abbrev pub if_room : ℕ → Option ℕ → Msg → Option Item → Option Resource → Taken
if_room l entry reply item None = Queues reply item
if_room l entry reply item (Some what) = Answers (Full what l (named_entry entry))

-- a row that queues is a Full where there is no room
abbrev pub with_room : Bookie → ℕ → Option ℕ → Taken → Taken
with_room b l entry Looks = Looks
with_room b l entry (Answers reply) = Answers reply
with_room b l entry (Queues reply item) = if_room l entry reply item (lacking b l entry item)

-- what a message does
unfoldable pub table_row : Bookie → Msg → Taken
table_row b (Add l e n bytes) = with_room b l (Some e) (add_row b l e n bytes)
table_row b (Copy t l e n bytes) = with_room b l (Some e) (copy_row b t l e n bytes)
table_row b (AskLac t l true) = with_room b l None (fence_row b t l)
table_row b _ = Looks

-- a reply more that waits
abbrev pub waits : Bookie → Waiting → Bookie
waits b w = record b { queue = b.queue ++ w ∷ [] }

-- the node after a message of a client in a session
abbrev pub after : Bookie → (client session : ℕ) → Taken → Bookie
after b client session (Queues reply item) = waits b (record { client = client; session = session; reply = reply; item = item })
after b client session _ = b

-- ---- looks

-- the answer to an asked entry, by the first durable item that has it
abbrev pub entry_answer : Bookie → (tag ledger entry : ℕ) → Option Item → Msg
entry_answer b tag l e (Some x) = EntryIs tag l e (entry_in x)
entry_answer b tag l e None = NoEntry tag l e (has_fence b l)

-- the answer from the durable list
unfoldable pub look_answer : Bookie → Msg → Msg
look_answer b (AskLac t l f) = lac_of b t l
look_answer b (AskEntry t l e) = entry_answer b t l e (find (is_entry l e) (durable b))
look_answer b m = m

-- the answer that leaves at once, where one does
abbrev pub answer_now : Bookie → Msg → Taken → Option Msg
answer_now b m Looks = Some (look_answer b m)
answer_now b m (Answers reply) = Some reply
answer_now b m (Queues reply item) = None

-- ---- commits

-- a count that waits is told after the batch that it waited for
abbrev pub told_after : List Item → Msg → Msg
told_after items (LacIs t l f n) = LacIs t l f (greatest l items)
told_after items m = m

-- A reply, and whom it is for.
pub record Reply : Type 0 where
  pub client : ℕ
  pub session : ℕ
  pub msg : Msg

-- the replies that leave with a commit, in order
abbrev pub replies_of : Bookie → List Reply
replies_of b = map (λ (w : Waiting). record { client = w.client; session = w.session; msg = told_after (all_items b) w.reply }) b.queue

-- one batch more, where there is an item
abbrev pub with_batch : List (List Item) → List Item → List (List Item)
with_batch batches [] = batches
with_batch batches (x ∷ xs) = batches ++ (x ∷ xs) ∷ []

-- the node after a commit
unfoldable pub after_commit : Bookie → Bookie
after_commit b = record b { batches = with_batch b.batches (queued_items b); queue = [] }

-- the node after a commit that was stopped, with its batch or without
abbrev pub after_stop : Bookie → Bool → Bookie
after_stop b kept = record b { batches = if kept then with_batch b.batches (queued_items b) else b.batches; queue = [] }

-- the node after its process ended: what was not durable is gone
abbrev pub without_queue : Bookie → Bookie
without_queue b = after_stop b false
