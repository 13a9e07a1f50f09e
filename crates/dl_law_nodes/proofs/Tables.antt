-- A storage node's table: what it answers is so, and what it queues keeps its promise.
use Rattle.std.proofs.Common.{◌≡◌, ℕ, Bool, true, false, cond, ◌||◌, ◌==◌, List, [], ◌∷◌, ◌++◌, Option, Some, None, refl, sym, subst}
use Rattle.std.proofs.Common.{find, option_to_list}
use Rattle.std.specs.List.{list_any, AllByRecursion}
use Rattle.std.specs.Prelude.{IfSome}
use Rattle.std.proofs.lemmas.Bool.{eqb-true, eq-eqb, and_from, or_from, or_left, not_from_false, cond_both}
use Rattle.dl_msg.specs.declared.msg.Msg.{Msg}
use Rattle.dl_msg.specs.declared.msg.Msg.TheVariants as msg
use Rattle.dl_msg.specs.declared.resource.Resource.{Resource}
use Rattle.dl_rules_nodes.specs.Items.{Item, AddItem, CopyItem, FenceItem, is_add, is_entry, is_fence, count_in, greatest}
use Rattle.dl_rules_nodes.specs.Bookies.{Bookie, Taken, Looks, Answers, Queues, durable, queued_items, all_items, has_fence, lac_of, add_row, copy_row, fence_row}
use Rattle.dl_rules_nodes.specs.Bookies.{lacking, if_room, with_room, table_row, entry_answer, look_answer, answer_now}
use Rattle.dl_machine.specs.States.{Node}
use Rattle.dl_law_nodes.specs.Disks.{Nodes, other_passes, disk_passes, disk_has, lacks_add, fences}
use Rattle.dl_law_nodes.specs.Promises.{Shapes, Stored, FencedIf, DeniedIf, AskHolds, AnswerHolds, ItemHolds, ReplyHolds, NodeHolds}
use Rattle.dl_law_nodes.proofs.Items.{any_left, any_right, any_none, all_front, MayWait}
use Rattle.dl_law_nodes.proofs.Growth.{MayTake}
use Rattle.dl_law_nodes.proofs.Meetings.{none_waits}
use Rattle.dl_law_nodes.proofs.Tasks.{stored_none, stored_max}

-- What a reply that is to wait promises, behind these items and with an item where it has one.
pub record QueueHolds (shape : Shapes) (k : Nodes) (items : List Item) (reply : Msg) (item : Option Item) : Type 0 where
  pub reply_holds : ReplyHolds (items ++ option_to_list item) reply
  pub item_holds : AllByRecursion (ItemHolds shape k) (option_to_list item)
  pub may : MayWait items item

-- what a row of a bookie's table promises
abbrev pub RowHolds : Shapes → Nodes → ℕ → Msg → Taken → Type 0
RowHolds shape k b m Looks = AnswerHolds shape k b (look_answer (k b).bookie m)
RowHolds shape k b m (Answers reply) = AnswerHolds shape k b reply
RowHolds shape k b m (Queues reply item) = QueueHolds shape k (all_items (k b).bookie) reply item

-- a disk that holds one list alone
pub disk_alone : (p : List Item → Bool) (n : Node) → n.other ≡ None → p (durable n.bookie) ≡ true → disk_passes p n ≡ true
disk_alone p n alone h = and_from _ _ h (subst (λ (o : Option Bookie). other_passes p o ≡ true) (sym alone) refl)

-- an item that isn't found adds no entry
not_found : (l e : ℕ) (items : List Item) → find (is_entry l e) items ≡ None → list_any (is_add l e) items ≡ false
not_found l e [] w = refl
not_found l e (x ∷ xs) w = go (is_entry l e x) refl w (not_found l e xs)
  where
    smaller : (x : Item) → is_entry l e x ≡ false → is_add l e x ≡ false
    smaller (AddItem m f n bytes) h = h
    smaller (CopyItem m f n bytes) h = refl
    smaller (FenceItem m) h = refl

    go : (t : Bool) → is_entry l e x ≡ t → cond t (Some x) (find (is_entry l e) xs) ≡ None
        → (find (is_entry l e) xs ≡ None → list_any (is_add l e) xs ≡ false) → (is_add l e x || list_any (is_add l e) xs) ≡ false
    go true h v rest = absurd (cc)
    go false h v rest = or_from _ _ (smaller x h) (rest v)

module _ (shape : Shapes) (k : Nodes) where
  -- ---- counts

  -- the count that an item carries
  count_stored : (l : ℕ) (x : Item) → ItemHolds shape k x → Stored shape k l (count_in l x)
  count_stored l (AddItem m e n bytes) s =
      cond_both (m == l) n 0 (Stored shape k l) (λ w. subst (λ i. Stored shape k i n) (eqb-true m l w) s) (λ _. stored_none shape k l)
  count_stored l (CopyItem m e n bytes) s =
      cond_both (m == l) n 0 (Stored shape k l) (λ w. subst (λ i. Stored shape k i n) (eqb-true m l w) s) (λ _. stored_none shape k l)
  count_stored l (FenceItem m) s = stored_none shape k l

  -- the greatest count of items
  pub greatest_stored : (l : ℕ) (items : List Item) → AllByRecursion (ItemHolds shape k) items → Stored shape k l (greatest l items)
  greatest_stored l [] h = stored_none shape k l
  greatest_stored l (x ∷ xs) h = stored_max shape k l (count_in l x) (greatest l xs) (count_stored l x h.0) (greatest_stored l xs h.1)

  module _ (b : ℕ) (h : NodeHolds shape k (k b)) (alone : (k b).other ≡ None) where
    -- ---- looks

    -- the fence that is told
    fence_told : (l : ℕ) (f : Bool) → has_fence (k b).bookie l ≡ f → FencedIf f k l b
    fence_told l true w = disk_alone (list_any (is_fence l)) (k b) alone w
    fence_told l false w = tt

    -- the count that is told
    lac_holds : (t l : ℕ) → AnswerHolds shape k b (lac_of (k b).bookie t l)
    lac_holds t l = (
      fence_told l (has_fence (k b).bookie l) refl,
      greatest_stored l (durable (k b).bookie) (all_front (ItemHolds shape k) (durable (k b).bookie) (queued_items (k b).bookie) h.items.each),
    )

    -- a denial
    denial_told : (l e : ℕ) → list_any (is_add l e) (durable (k b).bookie) ≡ false → (f : Bool) → has_fence (k b).bookie l ≡ f → DeniedIf f k l e b
    denial_told l e none false w = tt
    denial_told l e none true w =
        let fence : disk_has (is_fence l) (k b) ≡ true = disk_alone (list_any (is_fence l)) (k b) alone w in
        and_from (fences k l b) _ fence
        (and_from _ _ (disk_alone (lacks_add l e) (k b) alone (not_from_false _ none)) (not_from_false _ (none_waits shape k l e (k b) h fence)))

    -- an entry that was asked for
    entry_told : (t l e : ℕ) (x : Option Item) → find (is_entry l e) (durable (k b).bookie) ≡ x → AnswerHolds shape k b (entry_answer (k b).bookie t l e x)
    entry_told t l e (Some x) w = tt
    entry_told t l e None w = denial_told l e (not_found l e (durable (k b).bookie) w) (has_fence (k b).bookie l) refl

    -- ---- rows

    -- a reply that waits for items that are there
    waits_for : (p : Item → Bool) → list_any p (queued_items (k b).bookie) ≡ true → list_any p (all_items (k b).bookie ++ []) ≡ true
    waits_for p w = any_left p (all_items (k b).bookie) [] (any_right p (durable (k b).bookie) (queued_items (k b).bookie) w)

    -- a reply that waits for its own item
    waits_own : (p : Item → Bool) (x : Item) → p x ≡ true → list_any p (all_items (k b).bookie ++ x ∷ []) ≡ true
    waits_own p x w = any_right p (all_items (k b).bookie) (x ∷ []) (or_left _ _ w)

    module _ (m : Msg) where
      -- an entry of a writer
      add_holds : (l e n : ℕ) (bytes : List ℕ) → Stored shape k l n → RowHolds shape k b m (add_row (k b).bookie l e n bytes)
      add_holds l e n bytes s =
          cond_both (list_any (is_add l e) (durable (k b).bookie)) _ _ (RowHolds shape k b m) (λ w. disk_alone (list_any (is_add l e)) (k b) alone w) (λ _.
          cond_both (has_fence (k b).bookie l) _ _ (RowHolds shape k b m) (λ w. disk_alone (list_any (is_fence l)) (k b) alone w) (λ unfenced.
          cond_both (list_any (is_add l e) (queued_items (k b).bookie)) _ _ (RowHolds shape k b m)
          (λ w. record { reply_holds = waits_for (is_add l e) w; item_holds = tt; may = tt }) (λ _.
          cond_both (list_any (is_fence l) (queued_items (k b).bookie)) _ _ (RowHolds shape k b m)
          (λ w. record { reply_holds = waits_for (is_fence l) w; item_holds = tt; may = tt }) (λ none. record {
            reply_holds = waits_own (is_add l e) (AddItem l e n bytes) (and_from _ _ (eq-eqb l l refl) (eq-eqb e e refl));
            item_holds = (s, tt);
            may = any_none (is_fence l) (durable (k b).bookie) (queued_items (k b).bookie) unfenced none;
          }))))

      -- an entry of a recovery
      copy_holds : (t l e n : ℕ) (bytes : List ℕ) → Stored shape k l n → RowHolds shape k b m (copy_row (k b).bookie t l e n bytes)
      copy_holds t l e n bytes s =
          cond_both (list_any (is_entry l e) (durable (k b).bookie)) _ _ (RowHolds shape k b m) (λ w. disk_alone (list_any (is_entry l e)) (k b) alone w) (λ _.
          cond_both (list_any (is_entry l e) (queued_items (k b).bookie)) _ _ (RowHolds shape k b m)
          (λ w. record { reply_holds = waits_for (is_entry l e) w; item_holds = tt; may = tt }) (λ _. record {
            reply_holds = waits_own (is_entry l e) (CopyItem l e n bytes) (and_from _ _ (eq-eqb l l refl) (eq-eqb e e refl));
            item_holds = (s, tt);
            may = tt;
          }))

      -- a fence
      fence_holds : (t l : ℕ) → RowHolds shape k b m (fence_row (k b).bookie t l)
      fence_holds t l =
          cond_both (has_fence (k b).bookie l) _ _ (RowHolds shape k b m) (λ _. lac_holds t l) (λ _.
          cond_both (list_any (is_fence l) (queued_items (k b).bookie)) _ _ (RowHolds shape k b m)
          (λ w. record { reply_holds = waits_for (is_fence l) w; item_holds = tt; may = tt }) (λ _. record {
            reply_holds = waits_own (is_fence l) (FenceItem l) (eq-eqb l l refl);
            item_holds = (tt, tt);
            may = tt;
          }))

      -- a row with what it lacks, where it lacks something
      if_room_holds : (l : ℕ) (entry : Option ℕ) (reply : Msg) (item : Option Item) (what : Option Resource)
          → RowHolds shape k b m (Queues reply item) → RowHolds shape k b m (if_room l entry reply item what)
      if_room_holds l entry reply item None r = r
      if_room_holds l entry reply item (Some what) r = tt

      -- a row with room
      with_room_holds : (l : ℕ) (entry : Option ℕ) (row : Taken) → RowHolds shape k b m row → RowHolds shape k b m (with_room (k b).bookie l entry row)
      with_room_holds l entry Looks r = r
      with_room_holds l entry (Answers reply) r = r
      with_room_holds l entry (Queues reply item) r = if_room_holds l entry reply item (lacking (k b).bookie l entry item) r

    -- each row of the table
    pub table_holds : (m : Msg) → AskHolds shape k m → RowHolds shape k b m (table_row (k b).bookie m)
    unfolding table_row look_answer
    table_holds (msg.Add l e n bytes) a =
        with_room_holds (msg.Add l e n bytes) l (Some e) (add_row (k b).bookie l e n bytes) (add_holds (msg.Add l e n bytes) l e n bytes a)
    table_holds (msg.Copy t l e n bytes) a =
        with_room_holds (msg.Copy t l e n bytes) l (Some e) (copy_row (k b).bookie t l e n bytes) (copy_holds (msg.Copy t l e n bytes) t l e n bytes a)
    table_holds (msg.AskLac t l true) a =
        with_room_holds (msg.AskLac t l true) l None (fence_row (k b).bookie t l) (fence_holds (msg.AskLac t l true) t l)
    table_holds (msg.AskLac t l false) a = lac_holds t l
    table_holds (msg.AskEntry t l e) a = entry_told t l e (find (is_entry l e) (durable (k b).bookie)) refl
    table_holds _ a = absurd a

  -- the answer that leaves at once
  pub answer_now_holds : (b : ℕ) (m : Msg) (row : Taken) → RowHolds shape k b m row → IfSome (answer_now (k b).bookie m row) (AnswerHolds shape k b)
  answer_now_holds b m Looks r = r
  answer_now_holds b m (Answers reply) r = r
  answer_now_holds b m (Queues reply item) r = tt

  -- a row that keeps its promise may be taken
  pub row_may : (b : ℕ) (m : Msg) (row : Taken) → RowHolds shape k b m row → MayTake (all_items (k b).bookie) row
  row_may b m Looks r = tt
  row_may b m (Answers reply) r = tt
  row_may b m (Queues reply item) r = r.may
