-- The durable items of a storage node only grow.
use Rattle.std.proofs.Common.{◌≡◌, ℕ, Bool, true, false, cond, ◌||◌, List, [], ◌∷◌, ◌++◌, flat_map, refl, sym, ap, ◌∙◌}
use Rattle.std.specs.List.{list_any}
use Rattle.std.proofs.lemmas.Grind.{flat_map-append}
use Rattle.std.proofs.lemmas.List.{append-nil}
use Rattle.std.proofs.lemmas.List.Folds.{list_any-append}
use Rattle.dl_rules_nodes.specs.Items.{Item, is_fence}
use Rattle.dl_rules_nodes.specs.Bookies.{Bookie, durable, queued_items, Taken, Looks, Answers, Queues, table_row, after, with_batch, after_commit, after_stop}
use Rattle.dl_rules_nodes.specs.Laws.{DurableItemsOnlyGrow, CommitsMoveItems, FencesStay}

-- the items of batches with one more, where there is an item, are those before and then its own
with_batch_items : (batches : List (List Item)) (items : List Item)
    → flat_map (λ batch. batch) (with_batch batches items) ≡ flat_map (λ batch. batch) batches ++ items
with_batch_items batches [] = sym (append-nil (flat_map (λ batch. batch) batches))
with_batch_items batches (x ∷ xs) =
    flat_map-append (λ (batch : List Item). batch) batches ((x ∷ xs) ∷ [])
    ∙ ap (λ (ys : List Item). flat_map (λ batch. batch) batches ++ ys) (append-nil (x ∷ xs))

-- a message changes no durable item
after_message : (b : Bookie) (client session : ℕ) (t : Taken) → durable (after b client session t) ≡ durable b
after_message b client session Looks = refl
after_message b client session (Answers reply) = refl
after_message b client session (Queues reply item) = refl

-- after a commit the queued items stand behind the durable ones
commit_items : (b : Bookie) → durable (after_commit b) ≡ durable b ++ queued_items b
unfolding after_commit
commit_items b = with_batch_items b.batches (queued_items b)

-- after a commit that was stopped they stand there, or the durable items are as before
stop_items : (b : Bookie) (kept : Bool) → durable (after_stop b kept) ≡ cond kept (durable b ++ queued_items b) (durable b)
stop_items b true = with_batch_items b.batches (queued_items b)
stop_items b false = refl

-- durable items only grow
pub durable_items_only_grow : DurableItemsOnlyGrow
durable_items_only_grow b = record {
  message = λ client session m. after_message b client session (table_row b m);
  commit = commit_items b;
  stop = stop_items b;
}

-- after a commit no item is queued
queue_is_empty : (b : Bookie) → queued_items (after_commit b) ≡ []
unfolding after_commit
queue_is_empty b = refl

-- a commit changes no item that the node has
pub commits_move_items : CommitsMoveItems
commits_move_items b = ap (λ (ys : List Item). durable (after_commit b) ++ ys) (queue_is_empty b) ∙ append-nil (durable (after_commit b)) ∙ commit_items b

-- one of two that is true makes the choice of both true
or_true : (s t : Bool) → s ≡ true → (s || t) ≡ true
or_true true t e = refl
or_true false t e = absurd cc

-- a durable fence is durable after a commit
pub fences_stay : FencesStay
fences_stay b ledger e =
    ap (λ (items : List Item). list_any (is_fence ledger) items) (commit_items b)
    ∙ list_any-append (is_fence ledger) (durable b) (queued_items b) ∙ or_true _ _ e
