-- What holds of a storage node, whatever it takes, and of the bytes of the items of both kinds of nodes.
use Rattle.std.specs.Prelude.{◌≡◌, ℕ, Bool, true, cond, List, ◌++◌, length, Ok}
use Rattle.std.specs.List.{AllByRecursion}
use Rattle.dl_msg.specs.declared.msg.Msg.{Msg}
use Rattle.dl_codec.specs.Fields.{IsBytes}
use Rattle.dl_fields.specs.Readers.{Exact}
use Rattle.dl_session.specs.Sessions.{Known}
use Rattle.dl_rules_nodes.specs.Items.{Item, item_bytes, item_length, items_length, body_of, IsItem, MetaItem, meta_item_bytes}
use Rattle.dl_rules_nodes.specs.Bookies.{Bookie, durable, queued_items, all_items, has_fence, table_row, after, after_commit, after_stop}
use Rattle.dl_rules_nodes.specs.Reading.{item_from, items_in}
use Rattle.dl_rules_nodes.specs.Metadata.{MetaNode}
use Rattle.dl_rules_nodes.specs.MetaReading.{meta_item_from}
use Rattle.dl_rules_nodes.specs.MetaOrder.{IsDue, AreInOrder, bodies_of}
use Rattle.dl_rules_nodes.specs.Loads.{loaded_meta}

-- A message changes no durable item; a commit puts the queued items behind them, and so does one that was stopped, or it leaves
-- them as they are.
pub record DurableItemsGrow (b : Bookie) : Type 0 where
  pub message : (client session : ℕ) (m : Msg) → durable (after b client session (table_row b m)) ≡ durable b
  pub commit : durable (after_commit b) ≡ durable b ++ queued_items b
  pub stop : (kept : Bool) → durable (after_stop b kept) ≡ (cond kept (durable b ++ queued_items b) (durable b))

-- the durable items of each node only grow
abbrev pub DurableItemsOnlyGrow : Type 0
DurableItemsOnlyGrow = (b : Bookie) → DurableItemsGrow b

-- a commit moves items, and makes none
abbrev pub CommitsMoveItems : Type 0
CommitsMoveItems = (b : Bookie) → all_items (after_commit b) ≡ all_items b

-- a fence that is durable stays
abbrev pub FencesStay : Type 0
FencesStay = (b : Bookie) (ledger : ℕ) → has_fence b ledger ≡ true → has_fence (after_commit b) ledger ≡ true

-- the lengths of items are those of their bytes
pub record LengthsAreOfBytes : Type 0 where
  pub item : (x : Item) → item_length x ≡ length (item_bytes x)
  pub items : (xs : List Item) → items_length xs ≡ length (body_of xs)

-- items are read exactly
abbrev pub ItemsAreExact : Type 0
ItemsAreExact = Exact IsItem item_bytes item_from

-- The body of a batch is read as its items, and as no others.
pub record BodiesAreExact : Type 0 where
  pub again : (items : List Item) → AllByRecursion IsItem items → items_in (body_of items) ≡ Ok items
  pub found : (body : List ℕ) (items : List Item) → IsBytes body → items_in body ≡ Ok items → AllByRecursion IsItem items × (body ≡ body_of items)

-- items of the metadata node that may come are read exactly
abbrev pub MetaItemsAreExact : Type 0
MetaItemsAreExact = (is_first : Bool) (known : Known) → Exact (IsDue is_first known) meta_item_bytes (meta_item_from is_first known)

-- A metadata node that was loaded: its items are in order, and the bodies are theirs.
pub record IsLoaded (first : ℕ) (bodies : List (List ℕ)) (n : MetaNode) : Type 0 where
  pub number : n.first ≡ first
  pub in_order : AreInOrder n.items
  pub spelt : bodies ≡ bodies_of n.items

-- Items in order are loaded from the bodies of their batches, and nothing else is.
pub record MetaListsAreExact : Type 0 where
  pub again : (first : ℕ) (items : List MetaItem) → AreInOrder items → loaded_meta first (bodies_of items) ≡ Ok (record { first = first; items = items })
  pub found : (first : ℕ) (bodies : List (List ℕ)) (n : MetaNode) → AllByRecursion IsBytes bodies → loaded_meta first bodies ≡ Ok n → IsLoaded first bodies n
