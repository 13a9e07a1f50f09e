-- What the nodes make durable, and the bytes of it. A storage node has batches of items, the metadata node has a batch for each
-- of its items.
use Rattle.std.specs.Prelude.{ℕ, ◌+◌, ◌<◌, ◌≤◌, max, Bool, false, ◌==◌, ◌&&◌, if◌then◌else◌, List, [], ◌∷◌, ◌++◌, length, sum_by, flat_map}
use Rattle.std.specs.List.{AllByRecursion}
use Rattle.std.specs.Int.{w32, w64}
use Rattle.dl_types.specs.declared.meta_op.MetaOp.{MetaOp}
use Rattle.dl_codec.specs.Fields.{field}
use Rattle.dl_fields.specs.Fields.{Fits, counted_field}
use Rattle.dl_fields.specs.Codes.{code_byte}
use Rattle.dl_record.specs.Grammar.{IsEntryBytes}
use Rattle.dl_tree_msg.specs.Requests.{request_bytes, IsRequest}
use Rattle.dl_formats.specs.declared.conf.Conf.{Conf}
use Rattle.dl_formats.specs.NodeBytes.{conf_fields, IsConf}
use Rattle.dl_rules_nodes.specs.Limits.{longest_batch}

-- ---- items of a storage node

-- an entry that was added, an entry that a recovery copied, each with the confirmed count that it carries; or a fence
pub data Item : Type 0 where
  AddItem : (ledger entry count : ℕ) (bytes : List ℕ) → Item
  CopyItem : (ledger entry count : ℕ) (bytes : List ℕ) → Item
  FenceItem : (ledger : ℕ) → Item

-- what an item is
pub data ItemKind : Type 0 where
  AnAdd : ItemKind
  ACopy : ItemKind
  AFence : ItemKind

-- the byte of a kind
abbrev pub item_code : ItemKind → ℕ
item_code AnAdd = 1
item_code ACopy = 2
item_code AFence = 3

-- all kinds
abbrev pub item_kinds : List ItemKind
item_kinds = AnAdd ∷ ACopy ∷ AFence ∷ []

-- the kind of an item
abbrev pub item_kind : Item → ItemKind
item_kind (AddItem l e n bytes) = AnAdd
item_kind (CopyItem l e n bytes) = ACopy
item_kind (FenceItem l) = AFence

-- the fields of an item that has an entry
abbrev pub entry_fields : (ledger entry count : ℕ) → List ℕ → List ℕ
entry_fields ledger entry count bytes = field w64 ledger ++ (field w64 entry ++ (field w64 count ++ counted_field w32 bytes))

-- an item behind its kind
abbrev pub item_rest : Item → List ℕ
item_rest (AddItem l e n bytes) = entry_fields l e n bytes
item_rest (CopyItem l e n bytes) = entry_fields l e n bytes
item_rest (FenceItem l) = field w64 l

-- the bytes of an item
unfoldable pub item_bytes : Item → List ℕ
item_bytes x = code_byte item_code (item_kind x) ++ item_rest x

-- the body of a batch
abbrev pub body_of : List Item → List ℕ
body_of items = flat_map item_bytes items

-- the ledger of an item
abbrev pub ledger_of : Item → ℕ
ledger_of (AddItem l e n bytes) = l
ledger_of (CopyItem l e n bytes) = l
ledger_of (FenceItem l) = l

-- the bytes of the entry in an item
abbrev pub entry_in : Item → List ℕ
entry_in (AddItem l e n bytes) = bytes
entry_in (CopyItem l e n bytes) = bytes
entry_in (FenceItem l) = []

-- the length of an item's bytes
abbrev pub item_length : Item → ℕ
item_length (AddItem l e n bytes) = 29 + length bytes
item_length (CopyItem l e n bytes) = 29 + length bytes
item_length (FenceItem l) = 9

-- the length of a batch's body
abbrev pub items_length : List Item → ℕ
items_length xs = sum_by item_length xs

-- whether an item adds this entry
abbrev pub is_add : ℕ → ℕ → Item → Bool
is_add l e (AddItem m f n bytes) = m == l && f == e
is_add l e _ = false

-- whether an item has the bytes of this entry
abbrev pub is_entry : ℕ → ℕ → Item → Bool
is_entry l e (AddItem m f n bytes) = m == l && f == e
is_entry l e (CopyItem m f n bytes) = m == l && f == e
is_entry l e (FenceItem m) = false

-- whether an item fences this ledger
abbrev pub is_fence : ℕ → Item → Bool
is_fence l (FenceItem m) = m == l
is_fence l _ = false

-- whether an item is of this ledger
abbrev pub is_of : ℕ → Item → Bool
is_of l x = ledger_of x == l

-- the confirmed count that an item of this ledger carries
abbrev pub count_in : ℕ → Item → ℕ
count_in l (AddItem m f n bytes) = if m == l then n else 0
count_in l (CopyItem m f n bytes) = if m == l then n else 0
count_in l (FenceItem m) = 0

-- the greatest confirmed count that an item of this ledger carries
abbrev pub greatest : ℕ → List Item → ℕ
greatest l [] = 0
greatest l (x ∷ xs) = max (count_in l x) (greatest l xs)

-- the items that have a spelling
abbrev pub IsItem : Item → Type 0
IsItem (AddItem l e n bytes) = Fits w64 l × (Fits w64 e × (Fits w64 n × IsEntryBytes bytes))
IsItem (CopyItem l e n bytes) = Fits w64 l × (Fits w64 e × (Fits w64 n × IsEntryBytes bytes))
IsItem (FenceItem l) = Fits w64 l

-- A batch of a storage node: at least one item, and no more bytes than the longest batch has.
pub record IsBatch (items : List Item) : Type 0 where
  pub some : 0 < length items
  pub each : AllByRecursion IsItem items
  pub short : items_length items ≤ longest_batch

-- ---- items of the metadata node

-- the configuration, which comes first; a session that is given; a session that ends; a request that was run in a session
pub data MetaItem : Type 0 where
  Setup : (conf : Conf) → MetaItem
  Connect : (session : ℕ) → MetaItem
  Expire : (session : ℕ) → MetaItem
  Ask : (session number : ℕ) (op : MetaOp) → MetaItem

-- what an item is
pub data MetaKind : Type 0 where
  AConf : MetaKind
  AConnect : MetaKind
  AnExpire : MetaKind
  AnAsk : MetaKind

-- the byte of a kind
abbrev pub meta_code : MetaKind → ℕ
meta_code AConf = 1
meta_code AConnect = 2
meta_code AnExpire = 3
meta_code AnAsk = 4

-- the kind of an item
abbrev pub meta_kind : MetaItem → MetaKind
meta_kind (Setup conf) = AConf
meta_kind (Connect session) = AConnect
meta_kind (Expire session) = AnExpire
meta_kind (Ask session number op) = AnAsk

-- an item behind its kind
abbrev pub meta_rest : MetaItem → List ℕ
meta_rest (Setup conf) = conf_fields conf
meta_rest (Connect session) = field w64 session
meta_rest (Expire session) = field w64 session
meta_rest (Ask session number op) = field w64 session ++ (field w32 number ++ request_bytes op)

-- the bytes of an item, which are a batch of its own
unfoldable pub meta_item_bytes : MetaItem → List ℕ
meta_item_bytes x = code_byte meta_code (meta_kind x) ++ meta_rest x

-- the length of an item's bytes
abbrev pub meta_item_length : MetaItem → ℕ
meta_item_length x = length (meta_item_bytes x)

-- the items that have a spelling
abbrev pub IsMetaItem : MetaItem → Type 0
IsMetaItem (Setup conf) = IsConf conf
IsMetaItem (Connect session) = Fits w64 session
IsMetaItem (Expire session) = Fits w64 session
IsMetaItem (Ask session number op) = Fits w64 session × (Fits w32 number × IsRequest op)
