-- The metadata node: tree and sessions are the fold of the items in force, the newest of which is the first of the list.
use Rattle.std.specs.Prelude.{ℕ, ◌+◌, Bool, true, ◌&&◌, nat_le, nat_lt, List, [], ◌∷◌, length, Option, Some, None}
use Rattle.std.specs.List.{list_all}
use Rattle.std.specs.FinMap.{insert}
use Rattle.dl_types.specs.declared.mode.Mode.TheVariants.{Lasting}
use Rattle.dl_types.specs.declared.one_op.OneOp.{OneOp}
use Rattle.dl_types.specs.declared.one_op.OneOp.TheVariants.{Delete, Set}
use Rattle.dl_types.specs.declared.meta_op.MetaOp.{MetaOp}
use Rattle.dl_types.specs.declared.meta_op.MetaOp.TheVariants as op
use Rattle.dl_types.specs.declared.meta_answer.MetaAnswer.{MetaAnswer}
use Rattle.dl_tree_msg.specs.declared.rule.PathRule.TheVariants.{AllButConf}
use Rattle.dl_tree_msg.specs.Rules.{allows}
use Rattle.dl_msg.specs.declared.meta_reply.MetaReply.{MetaReply}
use Rattle.dl_msg.specs.declared.meta_reply.MetaReply.TheVariants as reply
use Rattle.dl_tree.specs.Trees.{Nodes, root_alone, new_node, after_request, without_session}
use Rattle.dl_session.specs.declared.admit.Admit.{Admit}
use Rattle.dl_session.specs.declared.admit.Admit.TheVariants as admit
use Rattle.dl_session.specs.Sessions.{Known, no_sessions, after_connect, after_expiry, after_run, number_in, admission}
use Rattle.dl_formats.specs.declared.conf.Conf as conf
use Rattle.dl_formats.specs.Keys.{Key, Conf, Streams, Ledgers, path_of}
use Rattle.dl_formats.specs.NodeBytes.{conf_bytes}
use Rattle.dl_rules_nodes.specs.Limits.{greatest_session, room_for_body}
use Rattle.dl_rules_nodes.specs.Items.{MetaItem, Setup, Connect, Expire, Ask, meta_item_length}

-- the tree, and the sessions
pub record Meta : Type 0 where
  pub tree : Nodes
  pub sessions : Known

-- before any item
abbrev pub nothing : Meta
nothing = record { tree = root_alone; sessions = no_sessions }

-- a tree with a lasting node more
abbrev pub with_node : Nodes → Key → List ℕ → Nodes
with_node t key bytes = insert t (path_of key) (new_node bytes Lasting 0)

-- the tree with which a configuration begins
abbrev pub first_tree : conf.Conf → Nodes
first_tree c = with_node (with_node (with_node root_alone Conf (conf_bytes c)) Streams []) Ledgers []

-- what an item does
unfoldable pub does : Meta → MetaItem → Meta
does m (Setup c) = record m { tree = first_tree c }
does m (Connect session) = record m { sessions = after_connect m.sessions }
does m (Expire session) = record m { tree = without_session m.tree session; sessions = after_expiry m.sessions session }
does m (Ask session number op) = record m { tree = (after_request m.tree session op).1; sessions = after_run m.sessions session number }

-- the fold of items from a base on, the newest item first
unfoldable pub meta_from : Meta → List MetaItem → Meta
meta_from base [] = base
meta_from base (x ∷ older) = does (meta_from base older) x

-- the fold of all items
abbrev pub meta_of : List MetaItem → Meta
meta_of items = meta_from nothing items

-- ---- requests

-- what becomes of a request of a session
abbrev pub admit_of : Meta → (session number : ℕ) → Admit
admit_of m session number = admission (number_in m.sessions.live session) number

-- the answer to a request that runs
abbrev pub answer_of : Meta → ℕ → MetaOp → MetaAnswer
answer_of m session op = (after_request m.tree session op).0

-- what is replied to a request; an old one has no reply
abbrev pub reply_by : Meta → (session number : ℕ) → MetaOp → Admit → Option MetaReply
reply_by m session number op admit.Expired = Some reply.Expired
reply_by m session number op admit.Old = None
reply_by m session number op admit.Run = Some (reply.Answer (answer_of m session op))

-- the reply to a request
abbrev pub reply_of : Meta → (session number : ℕ) → MetaOp → Option MetaReply
reply_of m session number op = reply_by m session number op (admit_of m session number)

-- a request that runs is an item, also where it only reads or fails
abbrev pub item_by : (session number : ℕ) → MetaOp → Admit → Option MetaItem
item_by session number op admit.Run = Some (Ask session number op)
item_by session number op admit.Expired = None
item_by session number op admit.Old = None

-- the item of a request, where it runs
abbrev pub item_of : Meta → (session number : ℕ) → MetaOp → Option MetaItem
item_of m session number op = item_by session number op (admit_of m session number)

-- the item by which a session is given
abbrev pub next_session : Meta → MetaItem
next_session m = Connect (m.sessions.last + 1)

-- an operation leaves the configuration as it is
abbrev pub leaves_conf : OneOp → Bool
leaves_conf (Delete path version) = allows AllButConf path
leaves_conf (Set path bytes version) = allows AllButConf path
leaves_conf _ = true

-- no operation of a request deletes or sets the configuration
abbrev pub keeps_conf : MetaOp → Bool
keeps_conf (op.One x) = leaves_conf x
keeps_conf (op.Multi ops) = list_all leaves_conf ops

-- ---- room

-- The number of the first batch in the journal of the metadata node, and the items in force, the newest first.
pub record MetaNode : Type 0 where
  pub first : ℕ
  pub items : List MetaItem

-- where the shut gate of a journal with these items stands
unfoldable pub meta_gate : List MetaItem → ℕ
meta_gate [] = 8
meta_gate (x ∷ older) = meta_gate older + 13 + meta_item_length x

-- the longest item that the journal still takes
abbrev pub meta_spare : MetaNode → ℕ
meta_spare n = room_for_body (n.first + length n.items) (meta_gate n.items)

-- whether the journal has room for an item
abbrev pub has_room : MetaNode → MetaItem → Bool
has_room n x = nat_le (meta_item_length x) (meta_spare n)

-- whether one session more can be given
abbrev pub may_connect : MetaNode → Bool
may_connect n = let m = meta_of n.items in nat_lt m.sessions.last greatest_session && has_room n (next_session m)

-- one item more
abbrev pub with_item : MetaNode → MetaItem → MetaNode
with_item n x = record n { items = x ∷ n.items }
