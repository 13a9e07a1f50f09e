-- The state of the machine: the nodes, the clients by all that they took, all letters ever sent, and how far each ledger has
-- grown.
use Rattle.std.specs.Prelude.{ℕ, Bool, true, false, if◌then◌else◌, ◌==◌, List, [], ◌∷◌, ◌++◌, Option, Some, None, slice_index_or}
use Rattle.dl_types.specs.declared.address.Address.{Address}
use Rattle.dl_types.specs.declared.address.Address.TheVariants.{Client, Bookie as AtBookie, Meta as AtMeta}
use Rattle.dl_msg.specs.declared.letter.Letter.{Letter}
use Rattle.dl_formats.specs.declared.conf.Conf.{Conf}
use Rattle.dl_rules_nodes.specs.Bookies.{Bookie, empty_bookie}
use Rattle.dl_rules_nodes.specs.Items.{MetaItem, Setup}
use Rattle.dl_rules_nodes.specs.Metadata.{MetaNode, with_item}
use Rattle.dl_transcript.specs.declared.event.Event.{Event}
use Rattle.dl_rules_client.specs.Acts.{Input, ClientArgs, SentEntry}

-- ---- the parts

-- a storage node takes messages, or is down until it is loaded, or has lost its disk for good
pub data Mode : Type 0 where
  Up : Mode
  Down : Mode
  Lost : Mode

-- A storage node. Where its last commit was stopped or failed and it was not loaded since, its disk may hold another list too:
-- with that commit's batch, or without.
pub record Node : Type 0 where
  pub bookie : Bookie
  pub mode : Mode
  pub other : Option Bookie

-- What was sent of a segment's ledger in this run, entry by entry, and how many of its entries have grown.
pub record LedgerSeen : Type 0 where
  pub sent : List SentEntry
  pub grown : ℕ

-- A client process: its session, how many records earlier ones have had taken, and what it took, the newest first.
pub record Joined : Type 0 where
  pub session : ℕ
  pub calls : ℕ
  pub view : List Input

-- The configuration, once the world is set up; the storage nodes; the metadata node, and whether it is up; the clients; how many
-- records each had taken; all letters ever sent, the oldest first, and which were delivered, by their places; the ledgers.
pub record State : Type 0 where
  pub conf : Option Conf
  pub nodes : ℕ → Node
  pub meta : MetaNode
  pub meta_up : Bool
  pub clients : ℕ → Option Joined
  pub calls : ℕ → ℕ
  pub letters : List Letter
  pub delivered : ℕ → Bool
  pub ledgers : ℕ → LedgerSeen

-- ---- states to begin with

-- a storage node that was just made
abbrev pub new_node : Node
new_node = record { bookie = empty_bookie; mode = Up; other = None }

-- a ledger of which nothing was sent
abbrev pub new_ledger : LedgerSeen
new_ledger = record { sent = []; grown = 0 }

-- before a setup
abbrev pub blank : State
blank = record {
  conf = None;
  nodes = λ b. new_node;
  meta = record { first = 0; items = [] };
  meta_up = false;
  clients = λ c. None;
  calls = λ c. 0;
  letters = [];
  delivered = λ place. false;
  ledgers = λ l. new_ledger;
}

-- the configuration is the oldest item
abbrev pub conf_in : List MetaItem → Option Conf
conf_in [] = None
conf_in (Setup c ∷ []) = Some c
conf_in (x ∷ older) = conf_in older

-- a storage node of a file; one whose file is empty is lost
abbrev pub loaded_node : Option Bookie → Node
loaded_node None = record { bookie = empty_bookie; mode = Lost; other = None }
loaded_node (Some b) = record { bookie = b; mode = Up; other = None }

-- the state of files that hold these lists: no client has joined, and no letter was sent
abbrev pub state_of_files : List (Option Bookie) → MetaNode → State
state_of_files bookies meta = record blank {
  conf = conf_in meta.items;
  nodes = λ b. loaded_node (slice_index_or bookies b None);
  meta = meta;
  meta_up = true;
}

-- ---- changes

-- a function with another value at one number
abbrev pub with_value : {A : Type 0} → (ℕ → A) → ℕ → A → ℕ → A
with_value f i x j = if j == i then x else f j

-- another storage node at a number
abbrev pub with_node : State → ℕ → Node → State
with_node s b n = record s { nodes = with_value s.nodes b n }

-- another list and queue of a storage node
abbrev pub with_bookie : State → ℕ → Bookie → State
with_bookie s b k = with_node s b (record (s.nodes b) { bookie = k })

-- another process of a client, or none
abbrev pub with_client : State → ℕ → Option Joined → State
with_client s c me = record s { clients = with_value s.clients c me }

-- letters more
abbrev pub with_letters : State → List Letter → State
with_letters s letters = record s { letters = s.letters ++ letters }

-- an item more of the metadata node
abbrev pub with_meta_item : State → MetaItem → State
with_meta_item s x = record s { meta = with_item s.meta x }

-- the letter at a place is delivered
abbrev pub marks : State → ℕ → State
marks s place = record s { delivered = with_value s.delivered place true }

-- ---- parts of the state

-- how many storage nodes there are
abbrev pub bookies_of : Option Conf → ℕ
bookies_of None = 0
bookies_of (Some conf) = conf.b

-- a node takes messages
abbrev pub is_up : Mode → Bool
is_up Up = true
is_up Down = false
is_up Lost = false

-- a node waits for its load
abbrev pub is_down : Mode → Bool
is_down Up = false
is_down Down = true
is_down Lost = false

-- a node's disk is lost
abbrev pub is_lost : Mode → Bool
is_lost Up = false
is_lost Down = false
is_lost Lost = true

-- whether a client has joined with this session
abbrev pub has_session : Option Joined → ℕ → Bool
has_session None session = false
has_session (Some me) session = me.session == session

-- whether a letter's receiver can take it: a node that is up, a client with the letter's session
abbrev pub can_take : State → Letter → Address → Bool
can_take s l (AtBookie b) = is_up (s.nodes b).mode
can_take s l AtMeta = s.meta_up
can_take s l (Client c) = has_session (s.clients c) l.session

-- what a client is started with
abbrev pub args_of : Conf → ℕ → Joined → ClientArgs
args_of conf c me = record { number = c; session = me.session; conf = conf; calls = me.calls }

-- ---- outcomes

-- What a step leaves, and what it shows.
pub record Outcome : Type 0 where
  pub state : State
  pub events : List Event

-- a state, and nothing is shown
abbrev pub quietly : State → Outcome
quietly s = record { state = s; events = [] }

-- events more
abbrev pub then_shows : Outcome → List Event → Outcome
then_shows o events = record o { events = o.events ++ events }

-- one outcome, and then another from its state on
abbrev pub and_then : Outcome → (State → Outcome) → Outcome
and_then o next = let more = next o.state in record more { events = o.events ++ more.events }
