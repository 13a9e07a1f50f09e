-- Whose sessions are, and what requests and replies say: facts of letters, of replies that wait, of clients, and of the items of the
-- metadata node.
use Rattle.std.specs.Prelude.{◌≡◌, ℕ, ◌≤◌, false, List, ◌∷◌, ◌++◌, Option}
use Rattle.std.specs.List.{AllByRecursion}
use Rattle.dl_types.specs.declared.address.Address.{Address}
use Rattle.dl_types.specs.declared.address.Address.TheVariants.{Client, Bookie as AtBookie, Meta as AtMeta}
use Rattle.dl_types.specs.declared.meta_answer.MetaAnswer.{MetaAnswer}
use Rattle.dl_types.specs.declared.meta_op.MetaOp.{MetaOp}
use Rattle.dl_msg.specs.declared.letter.Letter.{Letter}
use Rattle.dl_msg.specs.declared.meta_reply.MetaReply.{MetaReply}
use Rattle.dl_msg.specs.declared.meta_reply.MetaReply.TheVariants as reply
use Rattle.dl_msg.specs.declared.msg.Msg.{Msg}
use Rattle.dl_msg.specs.declared.msg.Msg.TheVariants as msg
use Rattle.dl_session.specs.Sessions.{is_live}
use Rattle.dl_rules_nodes.specs.Bookies.{Bookie, Waiting}
use Rattle.dl_rules_nodes.specs.Items.{MetaItem, Setup, Connect, Expire, Ask}
use Rattle.dl_rules_nodes.specs.Metadata.{meta_of, answer_of}
use Rattle.dl_rules_stream.specs.Requests.{Request, op_of}
use Rattle.dl_rules_client.specs.EventRanges.{AllSome}
use Rattle.dl_law_meta.specs.Histories.{AreAdmitted}
use Rattle.dl_machine.specs.States.{State, Node, Joined}
use Rattle.dl_machine.specs.Atoms.{meta_in}
use Rattle.dl_law_client.specs.Seen.{IsLedgerAsk, IsRequest}

-- ---- whose sessions are

-- A session was given, and it is this client's: it was given once, to one process of one client.
pub record IsOwn (who : ℕ → ℕ) (last session c : ℕ) : Type 0 where
  pub given : 1 ≤ session
  pub within : session ≤ last
  pub owner : who session ≡ c

-- a letter goes between a client and a node, in a session of this client
abbrev pub EndsOwn : (ℕ → ℕ) → (last session : ℕ) → (from to : Address) → Type 0
EndsOwn who last session (Client c) (Client d) = ⊥
EndsOwn who last session (Client c) (AtBookie b) = IsOwn who last session c
EndsOwn who last session (Client c) AtMeta = IsOwn who last session c
EndsOwn who last session (AtBookie b) (Client c) = IsOwn who last session c
EndsOwn who last session (AtBookie b) (AtBookie d) = ⊥
EndsOwn who last session (AtBookie b) AtMeta = ⊥
EndsOwn who last session AtMeta (Client c) = IsOwn who last session c
EndsOwn who last session AtMeta (AtBookie b) = ⊥
EndsOwn who last session AtMeta AtMeta = ⊥

-- ---- what requests and replies say

-- A number of a session ran, and this is what the operation answered there.
pub record RanThen (items : List MetaItem) (session number : ℕ) (a : MetaAnswer) : Type 0 where
  pub newer : List MetaItem
  pub older : List MetaItem
  pub op : MetaOp
  pub parts : items ≡ newer ++ Ask session number op ∷ older
  pub answers : a ≡ answer_of (meta_of older) session op

-- an answer is that of the request where it ran; a session that has expired isn't live
abbrev pub ReplySays : List MetaItem → (session number : ℕ) → MetaReply → Type 0
ReplySays items session number reply.Expired = is_live (meta_of items).sessions session ≡ false
ReplySays items session number (reply.Answer a) = RanThen items session number a

-- A message is a reply to a request of this session.
pub record IsReply (items : List MetaItem) (session : ℕ) (m : Msg) : Type 0 where
  pub number : ℕ
  pub given : MetaReply
  pub is : m ≡ msg.MetaReply session number given
  pub says : ReplySays items session number given

-- what a storage node says: that an entry is stored, fenced off or there, or not; a count; or what there is no room for
abbrev pub IsLedgerAnswer : Msg → Type 0
IsLedgerAnswer (msg.Add ledger entry count bytes) = ⊥
IsLedgerAnswer (msg.Copy tag ledger entry count bytes) = ⊥
IsLedgerAnswer (msg.AskLac tag ledger fence) = ⊥
IsLedgerAnswer (msg.AskEntry tag ledger entry) = ⊥
IsLedgerAnswer (msg.AddOk ledger entry) = Unit {0}
IsLedgerAnswer (msg.AddFenced ledger entry) = Unit {0}
IsLedgerAnswer (msg.Full what ledger entry) = Unit {0}
IsLedgerAnswer (msg.CopyOk tag ledger entry) = Unit {0}
IsLedgerAnswer (msg.LacIs tag ledger fenced count) = Unit {0}
IsLedgerAnswer (msg.EntryIs tag ledger entry bytes) = Unit {0}
IsLedgerAnswer (msg.NoEntry tag ledger entry fenced) = Unit {0}
IsLedgerAnswer (msg.MetaAsk session number op) = ⊥
IsLedgerAnswer (msg.MetaReply session number r) = ⊥

-- what a client hears: from the metadata node replies, and from storage nodes their answers
abbrev pub HeardSays : List MetaItem → ℕ → Msg → Address → Type 0
HeardSays items session m AtMeta = IsReply items session m
HeardSays items session m (AtBookie b) = IsLedgerAnswer m
HeardSays items session m (Client c) = Unit {0}

-- what a letter says: to the metadata node requests, to storage nodes what is asked of them, and to clients what they hear
abbrev pub LetterSays : List MetaItem → ℕ → Msg → (from to : Address) → Type 0
LetterSays items session m from AtMeta = IsRequest session m
LetterSays items session m from (AtBookie b) = IsLedgerAsk m
LetterSays items session m from (Client c) = HeardSays items session m from

-- an operation is that of a request
abbrev pub IsOfRequest : MetaOp → Type 0
IsOfRequest op = (r : Request) × (op ≡ op_of r)

-- an item's operation is that of a request
abbrev pub IsAsked : MetaItem → Type 0
IsAsked (Setup conf) = Unit {0}
IsAsked (Connect session) = Unit {0}
IsAsked (Expire session) = Unit {0}
IsAsked (Ask session number op) = IsOfRequest op

-- ---- the parts of a state

-- A letter.
pub record LetterServed (who : ℕ → ℕ) (last : ℕ) (items : List MetaItem) (session : ℕ) (m : Msg) (from to : Address) : Type 0 where
  pub own : EndsOwn who last session from to
  pub says : LetterSays items session m from to

-- the same of a letter by its parts
abbrev pub IsServed : (ℕ → ℕ) → ℕ → List MetaItem → Letter → Type 0
IsServed who last items l = LetterServed who last items l.session l.msg l.from l.to

-- A reply that waits is an answer for a client in its session.
pub record WaitsOwn (who : ℕ → ℕ) (last : ℕ) (w : Waiting) : Type 0 where
  pub own : IsOwn who last w.session w.client
  pub says : IsLedgerAnswer w.reply

-- so it is with the replies that wait at a storage node
abbrev pub QueueOwn : (ℕ → ℕ) → ℕ → Bookie → Type 0
QueueOwn who last b = AllByRecursion (WaitsOwn who last) b.queue

-- A storage node, and the other list that its disk may hold.
pub record NodeOwn (who : ℕ → ℕ) (last : ℕ) (n : Node) : Type 0 where
  pub bookie : QueueOwn who last n.bookie
  pub other : AllSome (QueueOwn who last) n.other

-- a process is in a session of its client
abbrev pub ProcessOwn : (ℕ → ℕ) → ℕ → ℕ → Joined → Type 0
ProcessOwn who last c me = IsOwn who last me.session c

-- The letters, the storage nodes and the clients.
pub record PartsServed (who : ℕ → ℕ) (last : ℕ) (items : List MetaItem) (letters : List Letter) (nodes : ℕ → Node) (clients : ℕ → Option Joined) : Type 0 where
  pub letters_served : AllByRecursion (IsServed who last items) letters
  pub nodes_own : (b : ℕ) → NodeOwn who last (nodes b)
  pub clients_own : (c : ℕ) → AllSome (ProcessOwn who last c) (clients c)

-- A state: each session has one owner, whose letters are those of this session, and storage nodes are told what they know; each request
-- that ran was admitted, and is one of the requests of orders; and each reply is the answer of the run of its number.
pub record Served (s : State) : Type 0 where
  pub who : ℕ → ℕ
  pub parts : PartsServed who (meta_in s).sessions.last s.meta.items s.letters s.nodes s.clients
  pub admitted : AreAdmitted s.meta.items
  pub asked : AllByRecursion IsAsked s.meta.items
