-- A client, and what a transcript has shown of it: how many records were taken, its reader, and whether a read is under way.
use Rattle.std.specs.Prelude.{◌≡◌, ℕ, suc, ◌+◌, Bool, true, false, List, [], ◌∷◌, length, Option, Some, None, is_some}
use Rattle.std.specs.List.{AllByRecursion}
use Rattle.dl_types.specs.declared.address.Address.{Address}
use Rattle.dl_types.specs.declared.address.Address.TheVariants.{Client, Bookie as AtBookie, Meta as AtMeta}
use Rattle.dl_msg.specs.declared.letter.Letter.{Letter}
use Rattle.dl_msg.specs.declared.msg.Msg.{Msg}
use Rattle.dl_msg.specs.declared.msg.Msg.TheVariants as msg
use Rattle.dl_transcript.specs.Legal.{History, ReaderHistory, ClientHistory}
use Rattle.dl_rules_stream.specs.Requests.{Request, op_of}
use Rattle.dl_rules_client.specs.Acts.{ClientArgs, Acts}
use Rattle.dl_rules_client.specs.Views.{Doing, Makes, Removes, Opens, Recovers, Commits, Confirms, Closes, Seeks, Reads, Truncates, Purges, Order}
use Rattle.dl_rules_client.specs.Views.{ReaderView, ClientNow}
use Rattle.dl_law_legal.specs.Ruled.{is_ruled, Leads}

-- ---- the reader

-- what an order does is a read
abbrev pub is_read : Doing → Bool
is_read (Makes heard) = false
is_read (Removes heard) = false
is_read (Opens heard) = false
is_read (Recovers heard) = false
is_read Commits = false
is_read Confirms = false
is_read (Closes args heard) = false
is_read (Seeks from heard) = false
is_read Reads = true
is_read (Truncates to heard) = false
is_read (Purges heard) = false

-- the order under way is a read
abbrev pub has_read : Option Order → Bool
has_read None = false
has_read (Some o) = is_read o.doing

-- the stream of a reader, where there is one
abbrev pub stream_read : Option ReaderView → Option (List ℕ)
stream_read None = None
stream_read (Some r) = Some r.args.stream

-- A reader of this stream was shown, with a read under way or without.
pub record IsReaderOf (name : List ℕ) (reading : Bool) (x : ReaderHistory) : Type 0 where
  pub stream : x.stream ≡ name
  pub read : is_some x.read ≡ reading

-- the reader that was shown last, where there is one, is on this stream
abbrev pub ReaderSeen : Option (List ℕ) → Bool → Option ReaderHistory → Type 0
ReaderSeen None reading None = reading ≡ false
ReaderSeen None reading (Some x) = ⊥
ReaderSeen (Some stream) reading None = ⊥
ReaderSeen (Some stream) reading (Some x) = IsReaderOf stream reading x

-- ---- the client

-- So many records of a client were shown, and its reader.
pub record PartsSeen (count : ℕ) (stream : Option (List ℕ)) (reading : Bool) (h : ClientHistory) : Type 0 where
  pub taken : length h.taken ≡ count
  pub reader : ReaderSeen stream reading h.reader

-- this was shown of a client
abbrev pub ClientSeen : ClientNow → ClientHistory → Type 0
ClientSeen now h = PartsSeen now.taken (stream_read now.reader) (has_read now.order) h

-- What was shown of sessions and of all clients but this one is as it was.
pub record OthersSeen (c : ℕ) (s t : History) : Type 0 where
  pub sessions : t.sessions ≡ s.sessions
  pub expired : t.expired ≡ s.expired
  pub clients : (d : ℕ) → (d ≡ c → ⊥) → t.clients d ≡ s.clients d

-- What was shown behind events of this client alone.
pub record SeenOf (c : ℕ) (s : History) (count : ℕ) (stream : Option (List ℕ)) (reading : Bool) (t : History) : Type 0 where
  pub client : PartsSeen count stream reading (t.clients c)
  pub others : OthersSeen c s t

-- ---- its letters

-- A message is a request in this session.
pub record IsRequest (session : ℕ) (m : Msg) : Type 0 where
  pub number : ℕ
  pub request : Request
  pub is : m ≡ msg.MetaAsk session number (op_of request)

-- what is said to a storage node: an entry or a copy of one, or an ask for a count or an entry
abbrev pub IsLedgerAsk : Msg → Type 0
IsLedgerAsk (msg.Add ledger entry count bytes) = Unit {0}
IsLedgerAsk (msg.Copy tag ledger entry count bytes) = Unit {0}
IsLedgerAsk (msg.AskLac tag ledger fence) = Unit {0}
IsLedgerAsk (msg.AskEntry tag ledger entry) = Unit {0}
IsLedgerAsk (msg.AddOk ledger entry) = ⊥
IsLedgerAsk (msg.AddFenced ledger entry) = ⊥
IsLedgerAsk (msg.Full what ledger entry) = ⊥
IsLedgerAsk (msg.CopyOk tag ledger entry) = ⊥
IsLedgerAsk (msg.LacIs tag ledger fenced count) = ⊥
IsLedgerAsk (msg.EntryIs tag ledger entry bytes) = ⊥
IsLedgerAsk (msg.NoEntry tag ledger entry fenced) = ⊥
IsLedgerAsk (msg.MetaAsk session number op) = ⊥
IsLedgerAsk (msg.MetaReply session number r) = ⊥

-- what a client tells in this session: the metadata node a request, a storage node something about a ledger, and no client anything
abbrev pub IsToldTo : ℕ → Msg → Address → Type 0
IsToldTo session m AtMeta = IsRequest session m
IsToldTo session m (AtBookie b) = IsLedgerAsk m
IsToldTo session m (Client c) = ⊥

-- A letter is from this client, in its session.
pub record IsLetterOf (me : ClientArgs) (l : Letter) : Type 0 where
  pub from : l.from ≡ Client me.number
  pub session : l.session ≡ me.session
  pub told : IsToldTo me.session l.msg l.to

-- the number of a request
abbrev pub number_in : Msg → ℕ
number_in (msg.MetaAsk session number op) = number
number_in m = 0

-- a letter to the metadata node has the number behind this one
abbrev pub HasNext : ℕ → Msg → Address → Type 0
HasNext n m AtMeta = number_in m ≡ suc n
HasNext n m (AtBookie b) = Unit {0}
HasNext n m (Client c) = Unit {0}

-- how many requests were made with a letter to this end
abbrev pub counted_to : ℕ → Address → ℕ
counted_to n AtMeta = suc n
counted_to n (AtBookie b) = n
counted_to n (Client c) = n

-- the requests among letters are numbered on from so many, and then are so many
abbrev pub AsksOn : ℕ → List Letter → ℕ → Type 0
AsksOn first [] asked = asked ≡ first
AsksOn first (l ∷ more) asked = HasNext first l.msg l.to × AsksOn (counted_to first l.to) more asked

-- ---- what it does

-- What a client does, of which so many records were taken before, and so many requests made: its events lead to what shows it with
-- these parts, it took as many records as it says, its letters are its own, and its requests are numbered on.
pub record ActsLead (me : ClientArgs) (before first : ℕ) (s : History) (count asked : ℕ) (of : Option (List ℕ)) (reading : Bool) (acts : Acts) : Type 0 where
  pub leads : Leads is_ruled (SeenOf me.number s count of reading) s acts.events
  pub taken : count ≡ before + acts.taken
  pub letters : AllByRecursion (IsLetterOf me) acts.letters
  pub asks : AsksOn first acts.letters asked

-- what it does leads to what shows it as it is then
abbrev pub NowLeads : ClientArgs → (before first : ℕ) → History → ClientNow → Acts → Type 0
NowLeads me before first s now acts = ActsLead me before first s now.taken now.asked (stream_read now.reader) (has_read now.order) acts
