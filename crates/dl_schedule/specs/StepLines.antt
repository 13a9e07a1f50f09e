-- The lines of a schedule: the one spelling of each step, and the ranges of their words.
use Rattle.std.specs.Prelude.{ℕ, ◌-◌, Bool, true, false, List, [], ◌++◌}
pub use Rattle.dl_text.specs.Ends.{space, line_feed}
use Rattle.dl_types.specs.declared.address.Address.{Address}
use Rattle.dl_types.specs.declared.address.Address.TheVariants as address
use Rattle.dl_types.specs.declared.bookie.TheConstants.{MAX_BOOKIE}
use Rattle.dl_types.specs.declared.client.TheConstants.{MAX_CLIENT}
use Rattle.dl_types.specs.declared.start.Start.{Start}
use Rattle.dl_types.specs.declared.start.Start.TheVariants as start
use Rattle.dl_types.specs.declared.txid.TheConstants.{MAX_TXID}
use Rattle.dl_text.specs.Numbers.{number, IsWithin, most_u64}
use Rattle.dl_text.specs.Hex.{hex, AllBytes}
use Rattle.dl_text.specs.Fields.{bytes_field, place_field}
use Rattle.dl_text.specs.NameFields.{IsName}
use Rattle.dl_text.specs.PlaceFields.{IsPlaceFrom}
use Rattle.dl_text.specs.ListFields.{list_field, AreUpTo}
use Rattle.dl_schedule.specs.declared.up_to.TheConstants.{MAX_BOOKIES, COMMIT_CALLS, MAX_ROWS, MAX_MESSAGE}
use Rattle.dl_schedule.specs.declared.node.Node.{Node}
use Rattle.dl_schedule.specs.declared.node.Node.TheVariants as node
use Rattle.dl_schedule.specs.declared.step.TheConstants.{MAX_SET}
use Rattle.dl_schedule.specs.declared.step.Step.{Step}
use Rattle.dl_schedule.specs.declared.step.Step.TheVariants.{Setup, Join, Crash, Expire, Create, Remove, Open, Recover, Purge, Append}
use Rattle.dl_schedule.specs.declared.step.Step.TheVariants.{Set, Flush, Commit, Close, SeekOldest, SeekPlace, SeekTxid, Read, Truncate}
use Rattle.dl_schedule.specs.declared.step.Step.TheVariants.{Deliver, Sync, Lose, Stop, StopMeta, Kill, Up, Settle, Mail}
use Rattle.dl_schedule.specs.declared.words.FirstWord.{FirstWord}
use Rattle.dl_schedule.specs.declared.words.FirstWord.TheVariants as word
use Rattle.dl_schedule.specs.declared.words.StartWord.{StartWord}
use Rattle.dl_schedule.specs.declared.words.StartWord.TheVariants as at
use Rattle.dl_schedule.specs.declared.words.NodeWord.{NodeWord}
use Rattle.dl_schedule.specs.declared.words.NodeWord.TheVariants as letter
use Rattle.dl_schedule.specs.Words.{first_text, start_text, node_text}

-- the first word of a step's line
abbrev pub first_word_of : Step → FirstWord
first_word_of (Setup b e w a) = word.Setup
first_word_of (Join c) = word.Join
first_word_of (Crash c) = word.Crash
first_word_of (Expire k) = word.Expire
first_word_of (Create c s) = word.Create
first_word_of (Remove c s) = word.Remove
first_word_of (Open c s) = word.Open
first_word_of (Recover c s) = word.Recover
first_word_of (Purge c s) = word.Purge
first_word_of (Append c t p) = word.Append
first_word_of (Set c t ps) = word.Set
first_word_of (Flush c) = word.Flush
first_word_of (Commit c) = word.Commit
first_word_of (Close c) = word.Close
first_word_of (SeekOldest c s) = word.Seek
first_word_of (SeekPlace c s d) = word.Seek
first_word_of (SeekTxid c s t) = word.Seek
first_word_of (Read c n) = word.Read
first_word_of (Truncate c s d) = word.Truncate
first_word_of (Deliver from to n) = word.Deliver
first_word_of (Sync b) = word.Sync
first_word_of (Lose b) = word.Lose
first_word_of (Stop b k kept) = word.Stop
first_word_of (StopMeta c n k kept) = word.StopMeta
first_word_of (Kill x) = word.Kill
first_word_of (Up x) = word.Up
first_word_of Settle = word.Settle
first_word_of Mail = word.Mail

-- ---- fields

-- a bit as a number
abbrev pub bit_number : Bool → ℕ
bit_number false = 0
bit_number true = 1

-- the letter with which an address begins
abbrev pub letter_of : Address → NodeWord
letter_of (address.Client c) = letter.Client
letter_of (address.Bookie b) = letter.Bookie
letter_of address.Meta = letter.Meta

-- an address behind its letter, with the byte that ends it
abbrev pub address_rest : ℕ → Address → List ℕ
address_rest end (address.Client c) = number end c
address_rest end (address.Bookie b) = number end b
address_rest end address.Meta = bytes_field end []

-- an end of a link, and the byte that ends it
abbrev pub address_field : ℕ → Address → List ℕ
address_field end a = node_text (letter_of a) ++ address_rest end a

-- the address of a node
abbrev pub address_of : Node → Address
address_of (node.Bookie b) = address.Bookie b
address_of node.Meta = address.Meta

-- a node, and the byte that ends it
abbrev pub node_field : ℕ → Node → List ℕ
node_field end x = address_field end (address_of x)

-- the word that says where a reader begins
abbrev pub start_word_of : Start → StartWord
start_word_of start.Oldest = at.Oldest
start_word_of (start.Place d) = at.Place
start_word_of (start.Tx t) = at.Txid

-- where a reader begins, behind that word
abbrev pub start_rest : Start → List ℕ
start_rest start.Oldest = []
start_rest (start.Place d) = place_field line_feed d
start_rest (start.Tx t) = number line_feed t

-- where a reader begins, to the end of the line
abbrev pub start_field : Start → List ℕ
start_field x = start_text (start_word_of x) ++ start_rest x

-- ---- lines

-- a client, a stream and where its reader begins
abbrev pub seek_words : ℕ → List ℕ → Start → List ℕ
seek_words c s x = number space c ++ (bytes_field space s ++ start_field x)

-- a line behind its first word: its other words, each with the byte that ends it
abbrev pub other_words : Step → List ℕ
other_words (Setup b e w a) = number space b ++ (number space e ++ (number space w ++ number line_feed a))
other_words (Join c) = number line_feed c
other_words (Crash c) = number line_feed c
other_words (Expire k) = number line_feed k
other_words (Create c s) = number space c ++ bytes_field line_feed s
other_words (Remove c s) = number space c ++ bytes_field line_feed s
other_words (Open c s) = number space c ++ bytes_field line_feed s
other_words (Recover c s) = number space c ++ bytes_field line_feed s
other_words (Purge c s) = number space c ++ bytes_field line_feed s
other_words (Append c t p) = number space c ++ (number space t ++ hex line_feed p)
other_words (Set c t ps) = number space c ++ (number space t ++ list_field hex ps)
other_words (Flush c) = number line_feed c
other_words (Commit c) = number line_feed c
other_words (Close c) = number line_feed c
other_words (SeekOldest c s) = seek_words c s start.Oldest
other_words (SeekPlace c s d) = seek_words c s (start.Place d)
other_words (SeekTxid c s t) = seek_words c s (start.Tx t)
other_words (Read c n) = number space c ++ number line_feed n
other_words (Truncate c s d) = number space c ++ (bytes_field space s ++ place_field line_feed d)
other_words (Deliver from to n) = address_field space from ++ (address_field space to ++ number line_feed n)
other_words (Sync b) = number line_feed b
other_words (Lose b) = number line_feed b
other_words (Stop b k kept) = number space b ++ (number space k ++ number line_feed (bit_number kept))
other_words (StopMeta c n k kept) = number space c ++ (number space n ++ (number space k ++ number line_feed (bit_number kept)))
other_words (Kill x) = node_field line_feed x
other_words (Up x) = node_field line_feed x
other_words Settle = []
other_words Mail = []

-- the one spelling of a step, with its line feed
abbrev pub step_line : Step → List ℕ
step_line s = first_text (first_word_of s) ++ other_words s

-- ---- ranges

-- the number of a client
abbrev pub IsClient : ℕ → Type 0
IsClient c = IsWithin 0 MAX_CLIENT c

-- the number of a bookie
abbrev pub IsBookie : ℕ → Type 0
IsBookie b = IsWithin 0 MAX_BOOKIE b

-- a number of bookies
abbrev pub IsCount : ℕ → Type 0
IsCount n = IsWithin 1 MAX_BOOKIES n

-- a transaction id
abbrev pub IsTxid : ℕ → Type 0
IsTxid t = IsWithin 0 MAX_TXID t

-- the number of a message on its link
abbrev pub IsNumber : ℕ → Type 0
IsNumber n = IsWithin 1 MAX_MESSAGE n

-- a device call of a commit
abbrev pub IsCall : ℕ → Type 0
IsCall k = IsWithin 1 COMMIT_CALLS k

-- a link has a client at one end, and a node at the other
abbrev pub IsLink : Address → Address → Type 0
IsLink (address.Client c) (address.Bookie b) = IsClient c × IsBookie b
IsLink (address.Client c) address.Meta = IsClient c
IsLink (address.Bookie b) (address.Client c) = IsBookie b × IsClient c
IsLink address.Meta (address.Client c) = IsClient c
IsLink from to = ⊥

-- a node of the world
abbrev pub IsNode : Node → Type 0
IsNode (node.Bookie b) = IsBookie b
IsNode node.Meta = Unit {0}

-- a set has 1 to MAX_SET payloads
abbrev pub ArePayloads : List (List ℕ) → Type 0
ArePayloads ps = AreUpTo AllBytes (MAX_SET - 1) ps

-- the steps that a schedule can say: their words are in their ranges
abbrev pub IsStep : Step → Type 0
IsStep (Setup b e w a) = IsCount b × (IsCount e × (IsCount w × IsCount a))
IsStep (Join c) = IsClient c
IsStep (Crash c) = IsClient c
IsStep (Expire k) = IsWithin 1 most_u64 k
IsStep (Create c s) = IsClient c × IsName s
IsStep (Remove c s) = IsClient c × IsName s
IsStep (Open c s) = IsClient c × IsName s
IsStep (Recover c s) = IsClient c × IsName s
IsStep (Purge c s) = IsClient c × IsName s
IsStep (Append c t p) = IsClient c × (IsTxid t × AllBytes p)
IsStep (Set c t ps) = IsClient c × (IsTxid t × ArePayloads ps)
IsStep (Flush c) = IsClient c
IsStep (Commit c) = IsClient c
IsStep (Close c) = IsClient c
IsStep (SeekOldest c s) = IsClient c × IsName s
IsStep (SeekPlace c s d) = IsClient c × (IsName s × IsPlaceFrom 1 d)
IsStep (SeekTxid c s t) = IsClient c × (IsName s × IsTxid t)
IsStep (Read c n) = IsClient c × IsWithin 1 MAX_ROWS n
IsStep (Truncate c s d) = IsClient c × (IsName s × IsPlaceFrom 1 d)
IsStep (Deliver from to n) = IsLink from to × IsNumber n
IsStep (Sync b) = IsBookie b
IsStep (Lose b) = IsBookie b
IsStep (Stop b k kept) = IsBookie b × IsCall k
IsStep (StopMeta c n k kept) = IsClient c × (IsNumber n × IsCall k)
IsStep (Kill x) = IsNode x
IsStep (Up x) = IsNode x
IsStep Settle = Unit {0}
IsStep Mail = Unit {0}
