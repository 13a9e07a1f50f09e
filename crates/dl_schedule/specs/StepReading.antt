-- Reading a line of a schedule from the left, or how many bytes are left where no line goes on.
use Rattle.std.specs.Prelude.{ℕ, ◌-◌, Bool, ◌==◌, List, [], ◌∷◌, Result, Ok}
use Rattle.dl_types.specs.declared.address.Address.{Address}
use Rattle.dl_types.specs.declared.address.Address.TheVariants as address
use Rattle.dl_types.specs.declared.bookie.TheConstants.{MAX_BOOKIE}
use Rattle.dl_types.specs.declared.client.TheConstants.{MAX_CLIENT}
use Rattle.dl_types.specs.declared.start.Start.{Start}
use Rattle.dl_types.specs.declared.start.Start.TheVariants as start
use Rattle.dl_types.specs.declared.txid.TheConstants.{MAX_TXID}
use Rattle.dl_text.specs.Readers.{then_at, map_at, whole_at}
use Rattle.dl_text.specs.Columns.{column_of}
use Rattle.dl_text.specs.Numbers.{number_at, most_u64}
use Rattle.dl_text.specs.Hex.{hex_at, end_at}
use Rattle.dl_text.specs.NameFields.{name_at}
use Rattle.dl_text.specs.PlaceFields.{place_at}
use Rattle.dl_text.specs.ListFields.{list_at}
use Rattle.dl_text.specs.Words.{words_from}
use Rattle.dl_schedule.specs.declared.up_to.TheConstants.{MAX_BOOKIES, COMMIT_CALLS, MAX_ROWS, MAX_MESSAGE}
use Rattle.dl_schedule.specs.declared.node.Node.{Node}
use Rattle.dl_schedule.specs.declared.node.Node.TheVariants as node
use Rattle.dl_schedule.specs.declared.step.TheConstants.{MAX_SET}
use Rattle.dl_schedule.specs.declared.step.Step.{Step}
use Rattle.dl_schedule.specs.declared.step.Step.TheVariants.{Setup, Join, Crash, Expire, Create, Remove, Open, Recover, Purge, Append}
use Rattle.dl_schedule.specs.declared.step.Step.TheVariants.{Set, Flush, Commit, Close, SeekOldest, SeekPlace, SeekTxid, Read, Truncate}
use Rattle.dl_schedule.specs.declared.step.Step.TheVariants.{Deliver, Sync, Lose, Stop, StopMeta, Kill, Up, Settle, Mail}
use Rattle.dl_schedule.specs.declared.words.FirstWord.{FirstWord}
use Rattle.dl_schedule.specs.declared.words.FirstWord.TheVariants as word
use Rattle.dl_schedule.specs.declared.words.StartWord.{StartWord}
use Rattle.dl_schedule.specs.declared.words.StartWord.TheVariants as at
use Rattle.dl_schedule.specs.declared.words.NodeWord.{NodeWord}
use Rattle.dl_schedule.specs.declared.words.NodeWord.TheVariants as letter
use Rattle.dl_schedule.specs.Words.{first_text, first_words, start_text, start_words, node_text}
use Rattle.dl_schedule.specs.StepLines.{space, line_feed}

-- no words, as a value
abbrev pub nothing_at : {A : Type 0} → A → List ℕ → Result (A × List ℕ) ℕ
nothing_at a bytes = Ok (a, bytes)

-- ---- fields

-- the number of a client
abbrev pub client_at : ℕ → List ℕ → Result (ℕ × List ℕ) ℕ
client_at = number_at 0 MAX_CLIENT

-- the number of a bookie
abbrev pub bookie_at : ℕ → List ℕ → Result (ℕ × List ℕ) ℕ
bookie_at = number_at 0 MAX_BOOKIE

-- a number of bookies
abbrev pub count_at : ℕ → List ℕ → Result (ℕ × List ℕ) ℕ
count_at = number_at 1 MAX_BOOKIES

-- a transaction id
abbrev pub txid_at : ℕ → List ℕ → Result (ℕ × List ℕ) ℕ
txid_at = number_at 0 MAX_TXID

-- the number of a message on its link
abbrev pub message_at : ℕ → List ℕ → Result (ℕ × List ℕ) ℕ
message_at = number_at 1 MAX_MESSAGE

-- a device call of a commit, and whether its work is kept
abbrev pub call_at : List ℕ → Result ((ℕ × Bool) × List ℕ) ℕ
call_at = map_at (λ (call, bit). (call, bit == 1)) (then_at (number_at 1 COMMIT_CALLS space) (λ call. number_at 0 1 line_feed))

-- an address behind its letter
abbrev pub address_rest_at : ℕ → NodeWord → List ℕ → Result (Address × List ℕ) ℕ
address_rest_at end letter.Client = map_at address.Client (client_at end)
address_rest_at end letter.Bookie = map_at address.Bookie (bookie_at end)
address_rest_at end letter.Meta = map_at (λ none. address.Meta) (end_at end)

-- an address that begins with one of these letters
abbrev pub address_at : ℕ → List NodeWord → List ℕ → Result (Address × List ℕ) ℕ
address_at end letters = map_at (λ (first, a). a) (then_at (words_from node_text 0 letters) (address_rest_at end))

-- the letters of all addresses, and those of nodes
abbrev pub letters : List NodeWord
letters = letter.Client ∷ letter.Bookie ∷ letter.Meta ∷ []

-- the letters of the nodes: bookies and the metadata node
abbrev pub node_letters : List NodeWord
node_letters = letter.Bookie ∷ letter.Meta ∷ []

-- the letters of the other end of a link: a node where this end is a client, and a client where it is a node
abbrev pub other_letters : Address → List NodeWord
other_letters (address.Client c) = node_letters
other_letters (address.Bookie b) = letter.Client ∷ []
other_letters address.Meta = letter.Client ∷ []

-- the node at an address that is no client's
abbrev pub node_of : Address → Node
node_of (address.Bookie b) = node.Bookie b
node_of _ = node.Meta

-- a node, to the end of the line
abbrev pub node_at : List ℕ → Result (Node × List ℕ) ℕ
node_at = map_at node_of (address_at line_feed node_letters)

-- where a reader begins, behind the word that says how
abbrev pub start_rest_at : StartWord → List ℕ → Result (Start × List ℕ) ℕ
start_rest_at at.Oldest = nothing_at start.Oldest
start_rest_at at.Place = map_at start.Place (place_at 1 line_feed)
start_rest_at at.Txid = map_at start.Tx (txid_at line_feed)

-- where a reader begins, to the end of the line
abbrev pub start_at : List ℕ → Result (Start × List ℕ) ℕ
start_at = map_at (λ (first, x). x) (then_at (words_from start_text 0 start_words) start_rest_at)

-- ---- lines behind their first words

-- a client
abbrev pub one_client : (ℕ → Step) → List ℕ → Result (Step × List ℕ) ℕ
one_client make = map_at make (client_at line_feed)

-- a client and a stream
abbrev pub client_stream : (ℕ → List ℕ → Step) → List ℕ → Result (Step × List ℕ) ℕ
client_stream make = map_at (λ (client, stream). make client stream) (then_at (client_at space) (λ client. name_at line_feed))

-- the seek that begins there
abbrev pub seek_step : ℕ → List ℕ → Start → Step
seek_step c s start.Oldest = SeekOldest c s
seek_step c s (start.Place d) = SeekPlace c s d
seek_step c s (start.Tx t) = SeekTxid c s t

-- a setup: the number of bookies, the ensemble, the write quorum and the ack quorum
abbrev pub setup_at : List ℕ → Result (Step × List ℕ) ℕ
setup_at =
    map_at (λ (b, (e, (w, a))). Setup b e w a)
    (then_at (count_at space) (λ b. then_at (count_at space) (λ e. then_at (count_at space) (λ w. count_at line_feed))))

-- an expiry: the number of the session
abbrev pub expire_at : List ℕ → Result (Step × List ℕ) ℕ
expire_at = map_at Expire (number_at 1 most_u64 line_feed)

-- an append: the client, the transaction id and the payload
abbrev pub append_at : List ℕ → Result (Step × List ℕ) ℕ
append_at =
    map_at (λ (client, (txid, payload)). Append client txid payload)
    (then_at (client_at space) (λ client. then_at (txid_at space) (λ txid. hex_at line_feed)))

-- a set: the client, the transaction id and its payloads
abbrev pub set_at : List ℕ → Result (Step × List ℕ) ℕ
set_at =
    map_at (λ (client, (txid, payloads)). Set client txid payloads)
    (then_at (client_at space) (λ client. then_at (txid_at space) (λ txid. list_at hex_at (MAX_SET - 1))))

-- a seek: the client, the stream and where its reader begins
abbrev pub seek_at : List ℕ → Result (Step × List ℕ) ℕ
seek_at = map_at (λ (client, (stream, x)). seek_step client stream x) (then_at (client_at space) (λ client. then_at (name_at space) (λ stream. start_at)))

-- a read: the client and how many rows
abbrev pub read_at : List ℕ → Result (Step × List ℕ) ℕ
read_at = map_at (λ (client, rows). Read client rows) (then_at (client_at space) (λ client. number_at 1 MAX_ROWS line_feed))

-- a truncation: the client, the stream and the place
abbrev pub truncate_at : List ℕ → Result (Step × List ℕ) ℕ
truncate_at =
    map_at (λ (client, (stream, d)). Truncate client stream d)
    (then_at (client_at space) (λ client. then_at (name_at space) (λ stream. place_at 1 line_feed)))

-- a delivery: the ends of the link and the number of the message
abbrev pub deliver_at : List ℕ → Result (Step × List ℕ) ℕ
deliver_at =
    map_at (λ (from, (to, n)). Deliver from to n)
    (then_at (address_at space letters) (λ from. then_at (address_at space (other_letters from)) (λ to. message_at line_feed)))

-- a bookie, to the end of the line
abbrev pub one_bookie : (ℕ → Step) → List ℕ → Result (Step × List ℕ) ℕ
one_bookie make = map_at make (bookie_at line_feed)

-- a stop of a bookie: the bookie, the device call and whether its work is kept
abbrev pub stop_at : List ℕ → Result (Step × List ℕ) ℕ
stop_at = map_at (λ (b, (call, kept)). Stop b call kept) (then_at (bookie_at space) (λ b. call_at))

-- a stop of the metadata node: the client and the number of its message, the device call and whether its work is kept
abbrev pub stop_meta_at : List ℕ → Result (Step × List ℕ) ℕ
stop_meta_at =
    map_at (λ (client, (n, (call, kept))). StopMeta client n call kept)
    (then_at (client_at space) (λ client. then_at (message_at space) (λ n. call_at)))

-- a node
abbrev pub one_node : (Node → Step) → List ℕ → Result (Step × List ℕ) ℕ
one_node make = map_at make node_at

-- a line behind its first word
abbrev pub other_words_at : FirstWord → List ℕ → Result (Step × List ℕ) ℕ
other_words_at word.Setup = setup_at
other_words_at word.Join = one_client Join
other_words_at word.Crash = one_client Crash
other_words_at word.Expire = expire_at
other_words_at word.Create = client_stream Create
other_words_at word.Remove = client_stream Remove
other_words_at word.Open = client_stream Open
other_words_at word.Recover = client_stream Recover
other_words_at word.Purge = client_stream Purge
other_words_at word.Append = append_at
other_words_at word.Set = set_at
other_words_at word.Flush = one_client Flush
other_words_at word.Commit = one_client Commit
other_words_at word.Close = one_client Close
other_words_at word.Seek = seek_at
other_words_at word.Read = read_at
other_words_at word.Truncate = truncate_at
other_words_at word.Deliver = deliver_at
other_words_at word.Sync = one_bookie Sync
other_words_at word.Lose = one_bookie Lose
other_words_at word.Stop = stop_at
other_words_at word.StopMeta = stop_meta_at
other_words_at word.Kill = one_node Kill
other_words_at word.Up = one_node Up
other_words_at word.Settle = nothing_at Settle
other_words_at word.Mail = nothing_at Mail

-- a line at the front of a text
abbrev pub step_at : List ℕ → Result (Step × List ℕ) ℕ
step_at = map_at (λ (first, step). step) (then_at (words_from first_text 0 first_words) other_words_at)

-- a whole line
abbrev pub line_at : List ℕ → Result Step ℕ
line_at = whole_at step_at

-- the step that a whole line says, or the column at which no line goes on
abbrev pub parsed_line : List ℕ → Result Step ℕ
parsed_line line = column_of line (line_at line)
