-- What a transcript has shown of its sessions, streams and clients, as far as the rules of later events ask for it.
use Rattle.std.specs.Prelude.{ℕ, Bool, if◌then◌else◌, ◌==◌, List, [], ◌∷◌, ◌++◌, Option, None, option_map, bytes_eq}
use Rattle.dl_types.specs.declared.dlsn.Dlsn.{Dlsn}
use Rattle.dl_types.specs.declared.row.Row.{Row}
use Rattle.dl_types.specs.Places.{first_place}

-- a record that was taken
pub record TakenRecord : Type 0 where
  pub stream : List ℕ
  pub txid : ℕ
  pub payload : List ℕ

-- what was shown of a stream: its rows; its points, the first of them where every stream begins, and the last of them
-- its point now; how many of its segments are closed; the place below which every row is readable; the segments that
-- had a writer, and the places at which recoveries ended, both newest first
pub record StreamHistory : Type 0 where
  pub rows : List Row
  pub points : List Dlsn
  pub closed : ℕ
  pub mark : Dlsn
  pub writers : List ℕ
  pub ends : List Dlsn

-- where a reader stands: at this place, or, until it has read a row behind an opening by an id, at one of these points
pub data Cursor : Type 0 where
  At : (place : Dlsn) → Cursor
  AtOneOf : (points : List Dlsn) → Cursor

-- what was shown of a client's reader: its stream; its cursor; the least id of its rows; and while a read is under way
-- the mark of the stream when the read began
pub record ReaderHistory : Type 0 where
  pub stream : List ℕ
  pub cursor : Cursor
  pub floor : ℕ
  pub read : Option Dlsn

-- what was shown of a client: its records, oldest first; the numbers of those acknowledged, newest first; its reader
pub record ClientHistory : Type 0 where
  pub taken : List TakenRecord
  pub acked : List ℕ
  pub reader : Option ReaderHistory

-- what was shown: how many sessions joined, which of them expired, and what was shown of each stream and client
pub record History : Type 0 where
  pub sessions : ℕ
  pub expired : List ℕ
  pub streams : List ℕ → StreamHistory
  pub clients : ℕ → ClientHistory

-- a stream of which nothing was shown
abbrev pub new_stream : StreamHistory
new_stream = record { rows = []; points = first_place ∷ []; closed = 0; mark = first_place; writers = []; ends = [] }

-- a client of which nothing was shown
abbrev pub new_client : ClientHistory
new_client = record { taken = []; acked = []; reader = None }

-- before the first event
abbrev pub no_history : History
no_history = record { sessions = 0; expired = []; streams = λ _. new_stream; clients = λ _. new_client }

-- what was shown of the stream is now this
abbrev pub put_stream : History → List ℕ → StreamHistory → History
put_stream s name x = record s { streams = λ other. if bytes_eq other name then x else s.streams other }

-- what was shown of the client is now this
abbrev pub put_client : History → ℕ → ClientHistory → History
put_client s c x = record s { clients = λ other. if other == c then x else s.clients other }

-- the client's reader is now this one, or it has none
abbrev pub put_reader : History → ℕ → Option ReaderHistory → History
put_reader s c reader = put_client s c (record (s.clients c) { reader = reader })

-- the client's reader, where it has one, is changed so
abbrev pub change_reader : History → ℕ → (ReaderHistory → ReaderHistory) → History
change_reader s c f = put_reader s c (option_map f (s.clients c).reader)

-- no read of the reader is under way any more
abbrev pub without_read : ReaderHistory → ReaderHistory
without_read r = record r { read = None }

-- the stream has one more row
abbrev pub with_row : StreamHistory → Row → StreamHistory
with_row x row = record x { rows = x.rows ++ row ∷ [] }

-- the stream's point is now here
abbrev pub with_point : StreamHistory → Dlsn → StreamHistory
with_point x d = record x { points = x.points ++ d ∷ [] }

-- one more segment of the stream had a writer
abbrev pub with_writer : StreamHistory → ℕ → StreamHistory
with_writer x k = record x { writers = k ∷ x.writers }

-- one more recovery of the stream ended here
abbrev pub with_end : StreamHistory → Dlsn → StreamHistory
with_end x d = record x { ends = d ∷ x.ends }

-- one more record of the client was taken
abbrev pub with_taken : ClientHistory → TakenRecord → ClientHistory
with_taken x t = record x { taken = x.taken ++ t ∷ [] }

-- one more record of the client is acknowledged
abbrev pub with_ack : ClientHistory → ℕ → ClientHistory
with_ack x n = record x { acked = n ∷ x.acked }
