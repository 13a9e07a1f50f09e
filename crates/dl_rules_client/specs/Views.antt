-- A client process: its order under way, its writer and its reader. Each task in it is a view of that task: what the task was
-- started with, and what the client gave it, the newest first.
use Rattle.std.specs.Prelude.{ℕ, suc, Bool, false, List, [], ◌∷◌, Option, Some, None}
use Rattle.dl_types.specs.declared.dlsn.Dlsn.{Dlsn}
use Rattle.dl_types.specs.declared.row.Origin.{Origin}
use Rattle.dl_types.specs.declared.start.Start.{Start}
use Rattle.dl_quorum.specs.Pieces.{ring}
use Rattle.dl_msg.specs.declared.heard.Heard.{Heard}
use Rattle.dl_rules_stream.specs.Nodes.{new_sizes}
use Rattle.dl_rules_stream.specs.Opens.{OpenArgs, Opened}
use Rattle.dl_rules_stream.specs.Recovers.{RecoverArgs}
use Rattle.dl_rules_stream.specs.Closes.{CloseArgs}
use Rattle.dl_rules_stream.specs.Truncates.{TruncateArgs}
use Rattle.dl_rules_stream.specs.LogWriters.{LogArgs, LogCall, LogNow, log_of}
use Rattle.dl_rules_stream.specs.LogReaders.{ReaderArgs, LogReaderCall, ReaderNow, reader_started, reader_of}
use Rattle.dl_rules_client.specs.Acts.{ClientArgs, Acts}

-- What an order does, with all that it heard, the newest first. A commit waits for its control entry; a close first waits until
-- all that was sent is confirmed; a read is the reader's.
pub data Doing : Type 0 where
  Makes : (heard : List Heard) → Doing
  Removes : (heard : List Heard) → Doing
  Opens : (heard : List Heard) → Doing
  Recovers : (heard : List Heard) → Doing
  Commits : Doing
  Confirms : Doing
  Closes : (args : CloseArgs) (heard : List Heard) → Doing
  Seeks : (from : Start) (heard : List Heard) → Doing
  Reads : Doing
  Truncates : (to : Dlsn) (heard : List Heard) → Doing
  Purges : (heard : List Heard) → Doing

-- The order under way: the number of its line, which is the tag of its messages, its stream, and what it does.
pub record Order : Type 0 where
  pub line : ℕ
  pub stream : List ℕ
  pub doing : Doing

-- A writer: the line of its open, its stream, what the open ended with, and its log by what that was given.
pub record WriterView : Type 0 where
  pub line : ℕ
  pub stream : List ℕ
  pub opened : Opened
  pub args : LogArgs
  pub calls : List LogCall

-- A reader by the calls that it was given: where it starts, and the point of its stream then.
pub record ReaderView : Type 0 where
  pub args : ReaderArgs
  pub from : Start
  pub point : Dlsn
  pub calls : List LogReaderCall

-- What a client is: how many requests it has made, and whether the last one waits for its reply; how many records were taken,
-- those of earlier processes among them; the order under way, the writer and the reader, where there is one.
pub record ClientNow : Type 0 where
  pub asked : ℕ
  pub awaits : Bool
  pub taken : ℕ
  pub order : Option Order
  pub writer : Option WriterView
  pub reader : Option ReaderView

-- a client that has taken nothing yet
abbrev pub new_client : ClientArgs → ClientNow
new_client me = record { asked = 0; awaits = false; taken = me.calls; order = None; writer = None; reader = None }

-- what a client is after it took something, and its acts
pub record ClientMove : Type 0 where
  pub now : ClientNow
  pub acts : Acts

-- a client that takes something and stays as it is
abbrev pub stays : ClientNow → Acts → ClientMove
stays now acts = record { now = now; acts = acts }

-- ---- orders

-- what an open is started with
abbrev pub open_args : ClientArgs → Order → OpenArgs
open_args me o = record { tag = o.line; stream = o.stream; conf = me.conf }

-- what a recovery is started with
abbrev pub recover_args : ClientArgs → Order → RecoverArgs
recover_args me o = record { tag = o.line; stream = o.stream; conf = me.conf }

-- what a truncation is started with
abbrev pub truncate_args : Order → Dlsn → TruncateArgs
truncate_args o to = record { stream = o.stream; place = to }

-- an order that does something else
abbrev pub order_doing : Order → Doing → Order
order_doing o doing = record o { doing = doing }

-- ---- the writer

-- a writer's log
abbrev pub log_now : WriterView → LogNow
log_now w = log_of w.args w.calls

-- a writer with a call more
abbrev pub with_call : WriterView → LogCall → WriterView
with_call w call = record w { calls = call ∷ w.calls }

-- the writer that an open ends with
abbrev pub new_writer : ClientArgs → Order → Opened → WriterView
new_writer me o x = record {
  line = o.line;
  stream = o.stream;
  opened = x;
  args = record { segment = x.segment; last = x.last; ledger = x.ledger; pieces = ring x.ledger me.conf.b (new_sizes me.conf) };
  calls = [];
}

-- a client whose writer is this one
abbrev pub with_writer : ClientNow → WriterView → ClientNow
with_writer now w = record now { writer = Some w }

-- the origin of the next record
abbrev pub next_origin : ClientArgs → ClientNow → Origin
next_origin me now = record { client = me.number; call = suc now.taken }

-- ---- the reader

-- where a reader stands, and its read under way
abbrev pub reader_now : ReaderView → ReaderNow
reader_now r = reader_of r.args (reader_started r.point r.from) r.calls

-- a reader with a call more
abbrev pub with_reader_call : ReaderView → LogReaderCall → ReaderView
with_reader_call r call = record r { calls = call ∷ r.calls }

-- a reader that starts so, in a stream with this point
abbrev pub new_reader : ClientArgs → List ℕ → Start → Dlsn → ReaderView
new_reader me s from point = record { args = record { stream = s; conf = me.conf }; from = from; point = point; calls = [] }

-- a client whose reader is this one
abbrev pub with_reader : ClientNow → ReaderView → ClientNow
with_reader now r = record now { reader = Some r }
