-- The rules of readers and of refusals bind. A transcript that breaks one of them has its first fault there, at a place
-- counted from 1; beside it stands one that keeps the rule, where it is a bound.
use Rattle.std.specs.Prelude.{◌≡◌, ℕ, ◌-◌, ◌^◌, List, [], ◌∷◌, ◌++◌, Option, Some, None, codes}
use Rattle.dl_types.specs.declared.dlsn.Dlsn.{Dlsn}
use Rattle.dl_types.specs.declared.read_row.ReadRow.{ReadRow}
use Rattle.dl_types.specs.declared.refusal.Refusal.TheVariants as refusal
use Rattle.dl_types.specs.Places.{place, first_place}
use Rattle.dl_transcript.specs.declared.event.Event.{Event}
use Rattle.dl_transcript.specs.declared.event.Event.TheVariants.{Joined, Took, Grow, Committed, Closed, Point, OpenedAt, Reading, End, Rows, Refused}
use Rattle.dl_transcript.specs.Examples.{fault_among, fault_after_refusal, stream_s, stream_t, append_event, row_event, two_rows, row_a, row_b, read_at}
use Rattle.dl_transcript.specs.Examples.{read_from, rows_event, point_at, passed_event}

-- a read begins, and comes to its end
pub record ReadsBind : Type 0 where
  -- a read begins on the stream of its client's reader
  pub no_reader : fault_among (Reading 0 stream_s ∷ []) ≡ Some 1
  pub other_reader : fault_among (OpenedAt 0 stream_s first_place ∷ Reading 1 stream_s ∷ []) ≡ Some 2
  pub other_stream : fault_among (OpenedAt 0 stream_s first_place ∷ Reading 0 stream_t ∷ []) ≡ Some 2
  pub left_stream : fault_among (OpenedAt 0 stream_s first_place ∷ OpenedAt 0 stream_t first_place ∷ Reading 0 stream_s ∷ []) ≡ Some 3
  -- while none is under way
  pub second_read : fault_among (read_at first_place ++ Reading 0 stream_s ∷ []) ≡ Some 3
  pub opened_anew : fault_among (read_at first_place ++ read_from 5 ++ read_at first_place) ≡ None
  -- a client that joins has no reader, and the others keep theirs
  pub joined_anew : fault_among (read_at first_place ++ Joined 0 1 ∷ Reading 0 stream_s ∷ []) ≡ Some 4
  pub joined_other : fault_among (OpenedAt 0 stream_s first_place ∷ Joined 1 1 ∷ Reading 0 stream_s ∷ []) ≡ None
  -- rows are given to a read of that stream, which is then over
  pub rows_unread : fault_among (two_rows ++ OpenedAt 0 stream_s first_place ∷ rows_event (row_a ∷ []) ∷ []) ≡ Some 6
  pub rows_stream : fault_among (Took 1 1 stream_t 5 (97 ∷ []) ∷ Grow stream_t first_place 5 1 1 (97 ∷ [])
      ∷ read_at first_place ++ Rows 0 stream_t (row_a ∷ []) ∷ []) ≡ Some 5
  pub rows_over : fault_among (two_rows ++ read_at first_place ++ rows_event (row_a ∷ []) ∷ rows_event (row_b ∷ []) ∷ []) ≡ Some 8
  -- and so is a read told that it found none
  pub end_unread : fault_among (OpenedAt 0 stream_s first_place ∷ End 0 stream_s ∷ []) ≡ Some 2
  pub end_stream : fault_among (read_at first_place ++ End 0 stream_t ∷ []) ≡ Some 3
  pub end_over : fault_among (read_at first_place ++ End 0 stream_s ∷ End 0 stream_s ∷ []) ≡ Some 4

-- the first fault where these rows are read in the stream s with its two rows behind these events
abbrev pub fault_reading : List Event → List ReadRow → Option ℕ
fault_reading front rows = fault_among (two_rows ++ front ++ rows_event rows ∷ [])

-- a read finds the next rows
pub record RowsReadBind : Type 0 where
  -- some of them, without a gap, in their order
  pub none : fault_reading (read_at first_place) [] ≡ Some 7
  pub all : fault_reading (read_at first_place) (row_a ∷ row_b ∷ []) ≡ None
  pub front : fault_reading (read_at first_place) (row_a ∷ []) ≡ None
  pub gap : fault_reading (read_at first_place) (row_b ∷ []) ≡ Some 7
  pub back : fault_reading (read_at first_place) (row_b ∷ row_a ∷ []) ≡ Some 7
  pub more : fault_reading (read_at first_place) (row_a ∷ row_b ∷ row_b ∷ []) ≡ Some 7
  -- as they stand
  pub other_place : fault_reading (read_at first_place) (record row_a { place = place 1 0 1 } ∷ []) ≡ Some 7
  pub other_id : fault_reading (read_at first_place) (record row_a { txid = 6 } ∷ []) ≡ Some 7
  pub other_payload : fault_reading (read_at first_place) (record row_a { payload = 98 ∷ [] } ∷ []) ≡ Some 7
  -- from the cursor on
  pub at_cursor : fault_reading (read_at (place 1 0 1)) (row_b ∷ []) ≡ None
  pub below_cursor : fault_reading (read_at (place 1 0 1)) (row_a ∷ row_b ∷ []) ≡ Some 7
  -- with any ids
  pub any_id : fault_among (append_event 1 0 97 ∷ row_event first_place 1 0 97 ∷ read_at first_place ++ rows_event (record row_a { txid = 0 } ∷ []) ∷ []) ≡ None
  -- or with ids not below the floor
  pub at_floor : fault_reading (read_from 6) (row_b ∷ []) ≡ None
  pub below_floor : fault_reading (read_from 6) (row_a ∷ row_b ∷ []) ≡ Some 7
  -- behind an opening by an id from any of the points so far
  pub first_point : fault_reading (point_at 1 ++ read_from 0) (row_a ∷ []) ≡ None
  pub last_point : fault_reading (point_at 1 ++ read_from 0) (row_b ∷ []) ≡ None
  pub later_point : fault_reading (Closed stream_s 1 ∷ read_from 0 ++ Point stream_s (place 1 0 1) ∷ []) (row_b ∷ []) ≡ Some 9
  -- and then from the slot behind the last row that was read
  pub next_slot : fault_reading (read_at first_place ++ rows_event (row_a ∷ []) ∷ Reading 0 stream_s ∷ []) (row_b ∷ []) ≡ None
  pub same_slot : fault_reading (read_at first_place ++ rows_event (row_a ∷ row_b ∷ []) ∷ Reading 0 stream_s ∷ []) (row_b ∷ []) ≡ Some 9
  pub one_point : fault_reading (point_at 1 ++ read_from 0 ++ rows_event (row_a ∷ []) ∷ Reading 0 stream_s ∷ []) (row_a ∷ []) ≡ Some 11

-- a read finds no row
pub record EndsReadBind : Type 0 where
  -- where none stands below the mark with which it began
  pub none : fault_among (two_rows ++ read_at first_place ++ End 0 stream_s ∷ []) ≡ None
  pub below_mark : fault_among (two_rows ++ Committed stream_s (place 1 1 0) ∷ read_at first_place ++ End 0 stream_s ∷ []) ≡ Some 8
  pub later_mark : fault_among (two_rows ++ read_at first_place ++ Committed stream_s (place 1 1 0) ∷ End 0 stream_s ∷ []) ≡ None
  -- at the cursor or above it
  pub at_cursor : fault_among (two_rows ++ Committed stream_s (place 1 1 0) ∷ read_at (place 1 0 1) ++ End 0 stream_s ∷ []) ≡ Some 8
  pub below_cursor : fault_among (two_rows ++ Committed stream_s (place 1 1 0) ∷ read_at (place 1 0 2) ++ End 0 stream_s ∷ []) ≡ None
  -- with an id not below the floor
  pub at_floor : fault_among (two_rows ++ Committed stream_s (place 1 1 0) ∷ read_from 6 ++ End 0 stream_s ∷ []) ≡ Some 8
  pub below_floor : fault_among (two_rows ++ Committed stream_s (place 1 1 0) ∷ read_from 7 ++ End 0 stream_s ∷ []) ≡ None
  -- behind an opening by an id at the last of the points or above it
  pub at_point : fault_among (two_rows ++ point_at 1 ++ Committed stream_s (place 1 1 0) ∷ read_from 0 ++ End 0 stream_s ∷ []) ≡ Some 10
  pub below_point : fault_among (two_rows ++ point_at 2 ++ Committed stream_s (place 1 1 0) ∷ read_from 0 ++ End 0 stream_s ∷ []) ≡ None

-- the first fault where a row at a place was read, the stream's point is now another place, and the next read is refused
-- since that has passed it
abbrev pub fault_passed : Dlsn → Dlsn → Option ℕ
fault_passed last point = fault_among (append_event 1 5 97 ∷ row_event last 1 5 97 ∷ Closed stream_s 1 ∷ Closed stream_s 2 ∷ Point stream_s point
    ∷ read_at first_place ++ rows_event (record row_a { place = last } ∷ []) ∷ Reading 0 stream_s ∷ passed_event point ∷ [])

-- a read is refused
pub record RefusalsBind : Type 0 where
  -- a point that has passed a reader is one of its stream's
  pub passed : fault_among (point_at 1 ++ read_at first_place ++ passed_event (place 1 0 1) ∷ Reading 0 stream_s ∷ []) ≡ None
  pub passed_other : fault_among (point_at 1 ++ read_at first_place ++ passed_event (place 1 0 2) ∷ []) ≡ Some 5
  pub passed_stream : fault_among (Closed stream_t 1 ∷ Point stream_t (place 1 0 1) ∷ read_at first_place ++ passed_event (place 1 0 1) ∷ []) ≡ Some 5
  -- and above its cursor
  pub passed_cursor : fault_among (point_at 1 ++ read_at (place 1 0 1) ++ passed_event (place 1 0 1) ∷ []) ≡ Some 5
  -- any of the points, behind an opening by an id
  pub passed_open : fault_among (point_at 1 ++ read_from 0 ++ passed_event first_place ∷ []) ≡ None
  pub passed_unknown : fault_among (point_at 1 ++ read_from 0 ++ passed_event (place 1 0 2) ∷ []) ≡ Some 5
  -- while a read is under way
  pub passed_no_reader : fault_among (passed_event (place 9 9 9) ∷ []) ≡ None
  pub passed_unread : fault_among (OpenedAt 0 stream_s first_place ∷ passed_event (place 9 9 9) ∷ []) ≡ None
  -- behind the last slot of an entry a reader stands in the next entry, and behind that of a segment in the next segment
  pub next_entry : fault_passed (place 1 0 (2 ^ 32 - 1)) (place 1 1 0) ≡ Some 10
  pub above_next_entry : fault_passed (place 1 0 (2 ^ 32 - 1)) (place 1 1 1) ≡ None
  pub next_segment : fault_passed (place 1 (2 ^ 64 - 1) (2 ^ 32 - 1)) (place 2 0 0) ≡ Some 10
  pub above_next_segment : fault_passed (place 1 (2 ^ 64 - 1) (2 ^ 32 - 1)) (place 2 0 1) ≡ None
  -- a read is over behind a refusal of its client
  pub expired : fault_after_refusal 0 (refusal.Expired 1) ≡ None
  pub held : fault_after_refusal 0 (refusal.Held 0) ≡ None
  pub moved : fault_after_refusal 0 (refusal.Moved (codes "/a") 1) ≡ None
  pub no_stream : fault_after_refusal 0 refusal.NoStream ≡ None
  pub stream_exists : fault_after_refusal 0 refusal.StreamExists ≡ None
  pub beyond_end : fault_after_refusal 0 (refusal.BeyondEnd first_place) ≡ None
  pub not_empty : fault_after_refusal 0 (refusal.NotEmpty 1) ≡ None
  pub bad_name : fault_after_refusal 0 (refusal.BadName 0) ≡ None
  pub gave_up : fault_after_refusal 0 (refusal.GaveUp (codes "/a")) ≡ None
  -- but for those of a record and of a writer, and for that of an order beside it
  pub fenced : fault_after_refusal 0 (refusal.Fenced 2) ≡ Some 4
  pub txid_back : fault_after_refusal 0 (refusal.TxidBack 5 4) ≡ Some 4
  pub too_long : fault_after_refusal 0 (refusal.TooLong 9) ≡ Some 4
  pub no_writer : fault_after_refusal 0 refusal.NoWriter ≡ Some 4
  pub busy : fault_after_refusal 0 (refusal.Busy 9) ≡ Some 4
  pub window_full : fault_after_refusal 0 refusal.WindowFull ≡ Some 4
  -- and behind one of another client it is under way
  pub other_client : fault_after_refusal 1 refusal.NoStream ≡ Some 4
  pub other_passed : fault_after_refusal 1 (refusal.Truncated first_place) ≡ Some 4
