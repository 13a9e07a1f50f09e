-- The rules of segments, marks, recoveries and points bind. A transcript that breaks one of them has its first fault
-- there, at a place counted from 1; beside it stands one that keeps the rule, where it is a bound.
use Rattle.std.specs.Prelude.{◌≡◌, [], ◌∷◌, ◌++◌, Some, None}
use Rattle.dl_types.specs.Places.{place, first_place}
use Rattle.dl_transcript.specs.declared.event.Event.TheVariants.{Created, Removed, Writer, Committed, Closed, Recovered, Point, Truncated}
use Rattle.dl_transcript.specs.Examples.{fault_among, stream_s, stream_t, append_event, row_event, two_rows, point_at}

-- the rules of writers, of closed segments and of marks
pub record SegmentsBind : Type 0 where
  -- a segment with a writer is counted from 1, and is none beyond the first that isn't closed
  pub writer_zero : fault_among (Writer 0 stream_s 0 ∷ []) ≡ Some 1
  pub writer_beyond : fault_among (Writer 0 stream_s 2 ∷ []) ≡ Some 1
  pub next_writer : fault_among (Closed stream_s 1 ∷ Writer 0 stream_s 2 ∷ Writer 0 stream_s 3 ∷ []) ≡ Some 3
  -- it has one writer, also where the stream is made anew
  pub second_writer : fault_among (Writer 0 stream_s 1 ∷ Writer 0 stream_t 1 ∷ Writer 1 stream_s 1 ∷ []) ≡ Some 3
  pub writer_again : fault_among (Writer 0 stream_s 1 ∷ Removed 0 stream_s ∷ Created 0 stream_s ∷ Writer 0 stream_s 1 ∷ []) ≡ Some 4
  -- the segments of a stream are closed in order, from the first on
  pub closed_zero : fault_among (Closed stream_s 0 ∷ []) ≡ Some 1
  pub closed_beyond : fault_among (Closed stream_s 2 ∷ []) ≡ Some 1
  pub closed_twice : fault_among (Closed stream_s 1 ∷ Closed stream_t 1 ∷ Closed stream_s 1 ∷ []) ≡ Some 3
  pub closed_next : fault_among (Closed stream_s 1 ∷ Closed stream_s 2 ∷ Closed stream_t 1 ∷ []) ≡ None
  -- what is committed is a whole number of entries, none beyond the segment under way
  pub committed_beyond : fault_among (Committed stream_s (place 2 0 0) ∷ []) ≡ Some 1
  pub committed_next : fault_among (Closed stream_s 1 ∷ Committed stream_s (place 2 0 0) ∷ []) ≡ None
  pub committed_slot : fault_among (Committed stream_s (place 1 0 1) ∷ []) ≡ Some 1
  -- the mark never goes back
  pub lower_mark : fault_among (Committed stream_s (place 1 3 0) ∷ Committed stream_s (place 1 1 0)
      ∷ append_event 1 5 97 ∷ row_event (place 1 2 0) 1 5 97 ∷ []) ≡ Some 4
  pub same_mark : fault_among (Committed stream_s (place 1 3 0) ∷ Committed stream_s (place 1 1 0)
      ∷ append_event 1 5 97 ∷ row_event (place 1 3 0) 1 5 97 ∷ []) ≡ None

-- the rules of recoveries, of points and of truncations
pub record EndsBind : Type 0 where
  -- a recovery ends in a closed segment
  pub recovered_open : fault_among (Recovered 0 stream_s (place 1 0 0) ∷ []) ≡ Some 1
  pub recovered_zero : fault_among (Closed stream_s 1 ∷ Recovered 0 stream_s (place 0 0 0) ∷ []) ≡ Some 2
  pub recovered_closed : fault_among (Closed stream_s 1 ∷ Recovered 0 stream_s (place 1 0 0) ∷ []) ≡ None
  -- at a whole number of entries
  pub recovered_slot : fault_among (Closed stream_s 1 ∷ Recovered 0 stream_s (place 1 0 1) ∷ []) ≡ Some 2
  -- behind the rows of that segment
  pub recovered_row : fault_among (append_event 1 5 97 ∷ row_event (place 1 1 0) 1 5 97 ∷ Closed stream_s 1 ∷ Recovered 0 stream_s (place 1 1 0) ∷ []) ≡ Some 4
  pub recovered_behind : fault_among (two_rows ++ Closed stream_s 1 ∷ Recovered 0 stream_s (place 1 1 0) ∷ []) ≡ None
  pub recovered_before : fault_among (Closed stream_s 1 ∷ append_event 1 5 97 ∷ row_event (place 2 0 0) 1 5 97 ∷ Recovered 0 stream_s (place 1 0 0) ∷ []) ≡ None
  -- and where each recovery of that segment does
  pub same_end : fault_among (Closed stream_s 1 ∷ Recovered 0 stream_s (place 1 2 0) ∷ Recovered 1 stream_s (place 1 2 0) ∷ []) ≡ None
  pub other_end : fault_among (Closed stream_s 1 ∷ Recovered 0 stream_s (place 1 2 0) ∷ Recovered 1 stream_s (place 1 3 0) ∷ []) ≡ Some 3
  pub later_end : fault_among (Closed stream_s 1 ∷ Closed stream_s 2 ∷ Recovered 0 stream_s (place 1 2 0)
      ∷ Recovered 0 stream_s (place 2 3 0) ∷ Recovered 0 stream_s (place 1 3 0) ∷ []) ≡ Some 5
  pub stream_end : fault_among (Closed stream_s 1 ∷ Closed stream_t 1 ∷ Recovered 0 stream_s (place 1 2 0) ∷ Recovered 0 stream_t (place 1 3 0) ∷ []) ≡ None
  -- the point moves up, at most to the segment under way
  pub point_beyond : fault_among (Closed stream_s 1 ∷ Point stream_s (place 2 0 1) ∷ []) ≡ Some 2
  pub point_next : fault_among (Closed stream_s 1 ∷ Point stream_s (place 2 0 0) ∷ []) ≡ None
  pub point_first : fault_among (Closed stream_s 1 ∷ Point stream_s first_place ∷ []) ≡ Some 2
  pub point_again : fault_among (point_at 2 ++ Point stream_s (place 1 0 2) ∷ []) ≡ Some 3
  pub point_back : fault_among (point_at 2 ++ Point stream_s (place 1 0 1) ∷ []) ≡ Some 3
  -- a truncation names a point to which the stream's was moved
  pub truncated : fault_among (point_at 1 ++ Point stream_s (place 1 0 2) ∷ Truncated 0 stream_s (place 1 0 1) ∷ Truncated 1 stream_s (place 1 0 2) ∷ []) ≡ None
  pub truncated_first : fault_among (point_at 1 ++ Truncated 0 stream_s first_place ∷ []) ≡ Some 3
  pub truncated_other : fault_among (point_at 1 ++ Truncated 0 stream_s (place 1 0 2) ∷ []) ≡ Some 3
  pub truncated_stream : fault_among (point_at 1 ++ Truncated 0 stream_t (place 1 0 1) ∷ []) ≡ Some 3
