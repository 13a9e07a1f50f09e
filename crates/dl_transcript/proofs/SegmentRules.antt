-- The rules of segments, marks, recoveries and points bind, by computation.
use Rattle.std.proofs.Common.{refl}
use Rattle.dl_transcript.specs.Legal.{keeps, sees, first_fault}
use Rattle.dl_transcript.specs.SegmentLaws.{SegmentsBind, EndsBind}

-- the rules of writers, of closed segments and of marks
pub segments_bind : SegmentsBind
unfolding keeps sees first_fault
segments_bind = record {
  writer_zero = refl;
  writer_beyond = refl;
  next_writer = refl;
  second_writer = refl;
  writer_again = refl;
  closed_zero = refl;
  closed_beyond = refl;
  closed_twice = refl;
  closed_next = refl;
  committed_beyond = refl;
  committed_next = refl;
  committed_slot = refl;
  lower_mark = refl;
  same_mark = refl;
}

-- the rules of recoveries, of points and of truncations
pub ends_bind : EndsBind
unfolding keeps sees first_fault
ends_bind = record {
  recovered_open = refl;
  recovered_zero = refl;
  recovered_closed = refl;
  recovered_slot = refl;
  recovered_row = refl;
  recovered_behind = refl;
  recovered_before = refl;
  same_end = refl;
  other_end = refl;
  later_end = refl;
  stream_end = refl;
  point_beyond = refl;
  point_next = refl;
  point_first = refl;
  point_again = refl;
  point_back = refl;
  truncated = refl;
  truncated_first = refl;
  truncated_other = refl;
  truncated_stream = refl;
}
