-- The rules of readers and of refusals bind, by computation.
use Rattle.std.proofs.Common.{refl}
use Rattle.dl_types.specs.Places.{after_place}
use Rattle.dl_transcript.specs.Legal.{keeps, sees, first_fault}
use Rattle.dl_transcript.specs.ReadingLaws.{ReadsBind, RowsReadBind, EndsReadBind, RefusalsBind}

-- a read begins, and comes to its end
pub reads_bind : ReadsBind
unfolding keeps sees first_fault
reads_bind = record {
  no_reader = refl;
  other_reader = refl;
  other_stream = refl;
  left_stream = refl;
  second_read = refl;
  opened_anew = refl;
  joined_anew = refl;
  joined_other = refl;
  rows_unread = refl;
  rows_stream = refl;
  rows_over = refl;
  end_unread = refl;
  end_stream = refl;
  end_over = refl;
}

-- a read finds the next rows
pub rows_read_bind : RowsReadBind
unfolding keeps sees first_fault after_place
rows_read_bind = record {
  none = refl;
  all = refl;
  front = refl;
  gap = refl;
  back = refl;
  more = refl;
  other_place = refl;
  other_id = refl;
  other_payload = refl;
  at_cursor = refl;
  below_cursor = refl;
  any_id = refl;
  at_floor = refl;
  below_floor = refl;
  first_point = refl;
  last_point = refl;
  later_point = refl;
  next_slot = refl;
  same_slot = refl;
  one_point = refl;
}

-- a read finds no row
pub ends_read_bind : EndsReadBind
unfolding keeps sees first_fault after_place
ends_read_bind = record {
  none = refl;
  below_mark = refl;
  later_mark = refl;
  at_cursor = refl;
  below_cursor = refl;
  at_floor = refl;
  below_floor = refl;
  at_point = refl;
  below_point = refl;
}

-- a read is refused
pub refusals_bind : RefusalsBind
unfolding keeps sees first_fault after_place
refusals_bind = record {
  passed = refl;
  passed_other = refl;
  passed_stream = refl;
  passed_cursor = refl;
  passed_open = refl;
  passed_unknown = refl;
  passed_no_reader = refl;
  passed_unread = refl;
  next_entry = refl;
  above_next_entry = refl;
  next_segment = refl;
  above_next_segment = refl;
  expired = refl;
  held = refl;
  moved = refl;
  no_stream = refl;
  stream_exists = refl;
  beyond_end = refl;
  not_empty = refl;
  bad_name = refl;
  gave_up = refl;
  fenced = refl;
  txid_back = refl;
  too_long = refl;
  no_writer = refl;
  busy = refl;
  window_full = refl;
  other_client = refl;
  other_passed = refl;
}
