-- The rules of sessions, records, rows and acknowledgements bind, by computation.
use Rattle.std.proofs.Common.{refl}
use Rattle.dl_transcript.specs.Legal.{keeps, sees, first_fault}
use Rattle.dl_transcript.specs.WritingLaws.{SessionsBind, RowsBind}

-- the numbers of lines, and the rules of sessions and records
pub sessions_bind : SessionsBind
unfolding keeps sees first_fault
sessions_bind = record {
  whole = refl;
  legal = refl;
  illegal = refl;
  line = refl;
  free = refl;
  first_session = refl;
  session_zero = refl;
  next_session = refl;
  expired = refl;
  expired_zero = refl;
  expired_unknown = refl;
  expired_twice = refl;
  first_call = refl;
  next_call = refl;
  later_call = refl;
}

-- the rules of rows and of their acknowledgements
pub rows_bind : RowsBind
unfolding keeps sees first_fault
rows_bind = record {
  two = refl;
  later_segment = refl;
  closed_segment = refl;
  next_segment = refl;
  same_place = refl;
  lower_place = refl;
  below_mark = refl;
  at_mark = refl;
  lower_id = refl;
  same_id = refl;
  no_record = refl;
  no_call = refl;
  other_stream = refl;
  other_id = refl;
  other_payload = refl;
  second_row = refl;
  not_taken = refl;
  no_row = refl;
  other_row = refl;
  other_client = refl;
  second_ack = refl;
}
