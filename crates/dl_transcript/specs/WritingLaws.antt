-- The rules of sessions, records, rows and acknowledgements bind. A transcript that breaks one of them has its first
-- fault there, at a place counted from 1; beside it stands one that keeps the rule, where it is a bound.
use Rattle.std.specs.Prelude.{◌≡◌, true, false, [], ◌∷◌, ◌++◌, Some, None}
use Rattle.dl_types.specs.declared.address.Address.TheVariants as node
use Rattle.dl_types.specs.Places.{place, first_place}
use Rattle.dl_transcript.specs.declared.event.Event.TheVariants.{Joined, Expired, Created, Removed, Released, Whole, Writer, Took, Sent, Grow, Ack}
use Rattle.dl_transcript.specs.declared.event.Event.TheVariants.{Committed, Closed, Purged, OpenedAt, OpenedFrom, Mail, Nothing}
use Rattle.dl_transcript.specs.Legal.{fault_of, is_legal}
use Rattle.dl_transcript.specs.Examples.{fault_among, stream_s, stream_t, append_event, row_event, grow_event, ack_event, two_rows}

-- the numbers of lines, and the rules of sessions and records
pub record SessionsBind : Type 0 where
  -- a writer's whole work is legal
  pub whole : fault_of ((2, Joined 0 1) ∷ (4, Created 0 stream_s) ∷ (6, Writer 0 stream_s 1) ∷ (7, append_event 1 5 97) ∷ (7, append_event 2 5 98)
      ∷ (8, Sent 0 1 0) ∷ (9, grow_event 0 1 5 97) ∷ (9, grow_event 1 2 5 98) ∷ (9, ack_event 0 1) ∷ (9, ack_event 1 2) ∷ (10, Nothing) ∷ []) ≡ None
  -- legal is what has no fault
  pub legal : is_legal ((1, Nothing) ∷ (1, Nothing) ∷ []) ≡ true
  pub illegal : is_legal ((1, Nothing) ∷ (1, Joined 0 2) ∷ []) ≡ false
  -- the numbers of lines don't fall
  pub line : fault_of ((7, Nothing) ∷ (8, Nothing) ∷ (7, Nothing) ∷ (9, Joined 0 2) ∷ []) ≡ Some 3
  -- what has no rule may come at any time
  pub free : fault_among (Created 0 stream_s ∷ Removed 1 stream_s ∷ Released 2 stream_s ∷ Whole 3 stream_s ∷ Sent 4 9 9 ∷ Purged 5 stream_s 7
      ∷ OpenedAt 6 stream_s (place 9 9 9) ∷ OpenedFrom 7 stream_s 9 ∷ Mail node.Meta (node.Client 1) 3 ∷ Nothing ∷ []) ≡ None
  -- a session is one more than the last, also where another client joins
  pub first_session : fault_among (Joined 0 2 ∷ []) ≡ Some 1
  pub session_zero : fault_among (Joined 0 0 ∷ []) ≡ Some 1
  pub next_session : fault_among (Joined 0 1 ∷ Joined 1 2 ∷ Joined 0 2 ∷ []) ≡ Some 3
  -- a session that joined expires, and once
  pub expired : fault_among (Joined 0 1 ∷ Joined 0 2 ∷ Expired 2 ∷ Expired 1 ∷ Joined 0 3 ∷ []) ≡ None
  pub expired_zero : fault_among (Joined 0 1 ∷ Expired 0 ∷ []) ≡ Some 2
  pub expired_unknown : fault_among (Joined 0 1 ∷ Expired 2 ∷ []) ≡ Some 2
  pub expired_twice : fault_among (Joined 0 1 ∷ Joined 0 2 ∷ Expired 1 ∷ Expired 2 ∷ Expired 1 ∷ []) ≡ Some 5
  -- a record's number is one more than the client's records, also behind another session
  pub first_call : fault_among (append_event 2 5 97 ∷ []) ≡ Some 1
  pub next_call : fault_among (append_event 1 5 97 ∷ Took 1 1 stream_s 5 [] ∷ append_event 1 5 97 ∷ []) ≡ Some 3
  pub later_call : fault_among (Joined 0 1 ∷ append_event 1 5 97 ∷ Joined 0 2 ∷ append_event 1 5 97 ∷ []) ≡ Some 4

-- the rules of rows and of their acknowledgements
pub record RowsBind : Type 0 where
  -- a row grows in the segment under way
  pub two : fault_among two_rows ≡ None
  pub later_segment : fault_among (append_event 1 5 97 ∷ row_event (place 2 0 0) 1 5 97 ∷ []) ≡ Some 2
  pub closed_segment : fault_among (Closed stream_s 1 ∷ append_event 1 5 97 ∷ row_event (place 1 9 0) 1 5 97 ∷ []) ≡ Some 3
  pub next_segment : fault_among (Closed stream_s 1 ∷ append_event 1 5 97 ∷ row_event (place 2 0 0) 1 5 97 ∷ []) ≡ None
  -- above every row
  pub same_place : fault_among (append_event 1 5 97 ∷ append_event 2 5 98 ∷ grow_event 1 1 5 97 ∷ grow_event 1 2 5 98 ∷ []) ≡ Some 4
  pub lower_place : fault_among (append_event 1 5 97 ∷ append_event 2 5 98 ∷ grow_event 1 1 5 97 ∷ grow_event 0 2 5 98 ∷ []) ≡ Some 4
  -- not below the mark
  pub below_mark : fault_among (Committed stream_s (place 1 1 0) ∷ append_event 1 5 97 ∷ grow_event 9 1 5 97 ∷ []) ≡ Some 3
  pub at_mark : fault_among (Committed stream_s (place 1 1 0) ∷ append_event 1 5 97 ∷ row_event (place 1 1 0) 1 5 97 ∷ []) ≡ None
  -- its id not below the last one
  pub lower_id : fault_among (append_event 1 5 97 ∷ append_event 2 4 98 ∷ grow_event 0 1 5 97 ∷ grow_event 1 2 4 98 ∷ []) ≡ Some 4
  pub same_id : fault_among (append_event 1 5 97 ∷ append_event 2 5 98 ∷ grow_event 0 1 5 97 ∷ grow_event 1 2 5 98 ∷ []) ≡ None
  -- as the record that was taken
  pub no_record : fault_among (grow_event 0 1 5 97 ∷ []) ≡ Some 1
  pub no_call : fault_among (append_event 1 5 97 ∷ grow_event 0 0 5 97 ∷ []) ≡ Some 2
  pub other_stream : fault_among (append_event 1 5 97 ∷ Grow stream_t first_place 5 0 1 (97 ∷ []) ∷ []) ≡ Some 2
  pub other_id : fault_among (append_event 1 5 97 ∷ grow_event 0 1 6 97 ∷ []) ≡ Some 2
  pub other_payload : fault_among (append_event 1 5 97 ∷ grow_event 0 1 5 98 ∷ []) ≡ Some 2
  -- and once
  pub second_row : fault_among (append_event 1 5 97 ∷ grow_event 0 1 5 97 ∷ grow_event 1 1 5 97 ∷ []) ≡ Some 3
  -- an acknowledgement names the place where its record stands, and comes once
  pub not_taken : fault_among (ack_event 0 1 ∷ []) ≡ Some 1
  pub no_row : fault_among (append_event 1 5 97 ∷ ack_event 0 1 ∷ []) ≡ Some 2
  pub other_row : fault_among (two_rows ++ ack_event 1 1 ∷ []) ≡ Some 5
  pub other_client : fault_among (append_event 1 5 97 ∷ Took 1 1 stream_s 5 (97 ∷ []) ∷ grow_event 0 1 5 97 ∷ Ack 1 1 first_place ∷ []) ≡ Some 4
  pub second_ack : fault_among (two_rows ++ ack_event 0 1 ∷ ack_event 1 2 ∷ ack_event 0 1 ∷ []) ≡ Some 7
