-- The limits of a run, and the first of them that a step passes.
use Rattle.std.specs.Prelude.{ℕ, suc, ◌+◌, ◌*◌, Bool, if◌then◌else◌, not, nat_lt, nat_le, List, [], ◌∷◌, length, drop, Option, Some, None, slice_get}
use Rattle.dl_types.specs.declared.limit.LimitName.{LimitName}
use Rattle.dl_types.specs.declared.limit.LimitName.TheVariants as limit
use Rattle.dl_msg.specs.declared.letter.Letter.{Letter}
use Rattle.dl_msg.specs.declared.msg.Msg.{Msg}
use Rattle.dl_msg.specs.Messages.{msg_bytes}
use Rattle.dl_rules_nodes.specs.Limits.{longest_journal, greatest_session}
use Rattle.dl_rules_nodes.specs.Items.{MetaItem, Expire}
use Rattle.dl_rules_nodes.specs.Metadata.{item_of, has_room, next_session}
use Rattle.dl_schedule.specs.declared.step.Step.{Step}
use Rattle.dl_schedule.specs.declared.step.Step.TheVariants as step
use Rattle.dl_machine.specs.declared.limits.TheConstants.{MOST_LINES, MOST_SCHEDULE, MOST_MESSAGES, MOST_MESSAGE_BYTES, MOST_TRANSCRIPT, MOST_CALLS}
use Rattle.dl_machine.specs.States.{State, can_take}
use Rattle.dl_machine.specs.Atoms.{Atom, SetUp, Join, Crash, End, Order, Deliver, Commit, Stop, StopMeta, Faint, Kill, KillMeta, Rise, RiseMeta, Loosen}
use Rattle.dl_machine.specs.Atoms.{Lose, Shows, MetaRequest, meta_in, request_in, atom}

-- the lines of a schedule
abbrev pub most_lines : ℕ
most_lines = MOST_LINES

-- the bytes of a schedule
abbrev pub most_schedule : ℕ
most_schedule = MOST_SCHEDULE

-- the messages of a run
abbrev pub most_messages : ℕ
most_messages = MOST_MESSAGES

-- the bytes of the messages of a run
abbrev pub most_message_bytes : ℕ
most_message_bytes = MOST_MESSAGE_BYTES

-- the bytes of a transcript
abbrev pub most_transcript : ℕ
most_transcript = MOST_TRANSCRIPT

-- the records that a client has had taken
abbrev pub most_calls : ℕ
most_calls = MOST_CALLS

-- more turns than a run within the limit on messages can take; it must never compute in a goal
unfoldable pub turn_limit : ℕ
turn_limit = 2 * most_messages + 2

-- ---- limits that are passed

-- A limit that would be passed, and its number.
pub record Past : Type 0 where
  pub name : LimitName
  pub number : ℕ

-- a limit, where it would be passed
abbrev pub past_where : Bool → LimitName → ℕ → Option Past
past_where is_past name number = if is_past then Some (record { name = name; number = number }) else None

-- the first of two
abbrev pub first_past : Option Past → Option Past → Option Past
first_past (Some p) other = Some p
first_past None other = other

-- ---- messages

-- How many messages were sent, and how many bytes they have.
pub record Traffic : Type 0 where
  pub messages : ℕ
  pub bytes : ℕ

-- nothing was sent
abbrev pub no_traffic : Traffic
no_traffic = record { messages = 0; bytes = 0 }

-- a message more
abbrev pub with_message : Traffic → Msg → Traffic
with_message t m = record { messages = suc t.messages; bytes = t.bytes + length (msg_bytes m) }

-- letters more
unfoldable pub with_traffic : Traffic → List Letter → Traffic
with_traffic t [] = t
with_traffic t (l ∷ ls) = with_traffic (with_message t l.msg) ls

-- the limit that so many messages are past: first by their count, and then by their bytes
abbrev pub past_traffic : Traffic → Option Past
past_traffic t = first_past
    (past_where (nat_lt most_messages t.messages) limit.Messages most_messages)
    (past_where (nat_lt most_message_bytes t.bytes) limit.MessageBytes most_message_bytes)

-- the limit that letters pass, one by one
unfoldable pub past_letters : Traffic → List Letter → Option Past
past_letters t [] = None
past_letters t (l ∷ ls) = let next = with_message t l.msg in first_past (past_traffic next) (past_letters next ls)

-- the letters of a state behind those of an earlier one
abbrev pub letters_since : State → State → List Letter
letters_since s now = drop (length s.letters) now.letters

-- ---- what else an atomic step may pass

-- how many records a line has
abbrev pub records_in : Step → ℕ
records_in (step.Append c txid payload) = 1
records_in (step.Set c txid payloads) = length payloads
records_in x = 0

-- the journal of the metadata node has no room for an item, where there is one
abbrev pub past_room : State → Option MetaItem → Option Past
past_room s None = None
past_room s (Some x) = past_where (not (has_room s.meta x)) limit.Journal longest_journal

-- the journal has no room for a request that runs
abbrev pub past_request : State → Option MetaRequest → Option Past
past_request s None = None
past_request s (Some r) = past_room s (item_of (meta_in s) r.session r.number r.op)

-- the same of a letter that can be delivered
abbrev pub past_delivery : State → Option Letter → Option Past
past_delivery s None = None
past_delivery s (Some l) = if can_take s l l.to then past_request s (request_in l.msg) else None

-- a session more
abbrev pub past_session : State → Option Past
past_session s = first_past
    (past_where (nat_le greatest_session (meta_in s).sessions.last) limit.Sessions greatest_session)
    (past_room s (Some (next_session (meta_in s))))

-- the limit that an atomic step passes, but for the letters that it sends
unfoldable pub past_before : State → Atom → Option Past
past_before s (SetUp conf) = None
past_before s (Join c) = past_session s
past_before s (Crash c) = None
past_before s (End k) = past_room s (Some (Expire k))
past_before s (Order c line x) = past_where (nat_lt most_calls (s.calls c + records_in x)) limit.Calls most_calls
past_before s (Deliver place) = past_delivery s (slice_get s.letters place)
past_before s (Commit b) = None
past_before s (Stop b kept) = None
past_before s (StopMeta place kept) = past_delivery s (slice_get s.letters place)
past_before s (Faint place) = None
past_before s (Kill b) = None
past_before s KillMeta = None
past_before s (Rise b) = None
past_before s RiseMeta = None
past_before s (Loosen b other) = None
past_before s (Lose b) = None
past_before s (Shows e) = None

-- the limit that an atomic step passes which leaves this state: the letters that it sends come last
abbrev pub past_at : Traffic → State → Atom → State → Option Past
past_at t s a now = first_past (past_before s a) (past_letters t (letters_since s now))

-- the first limit that atomic steps pass
unfoldable pub past_in : Traffic → State → List Atom → Option Past
past_in t s [] = None
past_in t s (a ∷ more) =
    let now = (atom s a).state in
    first_past (past_at t s a now) (past_in (with_traffic t (letters_since s now)) now more)
