-- What is known of the values of events by the lines of the schedule.
use Rattle.std.specs.Prelude.{◌≡◌, ℕ, suc, ◌+◌, ◌*◌, ◌≤◌, List, [], ◌∷◌, length, Option, Some, None}
use Rattle.std.specs.List.{AllByRecursion}
use Rattle.dl_types.specs.declared.meta_answer.MetaAnswer.{MetaAnswer}
use Rattle.dl_types.specs.declared.meta_answer.MetaAnswer.TheVariants as answer
use Rattle.dl_types.specs.declared.meta_op.MetaOp.{MetaOp}
use Rattle.dl_types.specs.declared.one_answer.OneAnswer.{OneAnswer}
use Rattle.dl_types.specs.declared.one_answer.OneAnswer.TheVariants.{Made, Done, Version, Bytes, Names}
use Rattle.dl_types.specs.declared.why.Why.{Why}
use Rattle.dl_types.specs.declared.why.Why.TheVariants.{NoNode, NodeExists, BadVersion, NotEmpty, EphemeralParent, Spent}
use Rattle.dl_codec.specs.Fields.{IsBytes}
use Rattle.dl_fields.specs.Paths.{IsPathField}
use Rattle.dl_text.specs.NameFields.{IsName}
use Rattle.dl_text.specs.Numbers.{most_u32, most_u64}
use Rattle.dl_text.specs.PlaceFields.{IsPlaceFrom}
use Rattle.dl_msg.specs.declared.letter.Letter.{Letter}
use Rattle.dl_msg.specs.declared.meta_reply.MetaReply.{MetaReply}
use Rattle.dl_msg.specs.declared.meta_reply.MetaReply.TheVariants as reply
use Rattle.dl_msg.specs.declared.msg.Msg.{Msg}
use Rattle.dl_msg.specs.declared.msg.Msg.TheVariants as msg
use Rattle.dl_schedule.specs.declared.step.TheConstants.{MAX_SET}
use Rattle.dl_schedule.specs.declared.step.Step.{Step}
use Rattle.dl_schedule.specs.declared.step.Step.TheVariants as step
use Rattle.dl_schedule.specs.StepLines.{IsStep, IsClient, IsCount, IsLink}
use Rattle.dl_transcript.specs.Ranges.{IsU32, IsU64, IsSession, IsEvent}
use Rattle.dl_rules_stream.specs.LogWriters.{set_size}
use Rattle.dl_rules_stream.specs.Requests.{Request, MakeStream, MakeAgain, RemoveStream, MakeMember, ListMembers, LeaveLock, Look, MakeLedger, TakeLedger}
use Rattle.dl_rules_stream.specs.Requests.{StartSegment, GetSegment, GetLedger, MarkLedger, CloseLedger, CompleteSegment, ListCut, LookCut, SetCut}
use Rattle.dl_rules_stream.specs.Requests.{DropSegment, op_of}
use Rattle.dl_rules_client.specs.Acts.{Input, Line, Came, ClientArgs, Acts}
use Rattle.dl_rules_client.specs.Clients.{acts_of}

-- it holds of the value, where there is one
abbrev pub AllSome : {A : Type 0} → (A → Type 0) → Option A → Type 0
AllSome P None = Unit {0}
AllSome P (Some x) = P x

-- ---- requests

-- What is said of a request: its stream is a name, the member that it names is a path, and the point that it sets is a place of a
-- segment.
abbrev pub RequestFits : Request → Type 0
RequestFits (MakeStream s) = IsName s
RequestFits (MakeAgain s) = IsName s
RequestFits (RemoveStream s) = IsName s
RequestFits (MakeMember s) = IsName s
RequestFits (ListMembers s) = IsName s
RequestFits (LeaveLock member) = IsPathField member
RequestFits (Look s) = IsName s
RequestFits (MakeLedger q) = Unit {0}
RequestFits (TakeLedger s member old version ledger) = IsName s × IsPathField member
RequestFits (StartSegment b) = IsName b.stream × IsPathField b.member
RequestFits (GetSegment s segment) = IsName s
RequestFits (GetLedger ledger) = Unit {0}
RequestFits (MarkLedger ledger q version) = Unit {0}
RequestFits (CloseLedger ledger q count version) = Unit {0}
RequestFits (CompleteSegment c) = IsName c.stream × AllSome IsPathField c.member
RequestFits (ListCut s) = IsName s
RequestFits (LookCut s) = IsName s
RequestFits (SetCut s point version) = IsName s × IsPlaceFrom 1 point
RequestFits (DropSegment s segment ledger) = IsName s

-- An operation that is asked for is that of a request.
pub record OpFits (op : MetaOp) : Type 0 where
  pub request : Request
  pub same : op ≡ op_of request
  pub fits : RequestFits request

-- ---- replies

-- what one operation answers: what was made has a path, and what was read is bytes
abbrev pub OneAnswerFits : OneAnswer → Type 0
OneAnswerFits (Made path) = IsPathField path
OneAnswerFits Done = Unit {0}
OneAnswerFits (Version now) = Unit {0}
OneAnswerFits (Bytes bytes version) = IsBytes bytes
OneAnswerFits (Names names) = Unit {0}

-- why an operation failed: a version and a count of children have 64 bits
abbrev pub WhyFits : Why → Type 0
WhyFits NoNode = Unit {0}
WhyFits NodeExists = Unit {0}
WhyFits (BadVersion now) = IsU64 now
WhyFits (NotEmpty count) = IsU64 count
WhyFits EphemeralParent = Unit {0}
WhyFits Spent = Unit {0}

-- an answer of the metadata node
abbrev pub AnswerFits : MetaAnswer → Type 0
AnswerFits (answer.One a) = OneAnswerFits a
AnswerFits (answer.Many answers) = AllByRecursion OneAnswerFits answers
AnswerFits (answer.Failed place why) = WhyFits why

-- a reply of the metadata node
abbrev pub ReplyFits : MetaReply → Type 0
ReplyFits reply.Expired = Unit {0}
ReplyFits (reply.Answer a) = AnswerFits a

-- ---- letters and lines

-- an entry has a number of 64 bits, and bytes
abbrev pub IsEntryOf : ℕ → List ℕ → Type 0
IsEntryOf entry bytes = IsU64 entry × IsBytes bytes

-- what a message asks for, or replies, and the entry that it carries
abbrev pub MsgFits : Msg → Type 0
MsgFits (msg.Add ledger entry count bytes) = IsEntryOf entry bytes
MsgFits (msg.Copy tag ledger entry count bytes) = IsEntryOf entry bytes
MsgFits (msg.EntryIs tag ledger entry bytes) = IsEntryOf entry bytes
MsgFits (msg.MetaAsk session number op) = OpFits op
MsgFits (msg.MetaReply session number r) = ReplyFits r
MsgFits m = Unit {0}

-- a letter is on a link, and what it asks for, tells or carries fits
abbrev pub LetterFits : Letter → Type 0
LetterFits l = IsLink l.from l.to × MsgFits l.msg

-- a line whose payloads, as a set, have a length of 64 bits
abbrev pub IsCountable : Step → Type 0
IsCountable (step.Append c txid payload) = set_size (payload ∷ []) ≤ most_u64
IsCountable (step.Set c txid payloads) = set_size payloads ≤ most_u64
IsCountable x = Unit {0}

-- a line is one that the grammar takes, with a number of 32 bits, and a letter fits
abbrev pub IsInput : Input → Type 0
IsInput (Line number x) = IsU32 number × (IsStep x × IsCountable x)
IsInput (Came l) = LetterFits l

-- how many lines are among these
abbrev pub lines_in : List Input → ℕ
lines_in [] = 0
lines_in (Line number x ∷ view) = suc (lines_in view)
lines_in (Came l ∷ view) = lines_in view

-- the most records of a line
abbrev pub set_most : ℕ
set_most = MAX_SET

-- A client of a world of 1 to 16 storage nodes that takes at most so many lines, and so many lines and letters: the records of the
-- lines have numbers of 32 bits, and all that it takes can be counted in 64 bits.
pub record ArgsFit (lines inputs : ℕ) (me : ClientArgs) : Type 0 where
  pub number : IsClient me.number
  pub session : IsSession me.session
  pub count : IsCount me.conf.b
  pub calls : me.calls + set_most * lines ≤ most_u32
  pub counted : inputs ≤ most_u64

-- What a client does: its events are such as a line can say, and its letters fit.
pub record ClientActsFit (acts : Acts) : Type 0 where
  pub events : AllByRecursion IsEvent acts.events
  pub letters : AllByRecursion LetterFits acts.letters

-- What a client does as it takes something fits, where the lines that it took are such as the grammar takes, and the letters such as
-- fit.
abbrev pub ClientEventsFit : Type 0
ClientEventsFit = (me : ClientArgs) (view : List Input) (x : Input)
    → ArgsFit (lines_in (x ∷ view)) (length (x ∷ view)) me → AllByRecursion IsInput (x ∷ view)
    → ClientActsFit (acts_of me view x)
