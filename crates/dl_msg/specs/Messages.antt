-- Messages: the one spelling of each, and which have one.
use Rattle.std.specs.Prelude.{ℕ, Bool, true, false, List, [], ◌++◌}
use Rattle.std.specs.Int.{w32, w64}
use Rattle.dl_codec.specs.Fields.{field}
use Rattle.dl_fields.specs.Fields.{Fits, counted_field, IsCounted}
use Rattle.dl_fields.specs.Codes.{code_byte}
use Rattle.dl_msg.specs.declared.kind.MsgKind.{MsgKind}
use Rattle.dl_msg.specs.declared.kind.MsgKind.TheVariants as kind
use Rattle.dl_msg.specs.declared.meta_reply.MetaReply.{MetaReply}
use Rattle.dl_msg.specs.declared.meta_reply.MetaReply.TheVariants as reply
use Rattle.dl_msg.specs.declared.msg.Msg.{Msg}
use Rattle.dl_msg.specs.declared.msg.Msg.TheVariants as msg
use Rattle.dl_msg.specs.Kinds.{msg_code, resource_code}
use Rattle.dl_fields.specs.Flags.{flag_byte}
use Rattle.dl_tree_msg.specs.Requests.{request_bytes, IsRequest}
use Rattle.dl_tree_msg.specs.Answers.{outcome_bytes, IsOutcome}

-- ---- the reply to a request

-- whether the request was run
abbrev pub was_run : MetaReply → Bool
was_run reply.Expired = false
was_run (reply.Answer a) = true

-- a reply behind that flag
abbrev pub reply_rest : MetaReply → List ℕ
reply_rest reply.Expired = []
reply_rest (reply.Answer a) = outcome_bytes a

-- the spelling of a reply
abbrev pub reply_bytes : MetaReply → List ℕ
reply_bytes r = flag_byte (was_run r) ++ reply_rest r

-- the replies that have a spelling
abbrev pub IsReply : MetaReply → Type 0
IsReply reply.Expired = Unit {0}
IsReply (reply.Answer a) = IsOutcome a

-- ---- messages

-- the kind of a message
abbrev pub msg_kind : Msg → MsgKind
msg_kind (msg.Add ledger entry count bytes) = kind.Add
msg_kind (msg.Copy tag ledger entry count bytes) = kind.Copy
msg_kind (msg.AskLac tag ledger fence) = kind.AskLac
msg_kind (msg.AskEntry tag ledger entry) = kind.AskEntry
msg_kind (msg.AddOk ledger entry) = kind.AddOk
msg_kind (msg.AddFenced ledger entry) = kind.AddFenced
msg_kind (msg.Full what ledger entry) = kind.Full
msg_kind (msg.CopyOk tag ledger entry) = kind.CopyOk
msg_kind (msg.LacIs tag ledger fenced count) = kind.LacIs
msg_kind (msg.EntryIs tag ledger entry bytes) = kind.EntryIs
msg_kind (msg.NoEntry tag ledger entry fenced) = kind.NoEntry
msg_kind (msg.MetaAsk session number request) = kind.MetaAsk
msg_kind (msg.MetaReply session number r) = kind.MetaReply

-- a message behind its kind
abbrev pub msg_rest : Msg → List ℕ
msg_rest (msg.Add ledger entry count bytes) = field w64 ledger ++ (field w64 entry ++ (field w64 count ++ counted_field w32 bytes))
msg_rest (msg.Copy tag ledger entry count bytes) = field w32 tag ++ (field w64 ledger ++ (field w64 entry ++ (field w64 count ++ counted_field w32 bytes)))
msg_rest (msg.AskLac tag ledger fence) = field w32 tag ++ (field w64 ledger ++ flag_byte fence)
msg_rest (msg.AskEntry tag ledger entry) = field w32 tag ++ (field w64 ledger ++ field w64 entry)
msg_rest (msg.AddOk ledger entry) = field w64 ledger ++ field w64 entry
msg_rest (msg.AddFenced ledger entry) = field w64 ledger ++ field w64 entry
msg_rest (msg.Full what ledger entry) = code_byte resource_code what ++ (field w64 ledger ++ field w64 entry)
msg_rest (msg.CopyOk tag ledger entry) = field w32 tag ++ (field w64 ledger ++ field w64 entry)
msg_rest (msg.LacIs tag ledger fenced count) = field w32 tag ++ (field w64 ledger ++ (flag_byte fenced ++ field w64 count))
msg_rest (msg.EntryIs tag ledger entry bytes) = field w32 tag ++ (field w64 ledger ++ (field w64 entry ++ counted_field w32 bytes))
msg_rest (msg.NoEntry tag ledger entry fenced) = field w32 tag ++ (field w64 ledger ++ (field w64 entry ++ flag_byte fenced))
msg_rest (msg.MetaAsk session number request) = field w64 session ++ (field w32 number ++ request_bytes request)
msg_rest (msg.MetaReply session number r) = field w64 session ++ (field w32 number ++ reply_bytes r)

-- the spelling of a message
abbrev pub msg_bytes : Msg → List ℕ
msg_bytes m = code_byte msg_code (msg_kind m) ++ msg_rest m

-- the messages that have a spelling: numbers and lengths fit their fields, and so on
abbrev pub IsMsg : Msg → Type 0
IsMsg (msg.Add ledger entry count bytes) = Fits w64 ledger × (Fits w64 entry × (Fits w64 count × IsCounted w32 bytes))
IsMsg (msg.Copy tag ledger entry count bytes) = Fits w32 tag × (Fits w64 ledger × (Fits w64 entry × (Fits w64 count × IsCounted w32 bytes)))
IsMsg (msg.AskLac tag ledger fence) = Fits w32 tag × Fits w64 ledger
IsMsg (msg.AskEntry tag ledger entry) = Fits w32 tag × (Fits w64 ledger × Fits w64 entry)
IsMsg (msg.AddOk ledger entry) = Fits w64 ledger × Fits w64 entry
IsMsg (msg.AddFenced ledger entry) = Fits w64 ledger × Fits w64 entry
IsMsg (msg.Full what ledger entry) = Fits w64 ledger × Fits w64 entry
IsMsg (msg.CopyOk tag ledger entry) = Fits w32 tag × (Fits w64 ledger × Fits w64 entry)
IsMsg (msg.LacIs tag ledger fenced count) = Fits w32 tag × (Fits w64 ledger × Fits w64 count)
IsMsg (msg.EntryIs tag ledger entry bytes) = Fits w32 tag × (Fits w64 ledger × (Fits w64 entry × IsCounted w32 bytes))
IsMsg (msg.NoEntry tag ledger entry fenced) = Fits w32 tag × (Fits w64 ledger × Fits w64 entry)
IsMsg (msg.MetaAsk session number request) = Fits w64 session × (Fits w32 number × IsRequest request)
IsMsg (msg.MetaReply session number r) = Fits w64 session × (Fits w32 number × IsReply r)
