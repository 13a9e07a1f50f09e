-- Reading messages.
use Rattle.std.specs.Prelude.{◌≡◌, ℕ, ◌-◌, Bool, true, false, List, length, Result, Err, ◌⊎◌}
use Rattle.std.specs.Int.{w32, w64}
use Rattle.dl_fields.specs.declared.fault.Fault.{Fault}
use Rattle.dl_fields.specs.declared.fault.Fault.TheVariants as fields
use Rattle.dl_fields.specs.Readers.{then_at, map_at, nothing_from, whole_from}
use Rattle.dl_fields.specs.Fields.{number_from, counted_field_from}
use Rattle.dl_fields.specs.Codes.{code_from}
use Rattle.dl_msg.specs.declared.fault.MsgFault.{MsgFault}
use Rattle.dl_msg.specs.declared.fault.MsgFault.TheVariants as fault
use Rattle.dl_msg.specs.declared.kind.MsgKind.{MsgKind}
use Rattle.dl_msg.specs.declared.kind.MsgKind.TheVariants as kind
use Rattle.dl_msg.specs.declared.meta_reply.MetaReply.{MetaReply}
use Rattle.dl_msg.specs.declared.meta_reply.MetaReply.TheVariants as reply
use Rattle.dl_msg.specs.declared.msg.Msg.{Msg}
use Rattle.dl_msg.specs.declared.msg.Msg.TheVariants as msg
use Rattle.dl_msg.specs.Kinds.{msg_code, msg_kinds, resource_code, resources}
use Rattle.dl_fields.specs.Flags.{flag_from}
use Rattle.dl_tree_msg.specs.declared.rule.PathRule.TheVariants.{All}
use Rattle.dl_tree_msg.specs.Rules.{allows}
use Rattle.dl_tree_msg.specs.RequestReading.{request_from}
use Rattle.dl_tree_msg.specs.AnswerReading.{outcome_from}
use Rattle.dl_msg.specs.Messages.{msg_bytes, IsMsg}

-- an addition
abbrev pub add_from : List ℕ → Result (Msg × List ℕ) Fault
add_from = map_at (λ (ledger, (entry, (count, bytes))). msg.Add ledger entry count bytes)
    (then_at (number_from w64) (λ ledger. then_at (number_from w64) (λ entry. then_at (number_from w64) (λ count. counted_field_from w32))))

-- a copy
abbrev pub copy_from : List ℕ → Result (Msg × List ℕ) Fault
copy_from = map_at (λ (tag, (ledger, (entry, (count, bytes)))). msg.Copy tag ledger entry count bytes)
    (then_at (number_from w32) (λ tag. then_at (number_from w64) (λ ledger. then_at (number_from w64) (λ entry.
    then_at (number_from w64) (λ count. counted_field_from w32)))))

-- a question for the confirmed count
abbrev pub ask_lac_from : List ℕ → Result (Msg × List ℕ) Fault
ask_lac_from = map_at (λ (tag, (ledger, fence)). msg.AskLac tag ledger fence)
    (then_at (number_from w32) (λ tag. then_at (number_from w64) (λ ledger. flag_from)))

-- a ledger and an entry
abbrev pub place_from : List ℕ → Result ((ℕ × ℕ) × List ℕ) Fault
place_from = then_at (number_from w64) (λ ledger. number_from w64)

-- a tag, a ledger and an entry
abbrev pub tagged_place_from : List ℕ → Result ((ℕ × (ℕ × ℕ)) × List ℕ) Fault
tagged_place_from = then_at (number_from w32) (λ tag. place_from)

-- a question for an entry
abbrev pub ask_entry_from : List ℕ → Result (Msg × List ℕ) Fault
ask_entry_from = map_at (λ (tag, (ledger, entry)). msg.AskEntry tag ledger entry) tagged_place_from

-- an entry that is stored
abbrev pub add_ok_from : List ℕ → Result (Msg × List ℕ) Fault
add_ok_from = map_at (λ (ledger, entry). msg.AddOk ledger entry) place_from

-- an entry that is not stored, since the ledger is fenced
abbrev pub add_fenced_from : List ℕ → Result (Msg × List ℕ) Fault
add_fenced_from = map_at (λ (ledger, entry). msg.AddFenced ledger entry) place_from

-- a want of room
abbrev pub full_from : List ℕ → Result (Msg × List ℕ) Fault
full_from = map_at (λ (what, (ledger, entry)). msg.Full what ledger entry)
    (then_at (code_from resource_code resources) (λ what. place_from))

-- a copy that is stored
abbrev pub copy_ok_from : List ℕ → Result (Msg × List ℕ) Fault
copy_ok_from = map_at (λ (tag, (ledger, entry)). msg.CopyOk tag ledger entry) tagged_place_from

-- a confirmed count
abbrev pub lac_is_from : List ℕ → Result (Msg × List ℕ) Fault
lac_is_from = map_at (λ (tag, (ledger, (fenced, count))). msg.LacIs tag ledger fenced count)
    (then_at (number_from w32) (λ tag. then_at (number_from w64) (λ ledger. then_at flag_from (λ fenced. number_from w64))))

-- an entry
abbrev pub entry_is_from : List ℕ → Result (Msg × List ℕ) Fault
entry_is_from = map_at (λ (tag, (ledger, (entry, bytes))). msg.EntryIs tag ledger entry bytes)
    (then_at (number_from w32) (λ tag. then_at (number_from w64) (λ ledger. then_at (number_from w64) (λ entry. counted_field_from w32))))

-- a denial of an entry
abbrev pub no_entry_from : List ℕ → Result (Msg × List ℕ) Fault
no_entry_from = map_at (λ (tag, (ledger, (entry, fenced))). msg.NoEntry tag ledger entry fenced)
    (then_at (number_from w32) (λ tag. then_at (number_from w64) (λ ledger. then_at (number_from w64) (λ entry. flag_from))))

-- a request of a session
abbrev pub meta_ask_from : List ℕ → Result (Msg × List ℕ) Fault
meta_ask_from = map_at (λ (session, (number, request)). msg.MetaAsk session number request)
    (then_at (number_from w64) (λ session. then_at (number_from w32) (λ number. request_from (allows All))))

-- a reply behind the flag that says whether the request was run
abbrev pub reply_rest_from : Bool → List ℕ → Result (MetaReply × List ℕ) Fault
reply_rest_from false = nothing_from reply.Expired
reply_rest_from true = map_at reply.Answer outcome_from

-- a reply to a request
abbrev pub reply_from : List ℕ → Result (MetaReply × List ℕ) Fault
reply_from = map_at (λ (run, reply). reply) (then_at flag_from reply_rest_from)

-- a reply to a session
abbrev pub meta_reply_from : List ℕ → Result (Msg × List ℕ) Fault
meta_reply_from = map_at (λ (session, (number, reply)). msg.MetaReply session number reply)
    (then_at (number_from w64) (λ session. then_at (number_from w32) (λ number. reply_from)))

-- a message behind its kind
abbrev pub msg_rest_from : MsgKind → List ℕ → Result (Msg × List ℕ) Fault
msg_rest_from kind.Add = add_from
msg_rest_from kind.Copy = copy_from
msg_rest_from kind.AskLac = ask_lac_from
msg_rest_from kind.AskEntry = ask_entry_from
msg_rest_from kind.AddOk = add_ok_from
msg_rest_from kind.AddFenced = add_fenced_from
msg_rest_from kind.Full = full_from
msg_rest_from kind.CopyOk = copy_ok_from
msg_rest_from kind.LacIs = lac_is_from
msg_rest_from kind.EntryIs = entry_is_from
msg_rest_from kind.NoEntry = no_entry_from
msg_rest_from kind.MetaAsk = meta_ask_from
msg_rest_from kind.MetaReply = meta_reply_from

-- a message
abbrev pub msg_from : List ℕ → Result (Msg × List ℕ) Fault
msg_from = map_at (λ (kind, msg). msg) (then_at (code_from msg_code msg_kinds) msg_rest_from)

-- a fault with its place among so many bytes
abbrev pub fault_at : ℕ → Fault → MsgFault
fault_at size (fields.Short left) = fault.Short (size - left)
fault_at size (fields.Bad left) = fault.BadKind (size - left)
fault_at size (fields.Long left) = fault.Long (size - left)

-- the message that is all of the bytes
abbrev pub msg_at : List ℕ → Result Msg Fault
msg_at = whole_from msg_from

-- no message is spelt so
abbrev pub SpellsNone : List ℕ → Type 0
SpellsNone bytes = (m : Msg) → IsMsg m → bytes ≡ msg_bytes m → ⊥

-- this is the answer, or memory ran out
abbrev pub IsOrNoMemory : Result Msg MsgFault → Result Msg MsgFault → Type 0
IsOrNoMemory answer result = (result ≡ answer) ⊎ (result ≡ Err fault.NoMemory)

-- A fault in the order of the bytes: the first of the reading, with its place, and no message is spelt so.
pub record IsFirstFault (bytes : List ℕ) (f : MsgFault) : Type 0 where
  pub first : Fault
  pub read : msg_at bytes ≡ Err first
  pub place : f ≡ fault_at (length bytes) first
  pub none : SpellsNone bytes

-- an error is want of memory, or the first fault
abbrev pub Refuses : List ℕ → MsgFault → Type 0
Refuses bytes f = (f ≡ fault.NoMemory) ⊎ IsFirstFault bytes f
