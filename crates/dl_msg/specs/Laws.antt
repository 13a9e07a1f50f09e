-- The laws of messages.
use Rattle.std.specs.Prelude.{ℕ, Bool, List, ◌↔◌}
use Rattle.dl_types.specs.declared.meta_op.MetaOp.{MetaOp}
use Rattle.dl_fields.specs.Readers.{Exact}
use Rattle.dl_record.specs.Grammar.{IsEntryBytes}
use Rattle.dl_msg.specs.declared.meta_reply.MetaReply.{MetaReply}
use Rattle.dl_msg.specs.declared.resource.Resource.{Resource}
use Rattle.dl_msg.specs.declared.msg.Msg.TheVariants as msg
use Rattle.dl_msg.specs.Messages.{msg_bytes, IsMsg}
use Rattle.dl_msg.specs.Reading.{msg_from}
use Rattle.dl_msg.specs.Whole.{IsWhole}

-- messages are read exactly
abbrev pub MessagesAreExact : Type 0
MessagesAreExact = Exact IsMsg msg_bytes msg_from

-- A message that carries an entry is whole exactly where its bytes spell one; a message of another kind is whole.
pub record WholeByKind : Type 0 where
  pub add : (ledger entry count : ℕ) (bytes : List ℕ) → IsWhole (msg.Add ledger entry count bytes) ↔ IsEntryBytes bytes
  pub copy : (tag ledger entry count : ℕ) (bytes : List ℕ) → IsWhole (msg.Copy tag ledger entry count bytes) ↔ IsEntryBytes bytes
  pub entry_is : (tag ledger entry : ℕ) (bytes : List ℕ) → IsWhole (msg.EntryIs tag ledger entry bytes) ↔ IsEntryBytes bytes
  pub ask_lac : (tag ledger : ℕ) (fence : Bool) → IsWhole (msg.AskLac tag ledger fence)
  pub ask_entry : (tag ledger entry : ℕ) → IsWhole (msg.AskEntry tag ledger entry)
  pub add_ok : (ledger entry : ℕ) → IsWhole (msg.AddOk ledger entry)
  pub add_fenced : (ledger entry : ℕ) → IsWhole (msg.AddFenced ledger entry)
  pub full : (what : Resource) (ledger entry : ℕ) → IsWhole (msg.Full what ledger entry)
  pub copy_ok : (tag ledger entry : ℕ) → IsWhole (msg.CopyOk tag ledger entry)
  pub lac_is : (tag ledger : ℕ) (fenced : Bool) (count : ℕ) → IsWhole (msg.LacIs tag ledger fenced count)
  pub no_entry : (tag ledger entry : ℕ) (fenced : Bool) → IsWhole (msg.NoEntry tag ledger entry fenced)
  pub meta_ask : (session number : ℕ) (request : MetaOp) → IsWhole (msg.MetaAsk session number request)
  pub meta_reply : (session number : ℕ) (reply : MetaReply) → IsWhole (msg.MetaReply session number reply)
