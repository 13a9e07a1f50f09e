-- Messages whose entries are whole.
use Rattle.dl_record.specs.Grammar.{IsEntryBytes}
use Rattle.dl_msg.specs.declared.msg.Msg.{Msg}
use Rattle.dl_msg.specs.declared.msg.Msg.TheVariants as msg

-- the bytes of an entry that a message carries spell an entry
abbrev pub IsWhole : Msg → Type 0
IsWhole (msg.Add ledger entry count bytes) = IsEntryBytes bytes
IsWhole (msg.Copy tag ledger entry count bytes) = IsEntryBytes bytes
IsWhole (msg.EntryIs tag ledger entry bytes) = IsEntryBytes bytes
IsWhole m = Unit {0}
