-- The codes of the kinds: the byte that stands for each, and all kinds there are.
use Rattle.std.specs.Prelude.{ℕ, List, [], ◌∷◌}
use Rattle.dl_msg.specs.declared.kind.MsgKind.{MsgKind}
use Rattle.dl_msg.specs.declared.kind.MsgKind.TheVariants as kind
use Rattle.dl_msg.specs.declared.resource.Resource.{Resource}
use Rattle.dl_msg.specs.declared.resource.Resource.TheVariants as resource

-- the byte of a kind of message
abbrev pub msg_code : MsgKind → ℕ
msg_code kind.Add = 1
msg_code kind.Copy = 2
msg_code kind.AskLac = 3
msg_code kind.AskEntry = 4
msg_code kind.AddOk = 5
msg_code kind.AddFenced = 6
msg_code kind.Full = 7
msg_code kind.CopyOk = 8
msg_code kind.LacIs = 9
msg_code kind.EntryIs = 10
msg_code kind.NoEntry = 11
msg_code kind.MetaAsk = 12
msg_code kind.MetaReply = 13

-- all kinds of messages
abbrev pub msg_kinds : List MsgKind
msg_kinds =
    kind.Add ∷ kind.Copy ∷ kind.AskLac ∷ kind.AskEntry ∷ kind.AddOk ∷ kind.AddFenced ∷ kind.Full
    ∷ kind.CopyOk ∷ kind.LacIs ∷ kind.EntryIs ∷ kind.NoEntry ∷ kind.MetaAsk ∷ kind.MetaReply ∷ []

-- the byte of what a bookie wants for
abbrev pub resource_code : Resource → ℕ
resource_code resource.Pool = 1
resource_code resource.Index = 2
resource_code resource.Ledgers = 3
resource_code resource.Queue = 4
resource_code resource.Journal = 5

-- all that a bookie may have too little of
abbrev pub resources : List Resource
resources = resource.Pool ∷ resource.Index ∷ resource.Ledgers ∷ resource.Queue ∷ resource.Journal ∷ []
