-- Kinds of messages, and what a bookie has too little of, are read exactly.
use Rattle.std.proofs.Common.{refl, lit<}
use Rattle.dl_fields.specs.Readers.{Exact}
use Rattle.dl_fields.specs.Codes.{code_byte, code_from}
use Rattle.dl_fields.proofs.KindLemmas.{Coded, kinds_exact}
use Rattle.dl_msg.specs.declared.kind.MsgKind.{MsgKind}
use Rattle.dl_msg.specs.declared.kind.MsgKind.TheVariants as kind
use Rattle.dl_msg.specs.declared.resource.Resource.{Resource}
use Rattle.dl_msg.specs.declared.resource.Resource.TheVariants as resource
use Rattle.dl_msg.specs.Kinds.{msg_code, msg_kinds, resource_code, resources}

-- each kind is of the list, by its code
msg_coded : (k : MsgKind) → Coded msg_code msg_kinds k
msg_coded kind.Add = ((0, lit< tt, refl), (refl, lit< tt))
msg_coded kind.Copy = ((1, lit< tt, refl), (refl, lit< tt))
msg_coded kind.AskLac = ((2, lit< tt, refl), (refl, lit< tt))
msg_coded kind.AskEntry = ((3, lit< tt, refl), (refl, lit< tt))
msg_coded kind.AddOk = ((4, lit< tt, refl), (refl, lit< tt))
msg_coded kind.AddFenced = ((5, lit< tt, refl), (refl, lit< tt))
msg_coded kind.Full = ((6, lit< tt, refl), (refl, lit< tt))
msg_coded kind.CopyOk = ((7, lit< tt, refl), (refl, lit< tt))
msg_coded kind.LacIs = ((8, lit< tt, refl), (refl, lit< tt))
msg_coded kind.EntryIs = ((9, lit< tt, refl), (refl, lit< tt))
msg_coded kind.NoEntry = ((10, lit< tt, refl), (refl, lit< tt))
msg_coded kind.MetaAsk = ((11, lit< tt, refl), (refl, lit< tt))
msg_coded kind.MetaReply = ((12, lit< tt, refl), (refl, lit< tt))

-- A kind of message is read exactly.
pub msg_kind_exact : Exact (λ (k : MsgKind). Unit {0}) (code_byte msg_code) (code_from msg_code msg_kinds)
msg_kind_exact = kinds_exact msg_code msg_kinds msg_coded

-- each resource is of the list, by its code
resource_coded : (k : Resource) → Coded resource_code resources k
resource_coded resource.Pool = ((0, lit< tt, refl), (refl, lit< tt))
resource_coded resource.Index = ((1, lit< tt, refl), (refl, lit< tt))
resource_coded resource.Ledgers = ((2, lit< tt, refl), (refl, lit< tt))
resource_coded resource.Queue = ((3, lit< tt, refl), (refl, lit< tt))
resource_coded resource.Journal = ((4, lit< tt, refl), (refl, lit< tt))

-- A resource is read exactly.
pub resource_exact : Exact (λ (k : Resource). Unit {0}) (code_byte resource_code) (code_from resource_code resources)
resource_exact = kinds_exact resource_code resources resource_coded
