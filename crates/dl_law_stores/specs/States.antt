-- What holds of the letters and the storage nodes of a state of the machine.
use Rattle.std.specs.Prelude.{ℕ, List, Option, Some, None}
use Rattle.std.specs.List.{AllByRecursion}
use Rattle.dl_types.specs.declared.address.Address.{Address}
use Rattle.dl_types.specs.declared.address.Address.TheVariants.{Client, Bookie as AtBookie, Meta as AtMeta}
use Rattle.dl_msg.specs.declared.letter.Letter.{Letter}
use Rattle.dl_msg.specs.declared.msg.Msg.{Msg}
use Rattle.dl_msg.specs.declared.msg.Msg.TheVariants as msg
use Rattle.dl_formats.specs.declared.conf.Conf.{Conf}
use Rattle.dl_rules_client.specs.Acts.{Input, Came}
use Rattle.dl_rules_client.specs.Clients.{acts_of}
use Rattle.dl_machine.specs.States.{State, Joined, args_of}
use Rattle.dl_law_nodes.specs.Disks.{Nodes}
use Rattle.dl_law_nodes.specs.Promises.{Shapes, AskHolds, AnswerHolds, AllHold}

-- what a message of the metadata node to a client is: a reply
abbrev pub IsReply : Msg → Type 0
IsReply (msg.MetaReply session number r) = Unit {0}
IsReply m = ⊥

-- what a message promises, by whom it is for and whom it is from
abbrev pub PostHolds : Shapes → Nodes → (to from : Address) → Msg → Type 0
PostHolds shape k (AtBookie b) (Client c) m = AskHolds shape k m
PostHolds shape k (AtBookie b) (AtBookie d) m = Unit {0}
PostHolds shape k (AtBookie b) AtMeta m = Unit {0}
PostHolds shape k (Client c) (AtBookie b) m = AnswerHolds shape k b m
PostHolds shape k (Client c) AtMeta m = IsReply m
PostHolds shape k (Client c) (Client d) m = ⊥
PostHolds shape k AtMeta from m = Unit {0}

-- what a letter promises
abbrev pub LetterHolds : Shapes → Nodes → Letter → Type 0
LetterHolds shape k l = PostHolds shape k l.to l.from l.msg

-- What holds of storage nodes and of all letters: they keep their promises.
pub record Holds (shape : Shapes) (k : Nodes) (letters : List Letter) : Type 0 where
  pub nodes : AllHold shape k
  pub each : AllByRecursion (LetterHolds shape k) letters

-- the same of a state
abbrev pub StateHolds : Shapes → State → Type 0
StateHolds shape s = Holds shape s.nodes s.letters

-- ---- what clients tell

-- the letters that a client sends as it takes something keep their promises, where it has joined
abbrev pub ClientTells : Shapes → State → ℕ → Option Conf → Option Joined → Input → Type 0
ClientTells shape s c (Some conf) (Some me) x =
    AllByRecursion (LetterHolds shape s.nodes) (acts_of (args_of conf c me) me.view x).letters
ClientTells shape s c (Some conf) None x = Unit {0}
ClientTells shape s c None me x = Unit {0}

-- what the one for whom a letter is sends, where that is a client
abbrev pub ReceiverTells : Shapes → State → Letter → Address → Type 0
ReceiverTells shape s l (Client c) = ClientTells shape s c s.conf (s.clients c) (Came l)
ReceiverTells shape s l (AtBookie b) = Unit {0}
ReceiverTells shape s l AtMeta = Unit {0}

-- the same of the letter at a place, where there is one
abbrev pub PlaceTells : Shapes → State → Option Letter → Type 0
PlaceTells shape s None = Unit {0}
PlaceTells shape s (Some l) = ReceiverTells shape s l l.to
