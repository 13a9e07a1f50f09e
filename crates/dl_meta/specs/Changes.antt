-- The items that changes stand for.
use Rattle.std.specs.Prelude.{Option, Some, None}
use Rattle.dl_rules_nodes.specs.Items.{MetaItem, Setup, Connect, Expire, Ask, MetaKind, AConf, AConnect, AnExpire, AnAsk}
use Rattle.dl_meta.specs.declared.change.Change.{Change}
use Rattle.dl_meta.specs.declared.change.Change.TheVariants as change
use Rattle.dl_meta.specs.declared.change.Kind.{Kind}
use Rattle.dl_meta.specs.declared.change.Kind.TheVariants as kind

-- the item of a change
abbrev pub item_for : Change → MetaItem
item_for (change.Setup conf) = Setup conf
item_for (change.Connect session) = Connect session
item_for (change.Expire session) = Expire session
item_for (change.Ask session number op) = Ask session number op

-- the kind of an item
abbrev pub kind_for : Kind → MetaKind
kind_for kind.Conf = AConf
kind_for kind.Connect = AConnect
kind_for kind.Expire = AnExpire
kind_for kind.Ask = AnAsk

-- the same of a kind that may be none
abbrev pub maybe_kind : Option Kind → Option MetaKind
maybe_kind None = None
maybe_kind (Some k) = Some (kind_for k)
