-- Which items of the metadata node may stand behind others, and the bodies of their batches.
use Rattle.std.specs.Prelude.{◌≡◌, ℕ, ◌+◌, Bool, true, false, List, [], ◌∷◌, ◌++◌}
use Rattle.std.specs.List.{Contains}
use Rattle.dl_tree_msg.specs.declared.rule.PathRule.TheVariants.{AllButConf}
use Rattle.dl_tree_msg.specs.Rules.{allows}
use Rattle.dl_tree_msg.specs.Requests.{IsAllowed}
use Rattle.dl_session.specs.Sessions.{Known, number_in, is_live}
use Rattle.dl_rules_nodes.specs.Items.{MetaItem, Setup, Connect, Expire, Ask, meta_kind, meta_item_bytes, IsMetaItem}
use Rattle.dl_rules_nodes.specs.Metadata.{Meta, meta_of}
use Rattle.dl_rules_nodes.specs.MetaReading.{kinds_due, is_above}

-- what an item asks of the sessions before it: a session that is given is the next one, another one is live; the number of a
-- request is above the last one run, and the request leaves the configuration as it is
abbrev pub FitsSessions : Known → MetaItem → Type 0
FitsSessions known (Setup conf) = Unit {0}
FitsSessions known (Connect session) = session ≡ known.last + 1
FitsSessions known (Expire session) = is_live known session ≡ true
FitsSessions known (Ask session number op) =
    (is_live known session ≡ true) × ((is_above (number_in known.live session) number ≡ true) × IsAllowed (allows AllButConf) op)

-- An item may come, as the first one or as a later one, after those that leave these sessions.
pub record IsDue (is_first : Bool) (known : Known) (x : MetaItem) : Type 0 where
  pub kind : Contains (kinds_due is_first) (meta_kind x)
  pub spelt : IsMetaItem x
  pub fits : FitsSessions known x

-- whether no item stands before the next one
abbrev pub is_first_behind : List MetaItem → Bool
is_first_behind [] = true
is_first_behind (x ∷ older) = false

-- each item may come behind the older ones
abbrev pub AreInOrder : List MetaItem → Type 0
AreInOrder [] = Unit {0}
AreInOrder (x ∷ older) = IsDue (is_first_behind older) (meta_of older).sessions x × AreInOrder older

-- the bodies of the batches of items, the oldest first
abbrev pub bodies_of : List MetaItem → List (List ℕ)
bodies_of [] = []
bodies_of (x ∷ older) = bodies_of older ++ meta_item_bytes x ∷ []
