-- What failing devices make of atomic steps.
use Rattle.std.specs.Prelude.{ℕ, suc, Bool, true, false, ◌&&◌, nat_lt, List, [], ◌∷◌, ◌++◌, map, Option, Some, None, slice_get}
use Rattle.std.specs.List.{list_all}
use Rattle.dl_types.specs.declared.address.Address.{Address}
use Rattle.dl_types.specs.declared.address.Address.TheVariants.{Client, Bookie as AtBookie, Meta as AtMeta}
use Rattle.dl_msg.specs.declared.letter.Letter.{Letter}
use Rattle.dl_rules_nodes.specs.Bookies.{Taken, Looks, Answers, Queues, table_row}
use Rattle.dl_machine.specs.States.{State}
use Rattle.dl_machine.specs.Atoms.{Atom, SetUp, Deliver, Commit, Stop, Kill, Rise, Faint, Loosen}

-- what becomes of an atomic step: no device fails; a call fails, and the disk holds the batch or not; the node goes down after it;
-- these storage nodes were not made
pub data Luck : Type 0 where
  Well : Luck
  Fails : (kept : Bool) → Luck
  Falls : Luck
  Unmade : (bookies : List ℕ) → Luck

-- A commit that fails stops the node, with the batch or without; a letter that has to be looked up goes with the node; a load that
-- fails leaves the node down, and may change what the disk holds of the last commit.
unfoldable pub steps_by_luck : Luck → Atom → List Atom
steps_by_luck (Fails kept) (Commit b) = Stop b kept ∷ []
steps_by_luck (Fails kept) (Deliver place) = Faint place ∷ []
steps_by_luck (Fails kept) (Rise b) = Loosen b kept ∷ []
steps_by_luck Falls (Commit b) = Commit b ∷ Kill b ∷ []
steps_by_luck (Unmade bookies) (SetUp conf) = SetUp conf ∷ map Kill bookies
steps_by_luck luck a = a ∷ []

-- the lucks of a line are numbered by its atomic steps
unfoldable pub with_luck : (ℕ → Luck) → ℕ → List Atom → List Atom
with_luck luck i [] = []
with_luck luck i (a ∷ more) = steps_by_luck (luck i) a ++ with_luck luck (suc i) more

-- no device fails
abbrev pub well : ℕ → Luck
well i = Well

-- ---- where a device may fail

-- a message is answered by a look at a disk
abbrev pub is_look : Taken → Bool
is_look Looks = true
is_look (Answers reply) = false
is_look (Queues reply item) = false

-- a letter is answered by a look at the disk of one of the storage nodes whose devices failed
abbrev pub looks_at : (ℕ → Bool) → State → Letter → Address → Bool
looks_at failed s l (AtBookie b) = failed b && is_look (table_row (s.nodes b).bookie l.msg)
looks_at failed s l AtMeta = false
looks_at failed s l (Client c) = false

-- the same of the letter at a place
abbrev pub may_look : (ℕ → Bool) → State → Option Letter → Bool
may_look failed s None = false
may_look failed s (Some l) = looks_at failed s l l.to

-- a step may have this luck, where the devices of these storage nodes failed: only a call on one of them fails
unfoldable pub may_have : (ℕ → Bool) → State → Luck → Atom → Bool
may_have failed s Well a = true
may_have failed s (Fails kept) (Commit b) = failed b
may_have failed s (Fails kept) (Deliver place) = may_look failed s (slice_get s.letters place)
may_have failed s (Fails kept) (Rise b) = failed b
may_have failed s Falls (Commit b) = failed b
may_have failed s (Unmade bookies) (SetUp conf) = list_all (λ b. failed b && nat_lt b conf.b) bookies
may_have failed s luck a = false
