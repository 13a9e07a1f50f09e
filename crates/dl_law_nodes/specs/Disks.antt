-- What the disks of storage nodes hold for good. Where a node's last commit was stopped or failed, its disk may hold one of two lists:
-- then only what both have counts. The disk of a node that is lost counts as it was.
use Rattle.std.specs.Prelude.{◌≡◌, ℕ, Bool, true, not, ◌&&◌, List, Option, Some, None}
use Rattle.std.specs.List.{list_any}
use Rattle.dl_rules_nodes.specs.Items.{Item, is_add, is_entry, is_fence}
use Rattle.dl_rules_nodes.specs.Bookies.{Bookie, durable, queued_items}
use Rattle.dl_machine.specs.States.{Node}

-- storage nodes by their numbers
abbrev pub Nodes : Type 0
Nodes = ℕ → Node

-- ---- one node

-- a test of the other list that a disk may hold, which passes where there is none
abbrev pub other_passes : (List Item → Bool) → Option Bookie → Bool
other_passes p None = true
other_passes p (Some b) = p (durable b)

-- a test of each list that a node's disk may hold
abbrev pub disk_passes : (List Item → Bool) → Node → Bool
disk_passes p n = p (durable n.bookie) && other_passes p n.other

-- an item that passes a test is on a node's disk, whichever list it holds
abbrev pub disk_has : (Item → Bool) → Node → Bool
disk_has p n = disk_passes (list_any p) n

-- no item adds an entry
abbrev pub lacks_add : (ledger entry : ℕ) → List Item → Bool
lacks_add l e items = not (list_any (is_add l e) items)

-- no item that adds an entry is on a node's disk or waits
abbrev pub adds_nowhere : (ledger entry : ℕ) → Node → Bool
adds_nowhere l e n = disk_passes (lacks_add l e) n && lacks_add l e (queued_items n.bookie)

-- ---- all nodes

-- an entry that a writer added is on the disk of a bookie
abbrev pub stores : Nodes → (ledger entry bookie : ℕ) → Bool
stores k l e b = disk_has (is_add l e) (k b)

-- an entry is on the disk of a bookie, added by a writer or copied by a recovery
abbrev pub holds : Nodes → (ledger entry bookie : ℕ) → Bool
holds k l e b = disk_has (is_entry l e) (k b)

-- a fence of a ledger is on the disk of a bookie
abbrev pub fences : Nodes → (ledger bookie : ℕ) → Bool
fences k l b = disk_has (is_fence l) (k b)

-- a bookie denies an entry for good: its ledger's fence is on the disk, and no item that adds it is there or waits
abbrev pub denies : Nodes → (ledger entry bookie : ℕ) → Bool
denies k l e b = fences k l b && adds_nowhere l e (k b)

-- What stays as storage nodes go on: entries and fences on disks, and denials behind a fence.
pub record Grows (k m : Nodes) : Type 0 where
  pub stored : (l e b : ℕ) → stores k l e b ≡ true → stores m l e b ≡ true
  pub held : (l e b : ℕ) → holds k l e b ≡ true → holds m l e b ≡ true
  pub fenced : (l b : ℕ) → fences k l b ≡ true → fences m l b ≡ true
  pub denied : (l e b : ℕ) → denies k l e b ≡ true → denies m l e b ≡ true
