-- What the calls of a metadata store answer and do.
use Rattle.std.specs.Prelude.{◌≡◌, ◌↔◌, ℕ, ◌+◌, ◌<◌, Bool, true, false, cond, if◌then◌else◌, List, length, Option, Some, None, Result, Ok, Err, IfOk, IfErr}
use Rattle.std.specs.Prelude.{OnOk, IsErrOf, MatchResult}
use Rattle.dl_types.specs.declared.meta_op.MetaOp.{MetaOp}
use Rattle.dl_msg.specs.declared.meta_reply.MetaReply.{MetaReply}
use Rattle.dl_depot.specs.View.{View, Keeps, LeavesOnly}
use Rattle.dl_depot.specs.Device.{Rose}
use Rattle.dl_depot.specs.declared.device_call.DeviceCall.{DeviceCall}
use Rattle.dl_depot.specs.declared.fuse.Fuse.{Fuse}
use Rattle.dl_depot.specs.declared.fuse.Outcome.{Outcome}
use Rattle.dl_journal.specs.Calls.{MakesCalls, Spent, Caught, store_calls}
use Rattle.dl_journal.specs.Settled.{Stands}
use Rattle.dl_journal.specs.Commits.{Committed, IsEmpty, start, new_journal, spare_of, commit_calls, is_gate_open}
use Rattle.dl_formats.specs.declared.conf.Conf.{Conf}
use Rattle.dl_session.specs.Sessions.{is_live}
use Rattle.dl_rules_nodes.specs.Items.{MetaItem, Setup, Expire, meta_item_bytes, meta_item_length}
use Rattle.dl_rules_nodes.specs.Metadata.{MetaNode, meta_of, does, item_of, reply_of, next_session, has_room, may_connect, with_item}
use Rattle.dl_meta.specs.declared.meta_fault.MetaFault.{MetaFault}
use Rattle.dl_meta.specs.declared.meta_fault.MetaFault.TheVariants as fault
use Rattle.dl_meta.specs.State.{MetaState, meta_in}
use Rattle.dl_meta.specs.Standing.{meta_file, HoldsItems, HoldsEither, StandsFor, OnFile}

-- ---- what is due

-- What a call does: it answers without a call on the device; it answers once an item is in force; or the journal has no room
-- for the item.
pub data Turn (A : Type 0) : Type 0 where
  Says : (answer : A) → Turn A
  Commits : (item : MetaItem) (answer : A) → Turn A
  HasNoRoom : Turn A

-- an item is committed where the journal has room for it
abbrev pub in_room : {A : Type 0} → MetaNode → MetaItem → A → Turn A
in_room n x answer = if has_room n x then Commits x answer else HasNoRoom

-- a new session
abbrev pub connect_turn : MetaNode → Turn ℕ
connect_turn n = let m = meta_of n.items in if may_connect n then Commits (next_session m) (m.sessions.last + 1) else HasNoRoom

-- the end of a session, and whether it was live
abbrev pub expire_turn : MetaNode → ℕ → Turn Bool
expire_turn n session = if is_live (meta_of n.items).sessions session then in_room n (Expire session) true else Says false

-- a request with its item, where it runs, and its reply
abbrev pub turn_by : MetaNode → Option MetaItem → Option MetaReply → Turn (Option MetaReply)
turn_by n None reply = Says reply
turn_by n (Some x) reply = in_room n x reply

-- a request of a session
abbrev pub serve_turn : MetaNode → (session number : ℕ) → MetaOp → Turn (Option MetaReply)
serve_turn n session number op = let m = meta_of n.items in turn_by n (item_of m session number op) (reply_of m session number op)

-- ---- what a call does

-- the store is as before, and no call was made
pub record Rests (Idle : Type 0) (before after : MetaState) : Type 0 where
  pub same : after ≡ before
  pub idle : Idle

-- why an item was not committed: the device failed and the store is at its end, or memory ran out before any call
abbrev pub IsStop : Type 0 → MetaState → MetaState → MetaFault → Type 0
IsStop Idle before after fault.Device = after.journal.failed ≡ true
IsStop Idle before after fault.NoMemory = Rests Idle before after
IsStop Idle before after _ = ⊥

-- the writing calls of a commit of an item
abbrev pub item_calls : MetaState → MetaItem → List DeviceCall
item_calls s x = commit_calls s.journal (meta_item_bytes x)

-- the metadata file shows a node's items
abbrev pub ShowsItems : View → MetaNode → Type 0
ShowsItems v n = (bytes : List ℕ) → v.shown meta_file ≡ Some bytes → HoldsItems n bytes

-- what a fuse that stopped a commit has left: the new item is there exactly where its gate was written
abbrev pub LeftBy : View → MetaNode → MetaItem → Outcome → ℕ → Type 0
LeftBy v n x outcome left = ShowsItems v (cond (is_gate_open outcome left) (with_item n x) n)

-- what a commit does with a fuse, unless memory ran out before it
abbrev pub SpendsFuse : {A : Type 0} → View → View → MetaNode → MetaItem → List DeviceCall → Fuse → Result A MetaFault → Type 0
SpendsFuse old new n x work f (Ok a) = Spent new meta_file work f
SpendsFuse old new n x work f (Err fault.Device) = Caught old new meta_file work (LeftBy new n x) f
SpendsFuse old new n x work f (Err _) = Unit {0}

-- where the bytes of the metadata file are told: its images in this call, and afterwards, and what a fuse does
pub record CommitsOnFile {A : Type 0} (old new : View) (n : MetaNode) (x : MetaItem) (before after : MetaState) (result : Result A MetaFault) : Type 0 where
  -- at each moment each image holds the items before, or those and the new one
  pub any_moment : LeavesOnly meta_file old new (HoldsEither n x)
  -- and after an answer each has the new one
  pub ok : OnOk result (OnFile new (with_item n x) after)
  pub spends : (f : Fuse) → old.fuse meta_file ≡ Some (Some f) → SpendsFuse old new n x (item_calls before x) f result

-- an item is committed, and then the answer is given
pub record Puts {A : Type 0} (old new : View) (Idle : Type 0) (n : MetaNode) (x : MetaItem) (answer : A) (before after : MetaState)
    (result : Result A MetaFault) : Type 0 where
  pub ok : IfOk result (λ a. (a ≡ answer) × StandsFor (with_item n x) after)
  pub stop : IfErr result (IsStop Idle before after)
  pub calls : MakesCalls old new meta_file (item_calls before x) result
  pub on_file : (shown : List ℕ) → old.shown meta_file ≡ Some shown → OnFile old n before → CommitsOnFile old new n x before after result

-- a call does what is due
abbrev pub Takes : {A : Type 0} → View → View → Type 0 → MetaNode → MetaState → MetaState → Turn A → Result A MetaFault → Type 0
Takes old new Idle n before after (Says answer) result = (result ≡ Ok answer) × Rests Idle before after
Takes old new Idle n before after (Commits x answer) result = Puts old new Idle n x answer before after result
Takes old new Idle n before after HasNoRoom result = (result ≡ Err fault.Full) × Rests Idle before after

-- ---- what each call keeps, whatever the store stands for

-- only a fault of the device raises the count of faults
abbrev pub CountsFaults : {A : Type 0} → ℕ → ℕ → Result A MetaFault → Type 0
CountsFaults before now (Err fault.Device) = Rose before now
CountsFaults before now _ = now ≡ before

-- a call works on the metadata file alone; a store that failed answers so, and does nothing
pub record Works {A : Type 0} (old new : View) (Idle : Type 0) (before after : MetaState) (result : Result A MetaFault) : Type 0 where
  pub keeps : Keeps meta_file old new
  pub stands : Stands new after.journal
  pub counts : CountsFaults (old.faults meta_file) (new.faults meta_file) result
  pub failed : IsErrOf result fault.Failed ↔ (before.journal.failed ≡ true)
  pub rests : before.journal.failed ≡ true → Rests Idle before after
