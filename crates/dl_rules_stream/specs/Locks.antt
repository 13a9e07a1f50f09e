-- Taking the lock of a stream: a member of its own, which has the lock where its number is the least.
use Rattle.std.specs.Prelude.{ℕ, if◌then◌else◌, nat_lt, List, [], ◌∷◌, Option, Some, None}
use Rattle.dl_types.specs.declared.refusal.Refusal.TheVariants as refused
use Rattle.dl_types.specs.declared.why.Why.TheVariants.{NoNode}
use Rattle.dl_types.specs.declared.one_answer.OneAnswer.TheVariants.{Made, Names}
use Rattle.dl_types.specs.declared.meta_answer.MetaAnswer.{MetaAnswer}
use Rattle.dl_types.specs.declared.meta_answer.MetaAnswer.TheVariants as answer
use Rattle.dl_msg.specs.declared.heard.Heard.{Heard}
use Rattle.dl_rules_stream.specs.Requests.{MakeMember, ListMembers, LeaveLock}
use Rattle.dl_rules_stream.specs.Orders.{Next, Wait, Ask, Done, Refused, no_way_on, by_reply, stage_after}
use Rattle.dl_rules_stream.specs.Listings.{member_in, number_behind}

-- which request it waits for, the path of its member, and the least number among the members
pub data LockStage : Type 0 where
  MakingMember : LockStage
  ListingMembers : (member : List ℕ) → LockStage
  LeavingLock : (member : List ℕ) (least : ℕ) → LockStage
  LockDone : LockStage

-- the lesser of a number and the one that a name has, where it has one
abbrev pub least_with : ℕ → Option ℕ → ℕ
least_with n None = n
least_with n (Some m) = if nat_lt m n then m else n

-- the least number of members with these names, and of this one
abbrev pub least_of : ℕ → List (List ℕ) → ℕ
least_of n [] = n
least_of n (name ∷ names) = least_of (least_with n (member_in name)) names

-- another member with a lesser number has the lock
abbrev pub lock_or_leave : List ℕ → ℕ → LockStage × Next (List ℕ)
lock_or_leave member least =
    if nat_lt least (number_behind member) then (LeavingLock member least, Ask (LeaveLock member)) else (LockDone, Done member)

-- what it begins with
abbrev pub lock_first : List ℕ → LockStage × Next (List ℕ)
lock_first s = (MakingMember, Ask (MakeMember s))

-- what it does at an answer; it is done with the path of its member
unfoldable pub lock_answers : List ℕ → LockStage → MetaAnswer → LockStage × Next (List ℕ)
lock_answers s MakingMember (answer.One (Made path)) = (ListingMembers path, Ask (ListMembers s))
lock_answers s MakingMember (answer.Failed place NoNode) = (LockDone, Refused refused.NoStream)
lock_answers s MakingMember (answer.Failed place w) = (LockDone, Refused (no_way_on (MakeMember s) place w))
lock_answers s (ListingMembers member) (answer.One (Names names)) = lock_or_leave member (least_of (number_behind member) names)
lock_answers s (ListingMembers member) (answer.Failed place w) = (LockDone, Refused (no_way_on (ListMembers s) place w))
lock_answers s (LeavingLock member least) (answer.Failed place w) = (LockDone, Refused (no_way_on (LeaveLock member) place w))
lock_answers s (LeavingLock member least) a = (LockDone, Refused (refused.Held least))
lock_answers s stage a = (stage, Wait)

-- what it does at what it hears
abbrev pub lock_hears : List ℕ → LockStage → Heard → LockStage × Next (List ℕ)
lock_hears s stage h = by_reply stage (lock_answers s stage) h

-- the stage after all that it heard, the newest first
abbrev pub lock_stage : List ℕ → List Heard → LockStage
lock_stage s heard = stage_after (lock_first s) (lock_hears s) heard
