-- Where orders with parts go, by where their parts do.
use Rattle.std.proofs.Common.{◌≡◌, ℕ, List, Option, Some, None, refl, sym, ap, ◌∙◌, subst}
use Rattle.dl_types.specs.declared.refusal.Refusal.{Refusal}
use Rattle.dl_types.specs.Places.{place}
use Rattle.dl_msg.specs.declared.turn.Turn.{Turn}
use Rattle.dl_msg.specs.declared.turn.Turn.TheVariants as turn
use Rattle.dl_formats.specs.declared.segment_name.SegmentName.{SegmentName}
use Rattle.dl_formats.specs.declared.segment_name.SegmentName.TheVariants.{Progress, Completed}
use Rattle.dl_rules_stream.specs.Allocations.{AllocationStage}
use Rattle.dl_rules_stream.specs.Listings.{last_segment}
use Rattle.dl_rules_stream.specs.Locks.{LockStage}
use Rattle.dl_rules_stream.specs.Looks as looks
use Rattle.dl_rules_stream.specs.Opens as opening
use Rattle.dl_rules_stream.specs.Orders.{Next, Wait, Ask, Tell, Done, Refused, within}
use Rattle.dl_rules_stream.specs.Recovers as recovering
use Rattle.dl_rules_stream.specs.Requests.{StartSegment}
use Rattle.dl_rules_stream.specs.SegmentRecoveries as part
use Rattle.dl_requests.specs.declared.moves.Move.TheVariants.{Stays}
use Rattle.dl_requests.specs.Turns.{answer_of, goes_by, next_by, turn_of}
use Rattle.dl_alloc.specs.Facts.{AllocationFacts}
use Rattle.dl_alloc.specs.Standing as allocation
use Rattle.dl_lock.specs.Facts.{LockFacts}
use Rattle.dl_lock.specs.Standing as lock
use Rattle.dl_segrecover.specs.declared.recovered.Recovered.{Recovered}
use Rattle.dl_segrecover.specs.declared.recovered.Recovered.TheVariants.{Closed, Again}
use Rattle.dl_segrecover.specs.Facts.{SegmentFacts}
use Rattle.dl_segrecover.specs.Standing as segment
use Rattle.dl_open.specs.declared.given.Given.{Given}
use Rattle.dl_look.specs.declared.looked.Looked.{Looked}
use Rattle.dl_open.specs.declared.next_segment.NextSegment.{NextSegment}
use Rattle.dl_open.specs.declared.open_stage.OpenStage.TheVariants as opened
use Rattle.dl_open.specs.declared.open_step.OpenStep.TheVariants as open_step
use Rattle.dl_open.specs.declared.recover_stage.RecoverStage.TheVariants as recover
use Rattle.dl_open.specs.declared.recover_step.RecoverStep.TheVariants as recover_step
use Rattle.dl_look.specs.Looking.{in_progress, looked_of}
use Rattle.dl_open.specs.Segments.{segment_args}
use Rattle.dl_open.specs.Opening as opens
use Rattle.dl_open.specs.Recovering as recovers

-- ---- a look

-- an order goes on by what a look told
pub look_told : {T B : Type 0} (wrap : looks.LookStage → T) (ended : T) (go_on : looks.Looked → T × Next B) (P : T × Next B → Type 0)
    (move : looks.LookStage × Next looks.Looked) (looked : Looked) → (looks.LookDone, Done looked) ≡ goes_by looked_of move
    → ((l : looks.Looked) → looked ≡ looked_of l → P (go_on l)) → P (within wrap ended go_on move)
look_told wrap ended go_on P (stage, Wait) looked e then = let t = ap (λ y. y.1) e in absurd cc
look_told wrap ended go_on P (stage, Ask r) looked e then = let t = ap (λ y. y.1) e in absurd cc
look_told wrap ended go_on P (stage, Tell letters) looked e then = let t = ap (λ y. y.1) e in absurd cc
look_told wrap ended go_on P (stage, Done l) looked e then = let t = ap (λ y. y.1) e in then l cc
look_told wrap ended go_on P (stage, Refused r) looked e then = let t = ap (λ y. y.1) e in absurd cc

-- it ends by the refusal of a look
pub look_refused : {T B : Type 0} (wrap : looks.LookStage → T) (ended : T) (go_on : looks.Looked → T × Next B) (P : T × Next B → Type 0)
    (move : looks.LookStage × Next looks.Looked) (refusal : Refusal) → (looks.LookDone, Refused refusal) ≡ goes_by looked_of move
    → P (ended, Refused refusal) → P (within wrap ended go_on move)
look_refused wrap ended go_on P (stage, Wait) refusal e p = let t = ap (λ y. y.1) e in absurd cc
look_refused wrap ended go_on P (stage, Ask r) refusal e p = let t = ap (λ y. y.1) e in absurd cc
look_refused wrap ended go_on P (stage, Tell letters) refusal e p = let t = ap (λ y. y.1) e in absurd cc
look_refused wrap ended go_on P (stage, Done l) refusal e p = let t = ap (λ y. y.1) e in absurd cc
look_refused wrap ended go_on P (stage, Refused r) refusal e p =
    let t = ap (λ y. y.1) e in let same : refusal ≡ r = cc in subst (λ q. P (ended, Refused q)) same p

-- it waits for the answer to a look
pub look_stays : {T B : Type 0} (wrap : looks.LookStage → T) (ended : T) (go_on : looks.Looked → T × Next B) (P : T × Next B → Type 0)
    (move : looks.LookStage × Next looks.Looked) → (looks.Looking, Wait) ≡ goes_by looked_of move → P (wrap looks.Looking, Wait)
    → P (within wrap ended go_on move)
look_stays wrap ended go_on P (stage, Wait) e p = subst (λ s. P (wrap s, Wait)) (ap (λ y. y.0) e) p
look_stays wrap ended go_on P (stage, Ask r) e p = let t = ap (λ y. y.1) e in absurd cc
look_stays wrap ended go_on P (stage, Tell letters) e p = let t = ap (λ y. y.1) e in absurd cc
look_stays wrap ended go_on P (stage, Done l) e p = let t = ap (λ y. y.1) e in absurd cc
look_stays wrap ended go_on P (stage, Refused r) e p = let t = ap (λ y. y.1) e in absurd cc

-- ---- the last segment

-- where it is in progress
progress_is : (last : Option SegmentName) (k : ℕ) → in_progress last ≡ Some k → last ≡ Some (Progress k)
progress_is None k e = absurd cc
progress_is (Some (Progress j)) k e = let same : j ≡ k = cc in ap (λ n. Some (Progress n)) same
progress_is (Some (Completed j)) k e = absurd cc

-- what a look told of it is what is kept of the look
last_is : (l : looks.Looked) (looked : Looked) (k : ℕ) → looked ≡ looked_of l → in_progress looked.last ≡ Some k
    → last_segment l.segments ≡ Some (Progress k)
last_is l looked k told is = sym (ap (λ (y : Looked). y.last) told) ∙ progress_is looked.last k is

-- and where none is in progress
none_is : (l : looks.Looked) (looked : Looked) → looked ≡ looked_of l → in_progress looked.last ≡ None → in_progress (last_segment l.segments) ≡ None
none_is l looked told is = sym (ap (λ (y : Looked). in_progress y.last) told) ∙ is

-- ---- the recovery of a stream

-- a last segment that is in progress is recovered
pub recover_told : (g : Given) (l : looks.Looked) (looked : Looked) (k : ℕ) → looked ≡ looked_of l → in_progress looked.last ≡ Some k
    → recovering.segment_goes (recovers.args_of g) (segment_args g None looked k) (part.segment_first (segment_args g None looked k))
    ≡ recovering.after_look (recovers.args_of g) l (last_segment l.segments)
recover_told g l looked k told is =
    ap (λ (y : Looked). recovering.segment_goes (recovers.args_of g) (segment_args g None y k) (part.segment_first (segment_args g None y k))) told
    ∙ sym (ap (recovering.after_look (recovers.args_of g) l) (last_is l looked k told is))

-- where none is, the stream is whole
whole_at : (x : recovering.RecoverArgs) (l : looks.Looked) (last : Option SegmentName) → in_progress last ≡ None
    → (recovering.RecoverDone, Done recovering.Whole) ≡ recovering.after_look x l last
whole_at x l None e = refl
whole_at x l (Some (Progress j)) e = absurd cc
whole_at x l (Some (Completed j)) e = refl

-- the same by what is kept of the look
pub recover_whole : (x : recovering.RecoverArgs) (l : looks.Looked) (looked : Looked) → looked ≡ looked_of l → in_progress looked.last ≡ None
    → (recovering.RecoverDone, Done recovering.Whole) ≡ recovering.after_look x l (last_segment l.segments)
recover_whole x l looked told is = whole_at x l (last_segment l.segments) (none_is l looked told is)

-- it waits where the recovery of its segment does
pub segment_stays : (x : recovering.RecoverArgs) (args : part.SegmentArgs) (s : part.SegmentStage) (k : ℕ) (f : SegmentFacts)
    (to : part.SegmentStage × Next part.Recovered) → recovers.IsRecovering args s k f → segment.IsMove args f.stage to Stays
    → recovers.IsStep (recover.Recovering k f) (recovering.segment_goes x args to) recover_step.Stays
segment_stays x args s k f (next, Wait) is m =
    record { stage = record { segment_is = is.segment_is; stands = record { given = is.stands.given; at = m.stage } }; turn = refl }
segment_stays x args s k f (next, Ask r) is m = let e = m.turn in absurd cc
segment_stays x args s k f (next, Tell letters) is m = let e = m.turn in absurd cc
segment_stays x args s k f (next, Done (part.ClosedAt count)) is m = let e = m.turn in absurd cc
segment_stays x args s k f (next, Done part.Again) is m = let e = m.turn in absurd cc
segment_stays x args s k f (next, Refused r) is m = let e = m.turn in absurd cc

-- what the rule of a recovery is done with, by what the recovery is
pub closed_is : (a : part.Recovered) (count : ℕ) → Closed count ≡ segment.recovered_of a → a ≡ part.ClosedAt count
closed_is (part.ClosedAt n) count e = let same : n ≡ count = cc in ap (λ k. part.ClosedAt k) same
closed_is part.Again count e = absurd cc

-- the same where the stream is looked at again
pub again_is : (a : part.Recovered) → Again ≡ segment.recovered_of a → a ≡ part.Again
again_is (part.ClosedAt n) e = absurd cc
again_is part.Again e = refl

-- ---- the opening of a stream

-- a last segment that is in progress is recovered first
pub open_told : (g : Given) (member : List ℕ) (l : looks.Looked) (looked : Looked) (k : ℕ) → looked ≡ looked_of l → in_progress looked.last ≡ Some k
    → opening.segment_goes (opens.args_of g) member (segment_args g (Some member) looked k) (part.segment_first (segment_args g (Some member) looked k))
    ≡ opening.after_look (opens.args_of g) member l (last_segment l.segments)
open_told g member l looked k told is =
    ap (λ (y : Looked). let a = segment_args g (Some member) y k in opening.segment_goes (opens.args_of g) member a (part.segment_first a)) told
    ∙ sym (ap (opening.after_look (opens.args_of g) member l) (last_is l looked k told is))

-- where none is, a ledger is allocated
allocates_at : (x : opening.OpenArgs) (member : List ℕ) (l : looks.Looked) (last : Option SegmentName) → in_progress last ≡ None
    → opening.allocates x member l ≡ opening.after_look x member l last
allocates_at x member l None e = refl
allocates_at x member l (Some (Progress j)) e = absurd cc
allocates_at x member l (Some (Completed j)) e = refl

-- the same by what is kept of the look
pub open_whole : (x : opening.OpenArgs) (member : List ℕ) (l : looks.Looked) (looked : Looked) → looked ≡ looked_of l
    → in_progress looked.last ≡ None → opening.allocates x member l ≡ opening.after_look x member l (last_segment l.segments)
open_whole x member l looked told is = allocates_at x member l (last_segment l.segments) (none_is l looked told is)

-- it waits where its lock does
pub lock_stays : (x : opening.OpenArgs) (s : LockStage) (f : LockFacts) (to : LockStage × Next (List ℕ)) → lock.StandsAt x.stream s f
    → (s, turn.Wait) ≡ answer_of to → opens.IsStep x (opened.Locking f) (opening.lock_goes x to) open_step.Stays
lock_stays x s f (next, Wait) at e = record { stage = subst (λ t. lock.StandsAt x.stream t f) (ap (λ y. y.0) e) at; turn = tt }
lock_stays x s f (next, Ask r) at e = let t = ap (λ y. y.1) e in absurd cc
lock_stays x s f (next, Tell letters) at e = let t = ap (λ y. y.1) e in absurd cc
lock_stays x s f (next, Done member) at e = let t = ap (λ y. y.1) e in absurd cc
lock_stays x s f (next, Refused r) at e = let t = ap (λ y. y.1) e in absurd cc

-- it waits where the recovery of its segment does
pub recovery_stays : (x : opening.OpenArgs) (member : List ℕ) (args : part.SegmentArgs) (k : ℕ) (f : SegmentFacts)
    (to : part.SegmentStage × Next part.Recovered) → k ≡ args.segment → f.given ≡ args → segment.IsMove args f.stage to Stays
    → opens.IsStep x (opened.Recovering member k f) (opening.segment_goes x member args to) open_step.Stays
recovery_stays x member args k f (next, Wait) same given m =
    record { stage = record { member_is = refl; segment_is = same; stands = record { given = given; at = m.stage } }; turn = tt }
recovery_stays x member args k f (next, Ask r) same given m = let e = m.turn in absurd cc
recovery_stays x member args k f (next, Tell letters) same given m = let e = m.turn in absurd cc
recovery_stays x member args k f (next, Done (part.ClosedAt count)) same given m = let e = m.turn in absurd cc
recovery_stays x member args k f (next, Done part.Again) same given m = let e = m.turn in absurd cc
recovery_stays x member args k f (next, Refused r) same given m = let e = m.turn in absurd cc

-- what its recovery comes to tells of the segment what the rule does
pub closed_is_recovered : (args : part.SegmentArgs) (to : part.SegmentStage × Next part.Recovered) (k : ℕ) (t : Turn Recovered) → k ≡ args.segment
    → t ≡ turn_of (next_by segment.recovered_of to.1) → opens.closed_by k t ≡ part.recovered_by args to
closed_is_recovered args (s, Wait) k t same e = ap (opens.closed_by k) e
closed_is_recovered args (s, Ask r) k t same e = ap (opens.closed_by k) e
closed_is_recovered args (s, Tell letters) k t same e = ap (opens.closed_by k) e
closed_is_recovered args (s, Done (part.ClosedAt count)) k t same e = ap (opens.closed_by k) e ∙ ap (λ n. Some (place n count 0)) same
closed_is_recovered args (s, Done part.Again) k t same e = ap (opens.closed_by k) e
closed_is_recovered args (s, Refused r) k t same e = ap (opens.closed_by k) e

-- it waits where its allocation does
pub allocation_stays : (x : opening.OpenArgs) (member : List ℕ) (l : looks.Looked) (s : AllocationStage) (n : NextSegment) (f : AllocationFacts)
    (version : ℕ) (to : AllocationStage × Next ℕ) → opens.IsAllocating x member l s member n f → (s, turn.Wait) ≡ answer_of to
    → opens.IsStep x (opened.Allocating member n f) (opening.allocation_goes x member l version to) open_step.Stays
allocation_stays x member l s n f version (next, Wait) is e =
    record {
      stage = record {
        member_is = refl;
        next_is = is.next_is;
        stands = subst (λ t. allocation.StandsAt (opening.allocation_args x member l) t f) (ap (λ y. y.0) e) is.stands;
      };
      turn = tt;
    }
allocation_stays x member l s n f version (next, Ask r) is e = let t = ap (λ y. y.1) e in absurd cc
allocation_stays x member l s n f version (next, Tell letters) is e = let t = ap (λ y. y.1) e in absurd cc
allocation_stays x member l s n f version (next, Done ledger) is e = let t = ap (λ y. y.1) e in absurd cc
allocation_stays x member l s n f version (next, Refused r) is e = let t = ap (λ y. y.1) e in absurd cc

-- the start of the next segment, once there is a ledger
abbrev pub starting : opening.OpenArgs → List ℕ → looks.Looked → (alloc_version ledger : ℕ) → opening.OpenStage × Next opening.Opened
starting x member l version ledger =
    (opening.Starting (opening.beginning_of x member l ledger version), Ask (StartSegment (opening.beginning_of x member l ledger version)))
