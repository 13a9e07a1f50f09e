-- Whether the next segment of a stream has at most ten digits, and what an order does then.
use Rattle.std.proofs.Common.{◌≡◌, ℕ, ◌+◌, ◌<◌, ◌≤◌, true, false, nat_lt, if◌then◌else◌, List, refl, sym, ap, subst, arith}
use Rattle.std.proofs.lemmas.Bool.Decides.{nat_tests}
use Rattle.dl_types.specs.declared.refusal.Refusal.TheVariants as refused
use Rattle.dl_msg.specs.declared.turn.Turn.{Turn}
use Rattle.dl_msg.specs.declared.turn.Turn.TheVariants as turn
use Rattle.dl_formats.specs.Keys.{MaxSeq, path_of}
use Rattle.dl_formats.specs.NodeBytes.{ten_nines}
use Rattle.dl_rules_stream.specs.Allocations.{allocation_first}
use Rattle.dl_rules_stream.specs.Looks as looks
use Rattle.dl_rules_stream.specs.Nodes.{new_sizes}
use Rattle.dl_rules_stream.specs.Opens.{OpenArgs, OpenStage, OpenDone, Opened, allocates, allocation_args, allocation_goes}
use Rattle.dl_rules_stream.specs.Orders.{Next, Refused, stage_after}
use Rattle.dl_rules_stream.specs.Requests.{MakeLedger, op_of}
use Rattle.dl_requests.specs.Tasks.{new_view}
use Rattle.dl_alloc.specs.Facts.{AllocationFacts}
use Rattle.dl_alloc.specs.Standing as allocation
use Rattle.dl_look.specs.declared.looked.Looked.{Looked}
use Rattle.dl_look.specs.Looking.{looked_of}
use Rattle.dl_open.specs.declared.new_writer.NewWriter.{NewWriter}
use Rattle.dl_open.specs.declared.next_segment.NextSegment.{NextSegment}
use Rattle.dl_open.specs.declared.open_stage.OpenStage as kept_stage
use Rattle.dl_open.specs.declared.open_stage.OpenStage.TheVariants as kept
use Rattle.dl_open.specs.declared.open_step.OpenStep.TheVariants as step
use Rattle.dl_open.specs.Opening.{IsNewWriter, IsStep}
use Rattle.dl_open.proofs.Within.{is_asked}

-- it has more
allocates_none : (x : OpenArgs) (member : List ℕ) (l : looks.Looked) (looked : Looked) → looked ≡ looked_of l → ten_nines ≤ looked.maxseq.segment
    → (OpenDone, Refused (refused.GaveUp (path_of (MaxSeq x.stream)))) ≡ allocates x member l
allocates_none x member l looked told past =
    let same : looked.maxseq.segment ≡ l.maxseq.segment = ap (λ (y : Looked). y.maxseq.segment) told in
    let more : nat_lt ten_nines (l.maxseq.segment + 1) ≡ true = grind (arith, nat_tests) in
    sym (ap (λ b. if b then (OpenDone, Refused (refused.GaveUp (path_of (MaxSeq x.stream))))
    else allocation_goes x member l 0 (allocation_first (allocation_args x member l))) more)

-- it has at most ten
allocates_one : (x : OpenArgs) (member : List ℕ) (l : looks.Looked) (looked : Looked) → looked ≡ looked_of l → looked.maxseq.segment < ten_nines
    → allocation_goes x member l 0 (allocation_first (allocation_args x member l)) ≡ allocates x member l
allocates_one x member l looked told few =
    let same : looked.maxseq.segment ≡ l.maxseq.segment = ap (λ (y : Looked). y.maxseq.segment) told in
    let more : nat_lt ten_nines (l.maxseq.segment + 1) ≡ false = grind (arith, nat_tests) in
    sym (ap (λ b. if b then (OpenDone, Refused (refused.GaveUp (path_of (MaxSeq x.stream))))
    else allocation_goes x member l 0 (allocation_first (allocation_args x member l))) more)

-- the order is refused where it has more
pub refuses_next : (x : OpenArgs) (member : List ℕ) (l : looks.Looked) (looked : Looked) (from : kept_stage.OpenStage) → looked ≡ looked_of l
    → ten_nines ≤ looked.maxseq.segment
    → IsStep x from (allocates x member l) (step.Goes kept.Over (turn.Refused (refused.GaveUp (path_of (MaxSeq x.stream)))))
refuses_next x member l looked from told past =
    subst (λ (to : OpenStage × Next Opened). IsStep x from to (step.Goes kept.Over (turn.Refused (refused.GaveUp (path_of (MaxSeq x.stream))))))
    (allocates_none x member l looked told past) (record { stage = tt; turn = refl })

-- the next segment, by what is kept of a look
abbrev pub next_in : Looked → NextSegment
next_in looked = record { segment = looked.maxseq.segment + 1; last = looked.maxseq.last; version = looked.version }

-- the allocation of its ledger begins where it has at most ten
pub begins_next : (x : OpenArgs) (member : List ℕ) (l : looks.Looked) (looked : Looked) (from : kept_stage.OpenStage) (a : AllocationFacts)
    (t : Turn NewWriter) → looked ≡ looked_of l → looked.maxseq.segment < ten_nines
    → allocation.StandsFor (new_view (allocation.given_of x.stream member looked.old looked.alloc_version x.conf)) a
    → t ≡ turn.Ask (op_of (MakeLedger (new_sizes x.conf)))
    → IsStep x from (allocates x member l) (step.Goes (kept.Allocating member (next_in looked) a) t)
unfolding stage_after
begins_next x member l looked from a t told few stands is =
    subst (λ (to : OpenStage × Next Opened). IsStep x from to (step.Goes (kept.Allocating member (next_in looked) a) t))
    (allocates_one x member l looked told few) (record {
      stage = record {
        member_is = refl;
        next_is = ap next_in told;
        stands = subst (λ (y : Looked).
            allocation.StandsFor (new_view (allocation.given_of x.stream member y.old y.alloc_version x.conf)) a) told stands;
      };
      turn = is_asked (IsNewWriter x) (MakeLedger (new_sizes x.conf)) t is;
    })
