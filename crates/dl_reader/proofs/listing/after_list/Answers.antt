use Rattle.std.proofs.Common.{◌≡◌, ◌≤◌, ℕ, false, nat_le, nat_lt, List, filter, ap, ◌∙◌, subst, arith}
use Rattle.std.proofs.lemmas.Bool.Decides.{nat_tests}
use Rattle.dl_types.specs.declared.dlsn.Dlsn.{Dlsn}
use Rattle.dl_formats.specs.declared.segment_name.SegmentName.{SegmentName}
use Rattle.dl_rules_stream.specs.Listings.{number_of}
use Rattle.dl_rules_stream.specs.LogReaders as rule
use Rattle.dl_reader.specs.Steps.{IsStep}
use Rattle.dl_reader.proofs.Lifting.{if_ok}
use Rattle.dl_reader.proofs.listing.after_list.Goals as goal

-- the segments are walked from the cursor's on, where no purge has overtaken it
listed_on : (x : rule.ReaderArgs) (r : rule.Read) (segments : List SegmentName) (point : Dlsn) (least : ℕ) (left : List SegmentName)
    → least ≡ r.from.cursor.segment → rule.least_segment point segments ≤ least
    → left ≡ filter (λ (s : SegmentName). nat_le least (number_of s)) segments → rule.walks x r left ≡ rule.after_list x r segments point
listed_on x r segments point least left at_cursor listed left_is =
    let off : nat_lt r.from.cursor.segment (rule.least_segment point segments) ≡ false = grind (arith, nat_tests) in
    rw off (ap (rule.walks x r) (left_is ∙ ap (λ (n : ℕ). filter (λ (s : SegmentName). nat_le n (number_of s)) segments) at_cursor))

pub returns : goal.returns
returns c =
    let x = c.args.given.now in
    let r = c.args.reading.now.read in
    let segments = c.args.segments.now in
    let first = c.first_segment-first in
    let listed : rule.least_segment c.args.point segments ≤ first.result =
    subst (λ (n : ℕ). n ≤ first.result) c.least_segment.ensures c.if-first-least_segment.false in
    if_ok c.walks_these.result c.walks_these.ensures (λ step gives.
    subst (λ (m : rule.ReadMove). IsStep x r c.args.reading.now.left m step)
    (listed_on x r segments c.args.point first.result c.in_ok-segments.segments.items first.ensures listed c.in_ok-segments.ensures)
    (gives r c.args.reading.now.left))
