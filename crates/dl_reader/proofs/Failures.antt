-- What the rule says of a request that failed.
use Rattle.std.proofs.Common.{◌≡◌, ◌≢◌, ℕ, List, refl}
use Rattle.dl_types.specs.declared.why.Why.{Why}
use Rattle.dl_types.specs.declared.why.Why.TheVariants.{NoNode, NodeExists, BadVersion, NotEmpty, EphemeralParent, Spent}
use Rattle.dl_types.specs.declared.meta_answer.MetaAnswer.TheVariants as answer
use Rattle.dl_formats.specs.declared.segment.SegmentMeta.{SegmentMeta}
use Rattle.dl_formats.specs.declared.segment_name.SegmentName.{SegmentName}
use Rattle.dl_rules_stream.specs.Requests.{ListCut, GetSegment, GetLedger}
use Rattle.dl_rules_stream.specs.Orders.{Refused, no_way_on}
use Rattle.dl_rules_stream.specs.Listings.{ledger_of}
use Rattle.dl_rules_stream.specs.LogReaders.{ReaderArgs, Read, NoRead, ListingCut, GettingSegment, GettingLedger, read_answers}

-- where a stream can't be listed that is there, there is no way on
pub failed_list : (x : ReaderArgs) (r : Read) (place : ℕ) (w : Why) → w ≢ NoNode
    → read_answers x (ListingCut r) (answer.Failed place w) ≡ (NoRead, Refused (no_way_on (ListCut x.stream) place w))
unfolding read_answers
failed_list x r place NoNode other = absurd (other refl)
failed_list x r place NodeExists other = refl
failed_list x r place (BadVersion now) other = refl
failed_list x r place (NotEmpty count) other = refl
failed_list x r place EphemeralParent other = refl
failed_list x r place Spent other = refl

-- where a segment can't be read that is there, there is no way on
pub failed_segment : (x : ReaderArgs) (r : Read) (segment : SegmentName) (rest : List SegmentName) (place : ℕ) (w : Why) → w ≢ NoNode
    → read_answers x (GettingSegment r segment rest) (answer.Failed place w) ≡ (NoRead, Refused (no_way_on (GetSegment x.stream segment) place w))
unfolding read_answers
failed_segment x r segment rest place NoNode other = absurd (other refl)
failed_segment x r segment rest place NodeExists other = refl
failed_segment x r segment rest place (BadVersion now) other = refl
failed_segment x r segment rest place (NotEmpty count) other = refl
failed_segment x r segment rest place EphemeralParent other = refl
failed_segment x r segment rest place Spent other = refl

-- where a ledger's node can't be read that is there, there is no way on
pub failed_ledger : (x : ReaderArgs) (r : Read) (m : SegmentMeta) (number : ℕ) (rest : List SegmentName) (place : ℕ) (w : Why) → w ≢ NoNode
    → read_answers x (GettingLedger r m number rest) (answer.Failed place w) ≡ (NoRead, Refused (no_way_on (GetLedger (ledger_of m)) place w))
unfolding read_answers
failed_ledger x r m number rest place NoNode other = absurd (other refl)
failed_ledger x r m number rest place NodeExists other = refl
failed_ledger x r m number rest place (BadVersion now) other = refl
failed_ledger x r m number rest place (NotEmpty count) other = refl
failed_ledger x r m number rest place EphemeralParent other = refl
failed_ledger x r m number rest place Spent other = refl
