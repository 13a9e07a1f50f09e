use Rattle.std.proofs.Common.{◌≡◌, ℕ, List, Result, IfOk, ap, subst}
use Rattle.dl_types.specs.declared.refusal.Refusal.{Refusal}
use Rattle.dl_formats.specs.declared.segment.SegmentMeta.{SegmentMeta}
use Rattle.dl_formats.specs.declared.segment_name.SegmentName.{SegmentName}
use Rattle.dl_formats.specs.declared.segment_name.SegmentName.TheVariants.{Progress}
use Rattle.dl_rules_stream.specs.Listings.{segment_of}
use Rattle.dl_rules_stream.specs.SegmentRecoveries.{SegmentArgs}
use Rattle.dl_segrecover.proofs.given.Given.read.Goals as goal

pub returns-clause-value : goal.returns-clause-value
returns-clause-value c =
    let x = c.args.self.now in
    let bytes = c.args.bytes.now in
    let stream : c.self.inside.stream ≡ x.stream = ap (λ (y : SegmentArgs). y.stream) c.self.view_is in
    subst (λ (s : List ℕ). IfOk c.segment_of.result (λ (read : Result SegmentMeta Refusal). read ≡ segment_of s (Progress x.segment) bytes)) stream
    (subst (λ (n : SegmentName). IfOk c.segment_of.result (λ (read : Result SegmentMeta Refusal). read ≡ segment_of c.self.inside.stream n bytes))
    c.name.ensures c.segment_of.ensures.value)
