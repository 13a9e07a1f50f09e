use Rattle.std.proofs.Common.{Some, ap}
use Rattle.dl_formats.proofs.ChildLemmas.{zero_only, progress_only, completed_only}
use Rattle.dl_formats.proofs.children.read_segment.Goals as goal

pub returns-then-segment-eq0-clause-only : goal.returns-then-segment-eq0-clause-only
returns-then-segment-eq0-clause-only c =
    let h = c.in_ok-segment-in-len1-up.ensures in
    λ s valid spelt. absurd (zero_only c.args.name.now _ h.0 h.1 c.if-segment-eq0.true s valid spelt)

pub returns-then-letter-eq112-clause-only : goal.returns-then-letter-eq112-clause-only
returns-then-letter-eq112-clause-only c =
    let h = c.in_ok-segment-in-len1-up.ensures in
    λ s valid spelt. ap Some (progress_only c.args.name.now _ h.0 h.1 c.if-letter-eq112.true s valid spelt)

pub returns-then-letter-eq99-clause-only : goal.returns-then-letter-eq99-clause-only
returns-then-letter-eq99-clause-only c =
    let h = c.in_ok-segment-in-len1-up.ensures in
    λ s valid spelt. ap Some (completed_only c.args.name.now _ h.0 h.1 c.if-letter-eq99.true s valid spelt)
