use Rattle.std.proofs.Common.{◌≡◌, refl, sym, ap, subst}
use Rattle.dl_formats.specs.declared.segment.SegmentMeta.{SegmentMeta}
use Rattle.dl_rules_ledger.specs.Readers.{Idle}
use Rattle.dl_rules_stream.specs.LogReaders as rule
use Rattle.dl_requests.specs.LedgerNodes.{node_of_meta}
use Rattle.dl_reader.specs.Readings.{ReadingFacts}
use Rattle.dl_reader.specs.Steps.{IsStep}
use Rattle.dl_reader.proofs.Lifting.{if_ok}
use Rattle.dl_reader.proofs.ledgers.after_meta.Goals as goal

pub returns-in_ok-walk-in-Completed : goal.returns-in_ok-walk-in-Completed
returns-in_ok-walk-in-Completed c =
    let x = c.args.given.now in
    let r = c.args.reading.now.read in
    let left = c.args.reading.now.left in
    let m = node_of_meta c.args.meta in
    let at = c.in-Completed in
    let tag : r.tag ≡ c.reading.inside.tag = sym (ap (λ (k : ReadingFacts). k.read.tag) c.reading.view_is) in
    if_ok c.reads_upto.result c.reads_upto.ensures (λ step reads.
    subst (λ (s : SegmentMeta). IsStep x r left (rule.after_ledger x r s left m) step) (sym at.is)
    (reads (rule.walk_of x r at.segment at.ledger m left) Idle (c.in_ok-walk-in-Completed.ensures r left tag) refl))

pub returns-in_ok-walk-in-InProgress : goal.returns-in_ok-walk-in-InProgress
returns-in_ok-walk-in-InProgress c =
    let x = c.args.given.now in
    let r = c.args.reading.now.read in
    let left = c.args.reading.now.left in
    let m = node_of_meta c.args.meta in
    let at = c.in-InProgress in
    let tag : r.tag ≡ c.reading.inside.tag = sym (ap (λ (k : ReadingFacts). k.read.tag) c.reading.view_is) in
    if_ok c.in_progress.result c.in_progress.ensures (λ step reads.
    subst (λ (s : SegmentMeta). IsStep x r left (rule.after_ledger x r s left m) step) (sym at.is)
    (reads (rule.walk_of x r at.segment at.ledger m left) Idle (c.in_ok-walk-in-InProgress.ensures r left tag) refl))
