use Rattle.dl_reader.proofs.Kept.{answers_list, answers_segment, answers_ledger, answers_stay}
use Rattle.dl_reader.proofs.Lifting.{if_ok}
use Rattle.dl_reader.proofs.hearing.after_reply.Goals as goal

pub returns-in-ListingCut : goal.returns-in-ListingCut
returns-in-ListingCut c =
    let x = c.args.given.now in
    let r = c.args.reading.now.read in
    let left = c.args.reading.now.left in
    if_ok c.at_listing.result c.at_listing.ensures (λ after hears. answers_list x r left c.args.stage.now c.args.answer.now after c.in-ListingCut.is hears)

pub returns-in-GettingSegment : goal.returns-in-GettingSegment
returns-in-GettingSegment c =
    let x = c.args.given.now in
    let r = c.args.reading.now.read in
    let left = c.args.reading.now.left in
    if_ok c.at_segment.result c.at_segment.ensures (λ after hears.
    answers_segment x r left c.args.stage.now _ c.args.answer.now after c.in-GettingSegment.is (hears r left))

pub returns-in-GettingLedger : goal.returns-in-GettingLedger
returns-in-GettingLedger c =
    let x = c.args.given.now in
    let r = c.args.reading.now.read in
    let left = c.args.reading.now.left in
    if_ok c.at_ledger.result c.at_ledger.ensures (λ after hears. answers_ledger x r left c.args.stage.now _ c.args.answer.now after c.in-GettingLedger.is hears)

pub returns-in_default : goal.returns-in_default
returns-in_default c s stands =
    answers_stay c.args.given.now c.args.reading.now.read c.args.reading.now.left s c.args.stage.now c.args.answer.now stands
    c.in_default.not-ListingCut c.in_default.not-GettingSegment c.in_default.not-GettingLedger
