use Rattle.dl_reader.proofs.Kept.{told_count, told_entry, messages_stay}
use Rattle.dl_reader.proofs.Lifting.{if_ok}
use Rattle.dl_reader.proofs.hearing.after_message.Goals as goal

pub returns-in-Counting : goal.returns-in-Counting
returns-in-Counting c =
    let x = c.args.given.now in
    let r = c.args.reading.now.read in
    let left = c.args.reading.now.left in
    if_ok c.at_counting.result c.at_counting.ensures (λ after hears.
    told_count x r left c.args.stage.now _ c.args.bookie c.args.msg.now after c.in-Counting.is hears)

pub returns-in-Fetching : goal.returns-in-Fetching
returns-in-Fetching c =
    let x = c.args.given.now in
    let r = c.args.reading.now.read in
    let left = c.args.reading.now.left in
    if_ok c.at_fetching.result c.at_fetching.ensures (λ after hears.
    told_entry x r left c.args.stage.now _ _ c.args.bookie c.args.msg.now after c.in-Fetching.is hears)

pub returns-in_default : goal.returns-in_default
returns-in_default c s stands =
    messages_stay c.args.given.now c.args.reading.now.read c.args.reading.now.left s c.args.stage.now c.args.bookie c.args.msg.now stands
    c.in_default.not-Counting c.in_default.not-Fetching
