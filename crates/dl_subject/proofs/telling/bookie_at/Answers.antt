use Rattle.std.proofs.Common.{◌+◌, ◌%◌, ◌<◌, arith, mod-lt}
use Rattle.dl_subject.proofs.telling.bookie_at.Goals as goal

pub new-requires : goal.new-requires
new-requires c =
    let x = c.args.ensemble.now in
    let less : (x.first + c.args.place) % x.bookies < x.bookies = mod-lt (x.first + c.args.place) (omega (arith, x.rule.one_of_them)) in
    omega (arith, c.bookie.ensures, less, x.rule.few)
