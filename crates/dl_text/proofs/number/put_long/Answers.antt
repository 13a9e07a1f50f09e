use Rattle.std.proofs.Common.{arith}
use Rattle.dl_text.proofs.NumberLemmas.{digits_few}
use Rattle.dl_text.proofs.number.put_long.Goals as goal

pub write_digits-start-requires : goal.write_digits-start-requires
write_digits-start-requires c = (digits_few c.args.n c.ranges.n.fits, omega arith)
