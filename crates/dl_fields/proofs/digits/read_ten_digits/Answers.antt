use Rattle.std.proofs.Common.{◌≡◌, ◌+◌, ◌<◌, get_or, arith}
use Rattle.dl_fields.proofs.DigitLemmas.{digit_read}
use Rattle.dl_fields.proofs.digits.read_ten_digits.Goals as goal

pub loop-byte-preserved : goal.loop-byte-preserved
loop-byte-preserved c =
    let at = c.loop-byte.byte-index in
    let here : get_or c.args.text.now at 0 ≡ 48 + c.from.result = omega (arith, c.from.ensures, c.if-not-is_ascii_digit.ensures.cases.0) in
    let digit : c.from.result < 10 = omega (arith, c.from.ensures, c.if-not-is_ascii_digit.ensures.cases.1) in
    let r = digit_read at c.loop-byte.number c.from.result c.args.text.now c.loop-byte-test.true here digit c.loop-byte.invariant.below
    c.loop-byte.invariant.spelt in
    record { below = r.0; spelt = r.1 }
