use Rattle.dl_fields.proofs.DigitLemmas.{digit_put}
use Rattle.dl_fields.proofs.digits.+put_digits.Goals as goal

pub returns : goal.returns
returns t c = digit_put _ _ _ _ _ c.if-count-eq0.false c.in_ok-put_digits.ensures c.in_ok-push.ensures.items
