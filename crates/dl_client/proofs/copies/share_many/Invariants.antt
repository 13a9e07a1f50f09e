use Rattle.std.proofs.Common.{◌≡◌, take}
use Rattle.dl_client.proofs.copies.share_many.Given as goal

abbrev pub invariant-loop-answer : goal.invariant-loop-answer
invariant-loop-answer l = l.shared.items ≡ take l.answer-index l.answers
