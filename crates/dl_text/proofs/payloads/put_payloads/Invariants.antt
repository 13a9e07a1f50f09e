use Rattle.std.proofs.Common.{◌≡◌, ◌++◌, length}
use Rattle.dl_text.specs.Hex.{hex}
use Rattle.dl_text.specs.ListFields.{list_field}
use Rattle.dl_text.proofs.payloads.put_payloads.Given as goal

abbrev pub invariant-loop-rest : goal.invariant-loop-rest
invariant-loop-rest l = l.out.items ++ list_field hex l.rest ≡ l.fn.out.items ++ list_field hex l.payloads

abbrev pub decreases-loop-rest : goal.decreases-loop-rest
decreases-loop-rest l = length l.rest
