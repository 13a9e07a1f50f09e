use Rattle.std.proofs.Common.{◌≡◌}
use Rattle.dl_text.specs.Hex.{hex_at}
use Rattle.dl_text.specs.ListFields.{list_at}
use Rattle.dl_text.proofs.ReaderLemmas.{onto}
use Rattle.dl_text.proofs.payloads.payloads_of.Given as goal

abbrev pub invariant-loop-left : goal.invariant-loop-left
invariant-loop-left l = onto l.found.items (list_at hex_at l.left l.rest) ≡ list_at hex_at l.more l.bytes

abbrev pub decreases-loop-left : goal.decreases-loop-left
decreases-loop-left l = l.left
