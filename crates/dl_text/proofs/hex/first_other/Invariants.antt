use Rattle.std.proofs.Common.{◌≡◌, true, take}
use Rattle.std.specs.List.{list_all}
use Rattle.dl_text.specs.Hex.{is_hex}
use Rattle.dl_text.proofs.hex.first_other.Given as goal

abbrev pub invariant-loop-i : goal.invariant-loop-i
invariant-loop-i l = list_all is_hex (take l.i l.bytes) ≡ true
