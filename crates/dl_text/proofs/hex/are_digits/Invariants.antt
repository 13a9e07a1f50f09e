use Rattle.std.proofs.Common.{◌≡◌, take}
use Rattle.std.specs.List.{list_all}
use Rattle.dl_text.specs.Hex.{is_hex}
use Rattle.dl_text.proofs.hex.are_digits.Given as goal

abbrev pub invariant-loop-byte : goal.invariant-loop-byte
invariant-loop-byte l = l.all ≡ list_all is_hex (take l.byte-index l.bytes)
