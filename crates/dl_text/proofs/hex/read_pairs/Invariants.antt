use Rattle.std.proofs.Common.{◌≡◌, true, ◌+◌, ◌*◌, ◌++◌, take, length}
use Rattle.std.specs.List.{list_all}
use Rattle.dl_text.specs.Hex.{is_hex, bytes_of}
use Rattle.dl_text.proofs.hex.read_pairs.Given as goal

abbrev pub invariant-loop-rest : goal.invariant-loop-rest
invariant-loop-rest l = record {
  same : take l.at l.out ++ bytes_of l.rest ≡ bytes_of l.digits;
  size : length l.rest + 2 * l.at ≡ 2 * length l.out;
  all : list_all is_hex l.rest ≡ true;
}

abbrev pub decreases-loop-rest : goal.decreases-loop-rest
decreases-loop-rest l = length l.rest
