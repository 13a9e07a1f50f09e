use Rattle.std.proofs.Common.{◌≡◌, ◌≤◌, drop}
use Rattle.dl_types.specs.Names.{bad_from}
use Rattle.dl_types.proofs.name.fault_of.Given as goal

abbrev pub invariant-loop-i : goal.invariant-loop-i
invariant-loop-i l = record {
  same : bad_from l.i (drop l.i l.bytes) ≡ bad_from 0 l.bytes;
  short : l.i ≤ 64;
}
