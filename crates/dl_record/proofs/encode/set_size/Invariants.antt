use Rattle.std.proofs.Common.{◌≡◌, ◌+◌, ◌≤◌, length, drop}
use Rattle.std.specs.List.{flat_map}
use Rattle.dl_record.specs.declared.limits.TheConstants.{PAYLOAD_MAX}
use Rattle.dl_record.specs.Grammar.{member_bytes, set_bytes}
use Rattle.dl_record.proofs.encode.set_size.Given as goal

abbrev pub invariant-loop-payload : goal.invariant-loop-payload
invariant-loop-payload l = record {
  left : l.size + length (flat_map member_bytes (drop l.payload-index l.payloads)) ≡ length (set_bytes l.payloads);
  short : l.size ≤ PAYLOAD_MAX;
}
