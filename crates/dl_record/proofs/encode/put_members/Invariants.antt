use Rattle.std.proofs.Common.{◌≡◌, ◌++◌, take}
use Rattle.std.specs.List.{flat_map}
use Rattle.dl_record.specs.Grammar.{member_bytes}
use Rattle.dl_record.proofs.encode.put_members.Given as goal

abbrev pub invariant-loop-payload : goal.invariant-loop-payload
invariant-loop-payload l = l.out.items ≡ l.initial.out.items ++ flat_map member_bytes (take l.payload-index l.payloads)
