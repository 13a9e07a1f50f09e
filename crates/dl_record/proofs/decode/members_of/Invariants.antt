use Rattle.std.proofs.Common.{◌≡◌, ◌-◌}
use Rattle.dl_record.specs.Reading.{members_at}
use Rattle.dl_record.proofs.Loop.{with_front}
use Rattle.dl_record.proofs.decode.members_of.Given as goal

abbrev pub invariant-loop : goal.invariant-loop
invariant-loop l = with_front l.payloads.items (members_at (l.count - l.counter) l.bytes l.at) ≡ members_at l.count l.bytes l.start
