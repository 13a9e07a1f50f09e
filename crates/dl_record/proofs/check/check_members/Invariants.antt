use Rattle.std.proofs.Common.{◌≡◌, ◌-◌}
use Rattle.dl_record.specs.Reading.{members_at, verdict}
use Rattle.dl_record.proofs.check.check_members.Given as goal

abbrev pub invariant-loop : goal.invariant-loop
invariant-loop l = verdict (members_at (l.count - l.counter) l.bytes l.at) ≡ verdict (members_at l.count l.bytes l.start)
