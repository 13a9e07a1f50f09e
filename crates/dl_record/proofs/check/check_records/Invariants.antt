use Rattle.std.proofs.Common.{◌≡◌, ◌-◌, ◌≤◌, length, eqb, None}
use Rattle.dl_record.specs.Reading.{records_at, verdict}
use Rattle.dl_record.proofs.check.check_records.Given as goal

abbrev pub invariant-loop : goal.invariant-loop
invariant-loop l = record {
  same : verdict (records_at (l.count - l.counter) (eqb l.count 1) l.before l.bytes l.at) ≡ verdict (records_at l.count (eqb l.count 1) None l.bytes 8);
  within : l.at ≤ length l.bytes;
}
