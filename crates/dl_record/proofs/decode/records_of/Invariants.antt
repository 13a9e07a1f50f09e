use Rattle.std.proofs.Common.{◌≡◌, ◌-◌, ◌≤◌, length, eqb, None}
use Rattle.dl_record.specs.Reading.{records_at}
use Rattle.dl_record.proofs.Loop.{with_front}
use Rattle.dl_record.proofs.decode.records_of.Given as goal

abbrev pub invariant-loop : goal.invariant-loop
invariant-loop l = record {
  same : with_front l.records.items (records_at (l.count - l.counter) (eqb l.count 1) l.before l.bytes l.at) ≡ records_at l.count
      (eqb l.count 1) None l.bytes 8;
  within : l.at ≤ length l.bytes;
}
