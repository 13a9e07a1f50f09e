use Rattle.std.proofs.Common.{◌≡◌, ◌≤◌, ◌+◌, ◌*◌, ◌^◌, take}
use Rattle.dl_rules_stream.specs.Listings.{digits_number}
use Rattle.dl_requests.proofs.numbers.number_of.Given as goal

abbrev pub invariant-loop-digit : goal.invariant-loop-digit
invariant-loop-digit l = record {
  value : digits_number (take l.digit-index l.digits) ≡ l.number;
  below : l.number + 23 ≤ 23 * 10 ^ l.digit-index;
}
