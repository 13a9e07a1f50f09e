use Rattle.std.proofs.Common.{◌≡◌, ◌<◌, ◌^◌, take}
use Rattle.dl_fields.specs.Digits.{digits}
use Rattle.dl_fields.proofs.digits.read_ten_digits.Given as goal

abbrev pub invariant-loop-byte : goal.invariant-loop-byte
invariant-loop-byte l = record {
  below : l.number < 10 ^ l.byte-index;
  spelt : digits l.byte-index l.number ≡ take l.byte-index l.text;
}
