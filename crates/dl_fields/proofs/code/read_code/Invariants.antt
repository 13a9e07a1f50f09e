use Rattle.std.proofs.Common.{◌≡◌, drop}
use Rattle.dl_fields.specs.Codes.{value_of_code}
use Rattle.dl_fields.proofs.code.read_code.Given as goal

abbrev pub invariant-loop-value : goal.invariant-loop-value
invariant-loop-value g l = value_of_code g.K.Code.code (drop l.value-index l.codes) l.byte ≡ value_of_code g.K.Code.code l.codes l.byte
