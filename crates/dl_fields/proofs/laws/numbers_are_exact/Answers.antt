use Rattle.std.specs.Int.{w8, w16, w32, w64}
use Rattle.dl_codec.proofs.FieldLaws.{width_8, width_16, width_32, width_64}
use Rattle.dl_fields.proofs.FieldLemmas.{width_exact}
use Rattle.dl_fields.proofs.laws.numbers_are_exact.Goals as goal

pub returns-clause-bits_8 : goal.returns-clause-bits_8
returns-clause-bits_8 c = width_exact w8 width_8

pub returns-clause-bits_16 : goal.returns-clause-bits_16
returns-clause-bits_16 c = width_exact w16 width_16

pub returns-clause-bits_32 : goal.returns-clause-bits_32
returns-clause-bits_32 c = width_exact w32 width_32

pub returns-clause-bits_64 : goal.returns-clause-bits_64
returns-clause-bits_64 c = width_exact w64 width_64
