use Rattle.dl_codec.proofs.FieldLaws.{width_8, width_16, width_32, width_64}
use Rattle.dl_codec.proofs.laws.numbers_have_one_spelling.Goals as goal

pub returns : goal.returns
returns c = record { bits_8 = width_8; bits_16 = width_16; bits_32 = width_32; bits_64 = width_64 }
