use Rattle.dl_text.proofs.NumberLemmas.{number_exact}
use Rattle.dl_text.proofs.LineLemmas.{whole_reads}
use Rattle.dl_text.proofs.laws.whole_numbers_are_read.Goals as goal

pub returns : goal.returns
returns c = λ low high end range bytes. whole_reads (number_exact low high end range) bytes
