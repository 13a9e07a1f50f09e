use Rattle.std.proofs.Common.{refl, arith}
use Rattle.dl_rules_ledger.specs.Writers.{confirmed_count}
use Rattle.dl_lwrite.proofs.writer.LedgerWriter.start.Goals as goal

pub returns : goal.returns
unfolding confirmed_count
returns c = record { ledger = refl; pieces = refl; sent = refl; confirmed = refl; fenced = refl; answers = λ i place within few. absurd (omega arith) }
