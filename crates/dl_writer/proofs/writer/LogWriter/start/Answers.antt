use Rattle.std.proofs.Common.{refl}
use Rattle.dl_writer.specs.contracts.writer.LogWriter.{the_view}
use Rattle.dl_writer.proofs.Ending.{started}
use Rattle.dl_writer.proofs.writer.LogWriter.start.Goals as goal

pub returns : goal.returns
returns c = λ number pieces stands. started _ number pieces stands c.requires.sent c.in_ok-draft.ensures c.new-2.ensures.items refl refl refl
