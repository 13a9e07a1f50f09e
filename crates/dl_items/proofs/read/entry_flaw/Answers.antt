use Rattle.std.proofs.Common.{refl}
use Rattle.dl_items.proofs.ReadLemmas.{no_flaw}
use Rattle.dl_items.proofs.read.entry_flaw.Goals as goal

pub returns-in-Ok-clause-exact : goal.returns-in-Ok-clause-exact
returns-in-Ok-clause-exact c = no_flaw c.args.entry.now (c.in-Ok.ensures.valid.0 refl)
