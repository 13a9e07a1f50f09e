use Rattle.dl_journal.proofs.Standing.{made}
use Rattle.dl_journal.proofs.journal.Journal.make.Goals as goal

pub returns : goal.returns
returns g c = made _ _ c.args.file c.in_ok-store.field-0 c.requires c.in_ok-store.ensures
