use Rattle.dl_machine.proofs.StayLaws.{durable_items_only_grow}
use Rattle.dl_machine.proofs.laws.durable_items_only_grow.Goals as goal

pub returns : goal.returns
returns c = durable_items_only_grow
