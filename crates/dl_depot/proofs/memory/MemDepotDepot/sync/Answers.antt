use Rattle.std.proofs.Common.{[]}
use Rattle.dl_depot.specs.declared.device_call.DeviceCall.TheVariants.{Sync}
use Rattle.dl_depot.proofs.Kept.{synced, still_kept}
use Rattle.dl_depot.proofs.memory.MemDepotDepot.sync.Goals as goal

pub returns-clause-synced : goal.returns-clause-synced
returns-clause-synced c =
    synced c.args.self.now.log.items c.sync.new.log.items c.args.self.now.files.items c.index.result c.args.file c.index_mut-held.result.now
    c.sync.new.held c.args.self.now.kept c.index.ensures.value c.index.ensures.bound c.index_mut-held.ensures.value
    c.sync.result c.sync.ensures

pub invariant_of-self : goal.invariant_of-self
invariant_of-self c = record {
  kept =
      still_kept c.args.self.now.log.items c.sync.new.log.items c.args.self.now.files.items c.index.result c.args.file c.index_mut-held.result.now
      c.sync.new.held c.args.self.now.kept c.index.ensures.value c.index.ensures.bound c.index_mut-held.ensures.value
      Sync [] c.sync.result tt c.sync.ensures;
}
