use Rattle.std.proofs.Common.{length}
use Rattle.dl_depot.specs.declared.device_call.DeviceCall.TheVariants.{Write}
use Rattle.dl_depot.proofs.Kept.{wrote, still_kept, fits_there}
use Rattle.dl_depot.proofs.memory.MemDepotDepot.write_at.Goals as goal

pub returns-clause-wrote : goal.returns-clause-wrote
returns-clause-wrote c =
    wrote c.args.self.now.log.items c.write.new.log.items c.args.self.now.files.items c.index.result c.args.file c.index_mut-held.result.now
    c.write.new.held c.args.self.now.kept c.index.ensures.value c.index.ensures.bound c.index_mut-held.ensures.value
    c.args.at c.args.bytes.now c.write.result c.write.ensures

pub invariant_of-self : goal.invariant_of-self
invariant_of-self c = record {
  kept =
      still_kept c.args.self.now.log.items c.write.new.log.items c.args.self.now.files.items c.index.result c.args.file c.index_mut-held.result.now
      c.write.new.held c.args.self.now.kept c.index.ensures.value c.index.ensures.bound c.index_mut-held.ensures.value
      (Write c.args.at (length c.args.bytes.now)) c.args.bytes.now c.write.result
      (fits_there c.args.self.now.log.items c.write.new.log.items c.args.self.now.files.items c.index.result c.args.file
      c.index_mut-held.result.now c.write.new.held c.args.self.now.kept c.index.ensures.value c.index.ensures.bound
      c.index_mut-held.ensures.value c.args.at c.requires) c.write.ensures;
}
