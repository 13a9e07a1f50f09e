use Rattle.std.proofs.Common.{[]}
use Rattle.dl_depot.specs.declared.device_call.DeviceCall.TheVariants.{Cut}
use Rattle.dl_depot.proofs.Kept.{was_cut, still_kept}
use Rattle.dl_depot.proofs.memory.MemDepotDepot.cut.Goals as goal

pub returns-clause-cut : goal.returns-clause-cut
returns-clause-cut c =
    was_cut c.args.self.now.log.items c.cut.new.log.items c.args.self.now.files.items c.index.result c.args.file c.index_mut-held.result.now
    c.cut.new.held c.args.self.now.kept c.index.ensures.value c.index.ensures.bound c.index_mut-held.ensures.value
    c.args.size c.cut.result c.cut.ensures

pub invariant_of-self : goal.invariant_of-self
invariant_of-self c = record {
  kept =
      still_kept c.args.self.now.log.items c.cut.new.log.items c.args.self.now.files.items c.index.result c.args.file c.index_mut-held.result.now
      c.cut.new.held c.args.self.now.kept c.index.ensures.value c.index.ensures.bound c.index_mut-held.ensures.value
      (Cut c.args.size) [] c.cut.result tt c.cut.ensures;
}
