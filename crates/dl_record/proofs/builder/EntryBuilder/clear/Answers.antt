use Rattle.std.proofs.Common.{arith}
use Rattle.dl_record.proofs.BuildingLaws.{building_empty}
use Rattle.dl_record.proofs.builder.EntryBuilder.clear.Goals as goal

pub invariant_of-self : goal.invariant_of-self
invariant_of-self c =
    (building_empty c.truncate.new.self.items
    (omega (arith, c.truncate.ensures.len, c.truncate.new.self.ok, c.self.inside.bytes.ok, c.self.invariant.room))).building

pub returns : goal.returns
returns c = (building_empty c.truncate.new.self.items
    (omega (arith, c.truncate.ensures.len, c.truncate.new.self.ok, c.self.inside.bytes.ok, c.self.invariant.room))).same
