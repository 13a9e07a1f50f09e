use Rattle.dl_record.proofs.BuildingLaws.{building_empty}
use Rattle.dl_record.proofs.builder.EntryBuilder.new.Goals as goal

pub invariant_of-result : goal.invariant_of-result
invariant_of-result c = (building_empty c.in_ok-bytes.bytes.items c.in_ok-bytes.ensures).building

pub returns : goal.returns
returns c = (building_empty c.in_ok-bytes.bytes.items c.in_ok-bytes.ensures).same
