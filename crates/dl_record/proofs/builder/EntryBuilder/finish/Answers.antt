use Rattle.std.proofs.Common.{◌∙◌}
use Rattle.dl_record.proofs.BuildingLaws.{building_empty, finished}
use Rattle.dl_record.proofs.builder.EntryBuilder.finish.Goals as goal

pub returns-in_err-entry-clause-entry : goal.returns-in_err-entry-clause-entry
returns-in_err-entry-clause-entry c = (finished _ c.self.inside.rows _ _ c.take_entry.ensures.bytes c.self.invariant c.self.view_is c.requires).is

pub invariant_of-self-2 : goal.invariant_of-self-2
invariant_of-self-2 c = (building_empty c.take_entry.new.out.items c.in_ok-entry.ensures.empty).building

pub returns-clause-bytes : goal.returns-clause-bytes
returns-clause-bytes c =
    c.in_ok-entry.ensures.entry ∙ (finished _ c.self.inside.rows _ _ c.take_entry.ensures.bytes c.self.invariant c.self.view_is c.requires).spelt

pub returns-clause-entry : goal.returns-clause-entry
returns-clause-entry c = (finished _ c.self.inside.rows _ _ c.take_entry.ensures.bytes c.self.invariant c.self.view_is c.requires).is

pub returns-clause-empty : goal.returns-clause-empty
returns-clause-empty c = (building_empty c.take_entry.new.out.items c.in_ok-entry.ensures.empty).same
