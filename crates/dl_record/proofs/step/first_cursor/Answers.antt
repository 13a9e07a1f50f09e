use Rattle.dl_record.proofs.SharedLaws.{rows_of_parts}
use Rattle.dl_record.proofs.WalkLaws.{walk_begins}
use Rattle.dl_record.proofs.step.first_cursor.Goals as goal

pub returns-clause-walk : goal.returns-clause-walk
returns-clause-walk c = (walk_begins c.args.bytes.now c.requires.0 c.count_of.result c.new.result c.requires.1 c.requires.2 c.count_of.ensures).walk

pub returns-clause-rows : goal.returns-clause-rows
returns-clause-rows c = λ parts is spelt. (walk_begins c.args.bytes.now parts c.count_of.result c.new.result is spelt c.count_of.ensures).rows

pub returns-clause-read : goal.returns-clause-read
returns-clause-read c =
    rows_of_parts c.args.bytes.now c.requires.0 _ c.requires.1 c.requires.2
    (walk_begins c.args.bytes.now c.requires.0 c.count_of.result c.new.result c.requires.1 c.requires.2 c.count_of.ensures).rows
