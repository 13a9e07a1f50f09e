use Rattle.std.proofs.Common.{◌≡◌, length}
use Rattle.dl_codec.specs.Fields.{IsBytes}
use Rattle.dl_rules_nodes.specs.Reading.{items_in}
use Rattle.dl_items.specs.Reading.{verdict}
use Rattle.dl_items.proofs.body.check_items.Given as goal

abbrev pub invariant-loop-rest : goal.invariant-loop-rest
invariant-loop-rest l = record { same : verdict (items_in l.rest) ≡ verdict (items_in l.body); bytes : IsBytes l.rest }

abbrev pub decreases-loop-rest : goal.decreases-loop-rest
decreases-loop-rest l = length l.rest
