use Rattle.std.proofs.Common.{◌≡◌, map, take}
use Rattle.dl_writer.specs.Sending.{row_spot}
use Rattle.dl_writer.proofs.sending.spots_of.Given as goal

abbrev pub invariant-loop-row : goal.invariant-loop-row
invariant-loop-row l = l.spots.items ≡ map row_spot (take l.row-index l.rows)
