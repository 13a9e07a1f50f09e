use Rattle.std.proofs.Common.{◌≡◌, length}
use Rattle.dl_depot.proofs.Empty.{AreEmpty}
use Rattle.dl_depot.proofs.memory.MemDepot.new.Given as goal

abbrev pub invariant-loop : goal.invariant-loop
invariant-loop l = record { count : length l.files.items ≡ l.counter; empty : AreEmpty l.files.items }
