use Rattle.std.proofs.Common.{◌≡◌, drop}
use Rattle.dl_rules_stream.specs.Locks.{least_of}
use Rattle.dl_lock.proofs.names.least_of.Given as goal

abbrev pub invariant-loop-name : goal.invariant-loop-name
invariant-loop-name l = least_of l.least (drop l.name-index l.names) ≡ least_of l.fn.number l.names
