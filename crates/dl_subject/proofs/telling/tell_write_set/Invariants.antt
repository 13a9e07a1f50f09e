use Rattle.std.proofs.Common.{◌≡◌}
use Rattle.dl_quorum.specs.Sizes.{sizes_of}
use Rattle.dl_subject.proofs.TellLemmas.{first_letters}
use Rattle.dl_subject.proofs.telling.tell_write_set.Given as goal

abbrev pub invariant-loop-i : goal.invariant-loop-i
invariant-loop-i l = l.told.items ≡ first_letters (sizes_of l.q) l.ensemble l.entry l.msg l.i
