use Rattle.dl_subject.proofs.TellLemmas.{no_other}
use Rattle.dl_subject.proofs.telling.copy_of.Goals as goal

pub unreachable-requires : goal.unreachable-requires
unreachable-requires c =
    no_other c.args.msg.now c.requires c.in_default.not-Add c.in_default.not-Copy c.in_default.not-AskLac c.in_default.not-AskEntry
