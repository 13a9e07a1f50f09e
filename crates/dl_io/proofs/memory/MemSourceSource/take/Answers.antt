use Rattle.std.proofs.Common.{sym, ap, rules}
use Rattle.dl_io.specs.Memory.{SourceState}
use Rattle.dl_io.proofs.Moved.{Moves, moves_range}
use Rattle.dl_io.proofs.memory.MemSourceSource.take.Goals as goal

pub returns-clause-takes : goal.returns-clause-takes
returns-clause-takes c =
    let moved : Moves _ c.args.into.now c.copy_from_slice.new.self _ c.min-count.result =
    moves_range _ c.self.inside.bytes.items c.deref-2.result.now c.args.into.now _ c.self.inside.at _
    (sym (ap (λ (s : SourceState). s.left) c.self.view_is)) c.deref-2.ensures.value c.min-count.ensures c.copy_from_slice.ensures.after
    in record { bound = search rules; bytes = (moved.bytes, moved.ending); cause = search rules }
