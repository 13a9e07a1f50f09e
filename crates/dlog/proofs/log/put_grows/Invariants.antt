use Rattle.std.proofs.Common.{◌≡◌, ◌++◌, drop, length}
use Rattle.std.specs.Prelude.{map}
use Rattle.dl_transcript.specs.Lines.{print_all}
use Rattle.dlog.specs.Entries.{rows_of, payload_bytes}
use Rattle.dlog.specs.Machine.{grow}
use Rattle.dlog.proofs.log.put_grows.Given as goal

abbrev pub invariant-loop-head : goal.invariant-loop-head
invariant-loop-head l = (payload_bytes (drop l.head-index l.heads) ≡ length l.left)
    × (l.out.items ++ print_all l.line (map (grow l.stream) (rows_of (drop l.head-index l.heads) l.left))
    ≡ l.fn.out.items ++ print_all l.line (map (grow l.stream) (rows_of l.heads l.payloads)))
