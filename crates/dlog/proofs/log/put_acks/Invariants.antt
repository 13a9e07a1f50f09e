use Rattle.std.proofs.Common.{◌≡◌, ◌++◌, drop}
use Rattle.std.specs.Prelude.{map}
use Rattle.dl_transcript.specs.Lines.{print_all}
use Rattle.dlog.specs.Entries.{head_ack}
use Rattle.dlog.proofs.log.put_acks.Given as goal

abbrev pub invariant-loop-head : goal.invariant-loop-head
invariant-loop-head l = l.out.items ++ print_all l.line (map head_ack (drop l.head-index l.heads)) ≡ l.fn.out.items
    ++ print_all l.line (map head_ack l.heads)
