use Rattle.std.proofs.Common.{◌≡◌, ◌++◌, List, subst}
use Rattle.dl_types.specs.declared.row.Row.{Row}
use Rattle.dl_transcript.specs.Lines.{print_all}
use Rattle.dlog.specs.Machine.{entry_events}
use Rattle.dlog.proofs.EntryLemmas.{entry_printed}
use Rattle.dlog.proofs.log.put_entry.Goals as goal

pub returns : goal.returns
returns c =
    subst (λ (rows : List Row). c.put_acks.new.out.items ≡ c.args.out.now.items ++ print_all c.args.line (entry_events c.args.stream.now rows))
    c.parts.ensures.rows
    (entry_printed c.args.line c.args.stream.now c.parts.result.0.now c.parts.result.1.now c.args.out.now.items c.put_grows.new.out.items
    c.put_acks.new.out.items c.in_ok-put_grows.ensures c.in_ok-put_acks.ensures)
