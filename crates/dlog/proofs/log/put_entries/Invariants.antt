use Rattle.std.proofs.Common.{◌≡◌, ◌++◌, drop}
use Rattle.std.specs.List.{flat_map}
use Rattle.dl_transcript.specs.Lines.{print_all}
use Rattle.dlog.specs.Machine.{entry_events}
use Rattle.dlog.proofs.log.put_entries.Given as goal

abbrev pub invariant-loop-entry : goal.invariant-loop-entry
invariant-loop-entry l = l.out.items ++ print_all l.line (flat_map (entry_events l.stream) (drop l.entry-index l.entries)) ≡ l.fn.out.items
    ++ print_all l.line (flat_map (entry_events l.stream) l.entries)
