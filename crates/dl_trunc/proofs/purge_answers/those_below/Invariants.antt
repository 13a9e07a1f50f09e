use Rattle.std.proofs.Common.{◌≡◌, ◌++◌, drop, filter}
use Rattle.dl_rules_stream.specs.Purges.{is_below}
use Rattle.dl_trunc.proofs.purge_answers.those_below.Given as goal

abbrev pub invariant-loop-segment : goal.invariant-loop-segment
invariant-loop-segment l = l.left.items ++ filter (is_below l.fn.point) (drop l.segment-index l.segments) ≡ filter (is_below l.fn.point) l.segments
