use Rattle.std.proofs.Common.{sym, ◌∙◌}
use Rattle.dl_events.proofs.PathExactness.{slash_turn, byte_turn}
use Rattle.dl_events.proofs.path.parts_of.Goals as goal
use Rattle.dl_events.proofs.path.parts_of.Goals.{then-byte-eq47+then-part-gt0-2+then-i-lt-MAX_BEHIND}
use Rattle.dl_events.proofs.path.parts_of.Goals.{else-byte-eq47+then-is_part_byte+then-part-lt-MAX_PART+then-i-lt-MAX_BEHIND-2}

pub loop-i-preserved : goal.loop-i-preserved
loop-i-preserved c = elim c.if-byte-eq47.branch [
  | then-byte-eq47+then-part-gt0-2+then-i-lt-MAX_BEHIND w ↦
      slash_turn c.args.end c.loop-i.i c.loop-i.part _ c.args.bytes.now c.requires c.loop-i-test.true c.loop-i.invariant w.if-byte-eq47.true
      w.if-part-gt0-2.true w.if-i-lt-MAX_BEHIND.true w.part-is
  | else-byte-eq47+then-is_part_byte+then-part-lt-MAX_PART+then-i-lt-MAX_BEHIND-2 w ↦
      byte_turn c.args.end c.loop-i.i c.loop-i.part _ c.args.bytes.now c.requires c.loop-i-test.true c.loop-i.invariant
      (sym w.is_part_byte.ensures ∙ w.if-is_part_byte.true) w.if-part-lt-MAX_PART.true w.if-i-lt-MAX_BEHIND-2.true w.part-is
]
