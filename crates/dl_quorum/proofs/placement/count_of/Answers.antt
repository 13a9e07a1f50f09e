use Rattle.dl_quorum.specs.Sizes.{sizes_of}
use Rattle.std.proofs.Common.{count_by, arith, ap, sym, ◌∙◌}
use Rattle.dl_quorum.specs.Places.{holds}
use Rattle.dl_quorum.proofs.RingLemmas.{counted_yes, counted_no, first_places-all}
use Rattle.dl_quorum.proofs.placement.count_of.Goals as goal
use Rattle.dl_quorum.proofs.placement.count_of.Goals.{then-contains, else-contains}

pub loop-i-preserved : goal.loop-i-preserved
loop-i-preserved c =
    elim c.if-contains.branch [
      | then-contains w ↦ record {
        counted = counted_yes (sizes_of c.args.q) c.args.entry c.loop-i.i c.loop-i.count c.if-contains.count c.write_place.result (holds c.args.set)
            c.loop-i.invariant.counted c.write_place.ensures.value (sym c.contains.ensures ∙ w.if-contains.true) w.count-is;
        few = omega arith;
      }
      | else-contains w ↦ record {
        counted = counted_no (sizes_of c.args.q) c.args.entry c.loop-i.i c.loop-i.count c.if-contains.count c.write_place.result (holds c.args.set)
            c.loop-i.invariant.counted c.write_place.ensures.value (sym c.contains.ensures ∙ w.if-contains.false) w.count-is;
        few = omega arith;
      }
    ]

pub returns : goal.returns
returns c = c.loop-i.invariant.counted ∙ ap (count_by (holds c.args.set)) (first_places-all (sizes_of c.args.q) c.args.entry c.loop-i.i (omega arith))
