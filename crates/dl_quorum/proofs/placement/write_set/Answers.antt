use Rattle.dl_quorum.specs.Sizes.{sizes_of}
use Rattle.std.proofs.Common.{◌==◌, arith, ap, ◌∙◌}
use Rattle.std.specs.List.{list_any}
use Rattle.dl_quorum.proofs.RingLemmas.{first_places-all}
use Rattle.dl_quorum.proofs.placement.write_set.Goals as goal

pub returns : goal.returns
returns c place =
    c.loop-i.invariant place
    ∙ ap (list_any (λ member. member == place)) (first_places-all (sizes_of c.args.q) c.args.entry c.loop-i.i (omega arith))
