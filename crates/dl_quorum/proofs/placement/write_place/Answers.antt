use Rattle.std.proofs.Common.{◌+◌, ◌%◌, ap, ◌∙◌}
use Rattle.std.proofs.Math.Nat.{mod-add-mod}
use Rattle.dl_quorum.proofs.placement.write_place.Goals as goal

pub returns-clause-value : goal.returns-clause-value
returns-clause-value c =
    ap (λ e. (c.args.entry % e + c.args.i) % c.args.q.e) c.from.ensures ∙ mod-add-mod c.args.entry c.args.q.e c.args.i
