use Rattle.dl_quorum.specs.Sizes.{sizes_of}
use Rattle.std.proofs.Common.{ap, sym, ◌∙◌}
use Rattle.dl_quorum.specs.WriteSets.{denies}
use Rattle.dl_types.proofs.UptoLemmas.{list_all_upto_fails}
use Rattle.dl_quorum.specs.Places.{holds}
use Rattle.dl_quorum.proofs.placement.covers.Goals as goal

pub returns-then-not-denied : goal.returns-then-not-denied
returns-then-not-denied c =
    sym (list_all_upto_fails (λ e. denies (sizes_of c.args.q) e (holds c.args.set)) c.args.q.e c.loop-entry.entry c.loop-entry-test.true
    (ap (λ n. denies (sizes_of c.args.q) n (holds c.args.set)) (sym c.from.ensures) ∙ sym c.denied.ensures ∙ c.if-not-denied.true))
