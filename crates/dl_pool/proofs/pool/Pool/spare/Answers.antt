use Rattle.std.proofs.Common.{sym, ap, ◌∙◌}
use Rattle.dl_pool.specs.Pools.{spare}
use Rattle.dl_pool.proofs.SoundLemmas.{spare-pool_of}
use Rattle.dl_pool.proofs.pool.Pool.spare.Goals as goal

pub returns : goal.returns
returns c = sym (spare-pool_of _ _ _ _ _ c.self.invariant.sound) ∙ ap spare c.self.view_is
