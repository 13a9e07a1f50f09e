use Rattle.std.proofs.Common.{arith}
use Rattle.dl_meta.specs.Changes.{item_for}
use Rattle.dl_meta.specs.Loading.{meta_with}
use Rattle.dl_meta.proofs.Items.{body_done}
use Rattle.dl_meta.proofs.replay.replay_body.Goals as goal

pub returns : goal.returns
returns c =
    body_done c.args.end c.args.is_first c.args.body.now (meta_with c.args.tree.now c.args.sessions.now)
    (meta_with c.replay_change.new.tree c.replay_change.new.sessions) (item_for c.in-Ok.change)
    (λ i. omega (arith, c.type_inv.body i)) c.in-Ok.ensures.exact c.in_ok-replay_change.ensures
