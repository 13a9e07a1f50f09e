use Rattle.std.proofs.Common.{◌++◌, ◌<◌, ◌↔◌, length, IsErr, ap, subst, ◌∙◌}
use Rattle.dl_pool.specs.Pools.{spare, pages_of}
use Rattle.dl_rules_nodes.specs.Items.{item_bytes}
use Rattle.dl_items.specs.Heads.{item_of}
use Rattle.dl_bookie.proofs.ItemLemmas.{length-item_bytes}
use Rattle.dl_bookie.proofs.filling.store_item.Goals as goal

pub returns-clause-full : goal.returns-clause-full
returns-clause-full c =
    let x = item_of c.args.head c.args.bytes.now in
    subst (λ n. IsErr c.put.result ↔ (spare c.args.pool.now < pages_of n))
    (ap length (c.as_slice.ensures.value ∙ c.put_item.ensures.items ∙ ap (λ xs. xs ++ item_bytes x) c.clear.ensures.items) ∙ length-item_bytes x)
    c.put.ensures.full
