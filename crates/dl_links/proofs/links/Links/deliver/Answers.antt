use Rattle.std.proofs.Common.{◌<◌, length, ap, arith}
use Rattle.dl_links.specs.Sent.{Sent}
use Rattle.dl_links.proofs.KeptLemmas.{kept_delivery}
use Rattle.dl_links.proofs.links.Links.deliver.Goals as goal

pub invariant_of-self : goal.invariant_of-self
invariant_of-self c =
    let inside : c.args.place < length c.self.inside.delivered.items =
    omega (arith, c.requires, ap (λ (x : Sent). length x.letters) c.self.view_is, c.self.invariant.count) in
    kept_delivery c.self.inside.letters.items c.self.inside.delivered.items c.self.inside.files c.args.place inside c.self.invariant
