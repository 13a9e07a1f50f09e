use Rattle.std.proofs.Common.{◌≡◌, ◌≤◌, ℕ, List, length, min, sym, subst, rules}
use Rattle.dl_depot.specs.Device.{with_bytes}
use Rattle.dl_depot.specs.Held.{Agree}
use Rattle.dl_depot.proofs.Fronts.{agree_put}
use Rattle.dl_depot.proofs.mem_file.MemFile.write.Goals as goal

pub invariant_of-self-2 : goal.invariant_of-self-2
invariant_of-self-2 c =
    let was = c.self.inside.bytes.items in
    let last = c.self.inside.synced.items in
    let fits : c.args.at ≤ length was = search rules in
    let least : c.min-self-inside.result ≡ min c.self.inside.same c.args.at = c.min-self-inside.ensures in
    let is_put : c.put_at.new.old.items ≡ with_bytes c.args.at c.args.bytes.now was = c.in_ok-put_at.ensures in
    subst (λ (n : ℕ). Agree n c.put_at.new.old.items last) (sym least)
    (subst (λ (l : List ℕ). Agree (min c.self.inside.same c.args.at) l last) (sym is_put)
    (agree_put c.self.inside.same c.args.at c.args.bytes.now was last fits c.self.invariant))
