use Rattle.std.proofs.Common.{◌≡◌, ◌++◌}
use Rattle.dl_reader.proofs.Rows.{low_append, low_take}
use Rattle.dl_reader.proofs.gathered.Gathered.add.Goals as goal

pub invariant_of-self-2 : goal.invariant_of-self-2
invariant_of-self-2 c =
    let old = c.self.inside.rows.items in
    let new = c.rows.inside.rows.items in
    let both : c.append.new.self.items ≡ old ++ new = c.in_ok-append.ensures.items in
    rw c.truncate.ensures.items (rw both (low_take _ (old ++ new) (low_append old new c.self.invariant c.rows.invariant)))
