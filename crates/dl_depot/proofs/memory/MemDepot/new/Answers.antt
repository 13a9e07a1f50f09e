use Rattle.std.proofs.Common.{List, subst, sym, arith}
use Rattle.dl_depot.specs.declared.logged_call.LoggedCall.{LoggedCall}
use Rattle.dl_depot.specs.Log.{IsKept}
use Rattle.dl_depot.proofs.Empty.{new_kept}
use Rattle.dl_depot.proofs.memory.MemDepot.new.Goals as goal

pub invariant_of-result : goal.invariant_of-result
invariant_of-result c = record {
  kept =
      subst (λ (l : List LoggedCall). IsKept l c.loop.files.items) (sym c.new-2.ensures.items)
      (new_kept c.loop.files.items (omega arith) c.loop.invariant.empty);
}
