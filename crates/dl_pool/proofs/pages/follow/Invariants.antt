use Rattle.std.proofs.Common.{◌≡◌}
use Rattle.dl_pool.specs.Pages.{page_after}
use Rattle.dl_pool.proofs.pages.follow.Given as goal

abbrev pub invariant-loop-step : goal.invariant-loop-step
invariant-loop-step l = l.page ≡ page_after l.next l.first l.step
