use Rattle.std.proofs.Common.{◌≡◌, ◌≤◌, vec_capacity}
use Rattle.dl_pool.specs.Pages.{page_after}
use Rattle.dl_pool.proofs.ChainLemmas.{IsFilled}
use Rattle.dl_pool.proofs.pages.fill.Given as goal

abbrev pub invariant-loop-index : goal.invariant-loop-index
invariant-loop-index l = record {
  page : l.page ≡ page_after l.next l.first l.index;
  filled : IsFilled l.initial.memory.items l.memory.items l.next l.bytes l.first l.index;
  capacity : vec_capacity l.initial.memory ≤ vec_capacity l.memory;
}
