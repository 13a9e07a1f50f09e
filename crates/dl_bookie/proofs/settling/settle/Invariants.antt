use Rattle.std.proofs.Common.{◌≡◌, ◌≤◌, ◌+◌, List, length, drop}
use Rattle.dl_pool.specs.Pools.{Held}
use Rattle.dl_rules_nodes.specs.Bookies.{Bookie as Node, Waiting}
use Rattle.dl_bookie.specs.Pieces.{pieces_of, total_size}
use Rattle.dl_bookie.specs.Settling.{AllWait}
use Rattle.dl_bookie.proofs.SettleLemmas.{Half}
use Rattle.dl_bookie.proofs.settling.settle.Given as goal

abbrev pub invariant-loop-index : goal.invariant-loop-index
invariant-loop-index l = record {
  from : l.initial.at ≤ l.at;
  room : l.at + total_size (pieces_of (drop l.index l.queue.items)) ≡ l.initial.at + total_size (pieces_of l.queue.items);
  entries : length l.entries ≡ length l.initial.entries;
  ledgers : length l.ledgers ≡ length l.initial.ledgers;
  half : (b : Node) (pool : Held) (ws : List Waiting) → AllWait b pool l.queue.items ws l.initial.at l.initial.entries l.initial.ledgers
      → Half b pool ws (drop l.index l.queue.items) l.at l.entries l.ledgers;
}
