use Rattle.std.proofs.Common.{◌≡◌, ◌≤◌, ◌+◌, ◌++◌, true, length, map}
use Rattle.std.specs.VecDeque.{deque_capacity}
use Rattle.dl_pool.specs.Pools.{spare}
use Rattle.dl_bookie.specs.Pieces.{pieces_of, total_pages, is_held}
use Rattle.dl_bookie.specs.Releasing.{reply_for}
use Rattle.dl_bookie.proofs.releasing.release.Given as goal

abbrev pub invariant-replies : goal.invariant-replies
invariant-replies l = record {
  held : is_held l.pool (pieces_of l.queue.items) ≡ true;
  pages : spare l.pool + total_pages (pieces_of l.queue.items) ≡ spare l.initial.pool + total_pages (pieces_of l.initial.queue.items);
  given : l.replies ++ map (reply_for l.ledgers) l.queue.items ≡ l.initial.replies ++ map (reply_for l.ledgers) l.initial.queue.items;
  room : length l.replies + length l.queue.items ≤ 4096;
  capacity : deque_capacity l.queue ≡ deque_capacity l.initial.queue;
}

abbrev pub decreases-replies : goal.decreases-replies
decreases-replies l = length l.queue.items
