use Rattle.std.proofs.Common.{arith}
use Rattle.dl_bookie.specs.Pieces.{pieces_of}
use Rattle.dl_bookie.proofs.FillLemmas.{held_length}
use Rattle.dl_bookie.proofs.batch.make_frame.Goals as goal

pub put_bytes-requires-2 : goal.put_bytes-requires-2
put_bytes-requires-2 c =
    omega (
      arith,
      c.clear.ensures.len,
      c.clear.ensures.capacity,
      c.put_bytes.ensures.len,
      c.put_bytes.ensures.room,
      c.put_items.ensures.len,
      c.put_items.ensures.room,
      held_length c.args.pool.now (pieces_of c.args.queue.now.items) c.requires.held,
      c.requires.room,
    )
