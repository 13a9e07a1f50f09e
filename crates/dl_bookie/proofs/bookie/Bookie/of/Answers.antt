use Rattle.std.proofs.Common.{arith}
use Rattle.dl_bookie.proofs.ReleaseLemmas.{fits_new}
use Rattle.dl_bookie.proofs.bookie.Bookie.of.Goals as goal

pub invariant_of-result : goal.invariant_of-result
invariant_of-result c = record {
  fits = fits_new c.args.room.pool c.args.room.queue.items c.requires.pool c.requires.queue;
  batch = omega arith;
  below = c.requires.below;
  same_file = c.requires.file;
  works = λ _. c.requires.works;
  frame_room = c.requires.frame;
  queue_room = c.requires.places;
}
