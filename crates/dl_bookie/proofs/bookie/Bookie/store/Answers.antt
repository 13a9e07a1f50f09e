use Rattle.std.proofs.Common.{rules, ◌++◌, ◌∷◌, [], ◌+◌, ◌≤◌, subst, sym, refl, Some, ◌∙◌, arith}
use Rattle.dl_pool.specs.Pools.{Adds}
use Rattle.dl_journal.specs.Commits.{spare_of}
use Rattle.dl_rules_nodes.specs.Items.{item_bytes, item_length}
use Rattle.dl_items.specs.Heads.{item_of}
use Rattle.dl_bookie.specs.declared.queued.Queued.{Queued}
use Rattle.dl_bookie.specs.declared.queued.Piece.{Piece}
use Rattle.dl_bookie.specs.Pieces.{Fits}
use Rattle.dl_bookie.proofs.ItemLemmas.{length-item_bytes, item_some}
use Rattle.dl_bookie.proofs.PieceLemmas.{fits_push}
use Rattle.dl_bookie.proofs.bookie.Bookie.store.Goals as goal

pub invariant_of-self-2 : goal.invariant_of-self-2
invariant_of-self-2 c =
    let was = c.self.invariant in
    let x = item_of c.args.head c.args.bytes.now in
    let adds : Adds c.self.inside.pool c.in-Ok.span (item_bytes x) c.store_item.new.pool = c.in-Ok.ensures.ok in
    let p : Piece = record { head = c.args.head; size = c.size-size.result; span = c.in-Ok.span } in
    let q : Queued = record { client = c.args.client; session = c.args.session; reply = c.args.reply; piece = Some p } in
    let fits : Fits c.store_item.new.pool (c.self.inside.queue.items ++ q ∷ []) (c.self.inside.bytes + c.size-size.result) =
    fits_push c.self.inside.pool c.store_item.new.pool (item_bytes x) c.self.inside.queue.items c.self.inside.bytes q p adds (item_some x)
    (c.size-size.ensures.size ∙ sym (length-item_bytes x)) refl (search rules) was.fits in
    record {
      fits = subst (λ queue. Fits c.store_item.new.pool queue (c.self.inside.bytes + c.size-size.result)) (sym c.push_back_reserved.ensures.items) fits;
      batch = omega (arith, c.size-size.ensures.size, subst (λ k. k.bytes + item_length x ≤ spare_of k.journal) (sym c.self.view_is) c.requires.room.batch);
      below = was.below;
      same_file = was.same_file;
      works = was.works;
      frame_room = omega (arith, was.frame_room, c.in-Ok.ensures.room);
      queue_room = subst (λ n. 4096 ≤ n) (sym c.push_back_reserved.ensures.capacity) was.queue_room;
    }
