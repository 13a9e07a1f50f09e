use Rattle.std.proofs.Common.{◌≡◌, ◌+◌, ◌++◌, ◌∷◌, [], length, map, option_to_list, sym, ap, ◌∙◌, arith, append_assoc, length-append}
use Rattle.dl_pool.specs.Pools.{spare}
use Rattle.dl_bookie.specs.declared.replies.Reply.{Reply}
use Rattle.dl_bookie.specs.Pieces.{pieces_of, total_pages, is_held}
use Rattle.dl_bookie.specs.Releasing.{reply_for}
use Rattle.dl_bookie.proofs.FillLemmas.{held_left}
use Rattle.dl_bookie.proofs.ReleaseLemmas.{held_after, pages_after}
use Rattle.dl_bookie.proofs.releasing.release.Goals as goal

pub free_piece-requires : goal.free_piece-requires
free_piece-requires c =
    held_left c.replies.pool (option_to_list c.in-Some.field-0.piece) (pieces_of c.pop_front.new.self.items)
    (ap (λ qs. is_held c.replies.pool (pieces_of qs)) (sym c.in-Some.ensures.items) ∙ c.replies.invariant.held)

pub replies-preserved : goal.replies-preserved
replies-preserved c =
    let q = c.in-Some.field-0 in
    let rest = c.pop_front.new.self.items in
    let f = reply_for c.args.ledgers.now in
    let was = ap (λ qs. is_held c.replies.pool (pieces_of qs)) (sym c.in-Some.ensures.items) ∙ c.replies.invariant.held in
    let reply : Reply = record { client = q.client; session = q.session; msg = c.told_by-msg.result } in
    let told : reply ≡ f q = λ i. record { client = q.client; session = q.session; msg = c.told_by-msg.ensures i } in
    record {
      held = held_after c.replies.pool c.free_piece.new.pool q.piece (pieces_of rest) c.free_piece.ensures was;
      pages = pages_after c.replies.pool c.free_piece.new.pool q.piece (pieces_of rest) c.free_piece.ensures was
          ∙ ap (λ qs. spare c.replies.pool + total_pages (pieces_of qs)) (sym c.in-Some.ensures.items) ∙ c.replies.invariant.pages;
      given = ap (λ rs. rs ++ map f rest) c.push.ensures ∙ append_assoc c.replies.replies (reply ∷ []) (map f rest)
          ∙ ap (λ r. c.replies.replies ++ r ∷ map f rest) told
          ∙ ap (λ qs. c.replies.replies ++ map f qs) (sym c.in-Some.ensures.items) ∙ c.replies.invariant.given;
      room = omega (arith, c.replies.invariant.room, ap length c.in-Some.ensures.items, ap length c.push.ensures, length-append c.replies.replies (reply ∷ []));
      capacity = c.pop_front.ensures.capacity ∙ c.replies.invariant.capacity;
    }
