use Rattle.std.proofs.Common.{rules, ◌++◌, ◌+◌, drop, option_to_list, sym, ap, subst, ◌∙◌}
use Rattle.dl_bookie.specs.Facts.{BookieFacts}
use Rattle.dl_bookie.specs.Pieces.{pieces_of, is_held}
use Rattle.dl_bookie.specs.Standing.{StandsFor, ArePieces}
use Rattle.dl_bookie.specs.Waiting.{item_at}
use Rattle.dl_bookie.proofs.FillLemmas.{pieces_from}
use Rattle.dl_bookie.proofs.PieceLemmas.{held_live}
use Rattle.dl_bookie.proofs.WaitingLemmas.{held_drop, pieces_at, joins, joins_none}
use Rattle.dl_bookie.proofs.bookie.Bookie.waiting.Goals as goal

pub parts-requires : goal.parts-requires
parts-requires c =
    let pool = c.self.inside.pool in
    let items = c.self.inside.queue.items in
    let rest = pieces_of (drop (c.args.place + 1) items) in
    held_live pool c.in-Some.piece rest
    (ap (λ o. is_held pool (option_to_list o ++ rest)) (sym c.in-Some.is)
    ∙ ap (is_held pool) (sym (pieces_from items c.args.place c.index.result.now (search rules) c.index.ensures))
    ∙ held_drop pool items c.args.place c.self.invariant.fits.held)

pub returns-in-Some : goal.returns-in-Some
returns-in-Some c b s =
    let pool = c.self.inside.pool in
    let items = c.self.inside.queue.items in
    let stands = subst (λ (k : BookieFacts). StandsFor b k) (sym c.self.view_is) s in
    joins pool c.in-Some.piece (item_at b.queue c.args.place) c.parts.result
    (subst (λ o. ArePieces pool o (item_at b.queue c.args.place)) c.in-Some.is
    (pieces_at pool items b.queue c.args.place c.index.result.now (search rules) c.index.ensures stands.queue))
    c.parts.ensures.joined

pub returns-in-None : goal.returns-in-None
returns-in-None c b s =
    let pool = c.self.inside.pool in
    let items = c.self.inside.queue.items in
    let stands = subst (λ (k : BookieFacts). StandsFor b k) (sym c.self.view_is) s in
    joins_none pool (item_at b.queue c.args.place)
    (subst (λ o. ArePieces pool o (item_at b.queue c.args.place)) c.in-None.is
    (pieces_at pool items b.queue c.args.place c.index.result.now (search rules) c.index.ensures stands.queue))
