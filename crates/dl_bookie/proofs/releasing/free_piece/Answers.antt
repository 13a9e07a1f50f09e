use Rattle.std.proofs.Common.{[], option_to_list, sym, ap, ◌∙◌}
use Rattle.dl_bookie.specs.Pieces.{is_held}
use Rattle.dl_bookie.proofs.PieceLemmas.{held_live}
use Rattle.dl_bookie.proofs.releasing.free_piece.Goals as goal

pub free-requires : goal.free-requires
free-requires c = held_live c.args.pool.now c.in-Some.piece [] (ap (λ o. is_held c.args.pool.now (option_to_list o)) (sym c.in-Some.is) ∙ c.requires)
