use Rattle.dl_formats.proofs.PathLemmas.{ledger_put}
use Rattle.dl_formats.proofs.paths.ledger_path.Goals as goal

pub returns : goal.returns
returns c = ledger_put _ _ _ _ _ c.new-bytes.ensures.items c.in_ok-extend_from_slice.ensures.items c.in_ok-put_digits.ensures c.from_vec.ensures
