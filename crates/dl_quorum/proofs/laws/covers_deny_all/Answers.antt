use Rattle.std.proofs.Common.{leb-true, le-leb}
use Rattle.dl_quorum.specs.WriteSets.{denies}
use Rattle.dl_types.proofs.UptoLemmas.{list_all_upto_all}
use Rattle.dl_quorum.proofs.WriteSetLemmas.{covers_places-denies}
use Rattle.dl_quorum.proofs.laws.covers_deny_all.Goals as goal

pub returns : goal.returns
returns c q has rule = (
  λ covered entry. leb-true _ _ (covers_places-denies q has rule covered entry),
  λ enough. list_all_upto_all (λ entry. denies q entry has) q.e (λ entry _. le-leb _ _ (enough entry)),
)
