-- What a ledger's writer keeps.
use Rattle.std.specs.Prelude.{ℕ, List, Option}
use Rattle.dl_types.specs.declared.quorum.Quorum.{Quorum}
use Rattle.dl_types.specs.declared.ensemble.Ensemble.{Ensemble}

-- The counts of entries sent and confirmed; for each entry from the confirmed count on, the set of the places whose
-- bookies have acknowledged it; and the first bookie that said that the ledger is fenced.
pub record WriterFacts : Type 0 where
  pub ledger : ℕ
  pub q : Quorum
  pub ensemble : Ensemble
  pub sent : ℕ
  pub confirmed : ℕ
  pub answers : List ℕ
  pub fenced : Option ℕ
