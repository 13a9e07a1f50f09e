-- What a client in small keeps.
use Rattle.std.specs.Prelude.{ℕ}
use Rattle.dl_lwrite.specs.Facts.{WriterFacts}

-- its number, and what its writer keeps
pub record HolderFacts : Type 0 where
  pub number : ℕ
  pub writer : WriterFacts
