-- What a call of a source does to it.
use Rattle.std.specs.Prelude.{ℕ, List, Result}
use Rattle.std.specs.Io.{ReadsAtMost}
use Rattle.std.specs.Io.KnownBytes.{ReadConsumes}
use Rattle.dl_io.specs.Causes.{HasCause, Rose}
use Rattle.dl_io.specs.Views.{SourceView}

-- what `take` does: some first bytes of what is left come to the front of a buffer
pub record Takes {E : Type 0} (old new : SourceView) (into : List ℕ) (result : Result ℕ E) : Type 0 where
  pub bound : ReadsAtMost result into
  pub bytes : ReadConsumes old.left new.left result into
  pub cause : HasCause old.faults new.faults result

-- a call of a source failed, and it counted that
abbrev pub HasFault : SourceView → SourceView → Type 0
HasFault old new = Rose old.faults new.faults
