-- What the calls of a sink do to it.
use Rattle.std.specs.Prelude.{◌≡◌, ℕ, ◌<◌, List, ◌++◌, length, Option, None, Some, Result, IfOk, OnOk, MatchResult, ⊤}
use Rattle.std.specs.Io.{WritesAtMost}
use Rattle.std.specs.Io.KnownBytes.{Appends, WriteAppends, Keeps}
use Rattle.dl_io.specs.Causes.{HasCause}
use Rattle.dl_io.specs.Views.{SinkView}

-- a told amount stays
abbrev pub KeepsAmount : Option ℕ → Option ℕ → Type 0
KeepsAmount None new = ⊤
KeepsAmount (Some n) new = new ≡ Some n

-- where the bytes and an amount of them are told, the amount becomes that of all
abbrev pub ComesToAll : Option (List ℕ) → Option ℕ → Option ℕ → Type 0
ComesToAll None old new = ⊤
ComesToAll (Some bytes) None new = ⊤
ComesToAll (Some bytes) (Some n) new = new ≡ Some (length bytes)

-- all that is held is finished
abbrev pub FinishesAll : SinkView → SinkView → Type 0
FinishesAll old new = ComesToAll new.held old.finished new.finished

-- without a fault all that is held is finished; a fault leaves how much is
abbrev pub FinishesOrKeeps : {E : Type 0} → SinkView → SinkView → Result (Unit {0}) E → Type 0
FinishesOrKeeps old new result = MatchResult result (λ _. FinishesAll old new) (λ _. KeepsAmount old.finished new.finished)

-- something of a piece is taken
abbrev pub TakesSome : {E : Type 0} → List ℕ → Result ℕ E → Type 0
TakesSome piece result = IfOk result (λ n. 0 < length piece → 0 < n)

-- what `give` does: some first bytes of a piece are held besides
pub record Gives {E : Type 0} (old new : SinkView) (piece : List ℕ) (result : Result ℕ E) : Type 0 where
  pub bound : WritesAtMost result piece
  pub some : TakesSome piece result
  pub bytes : WriteAppends old.held new.held result piece
  pub kept : KeepsAmount old.finished new.finished
  pub cause : HasCause old.faults new.faults result

-- what `finish` does: all that is held is finished
pub record Finishes {E : Type 0} (old new : SinkView) (result : Result (Unit {0}) E) : Type 0 where
  pub held : Keeps old.held new.held
  pub finished : FinishesOrKeeps old new result
  pub cause : HasCause old.faults new.faults result

-- a front of a text was given
pub record GivesFront (old new : SinkView) (text : List ℕ) : Type 0 where
  pub front : List ℕ
  pub rest : List ℕ
  pub parts : text ≡ front ++ rest
  pub given : Appends old.held new.held front

-- A text was given to a sink: all of it, or a front of it where a call failed. How much is finished stays.
pub record Writes {E : Type 0} (old new : SinkView) (text : List ℕ) (result : Result (Unit {0}) E) : Type 0 where
  pub ok : OnOk result (Appends old.held new.held text)
  pub some : GivesFront old new text
  pub kept : KeepsAmount old.finished new.finished
  pub cause : HasCause old.faults new.faults result

-- A text was given to a sink and finished: all of it, or a front of it where a call failed.
pub record WritesOut {E : Type 0} (old new : SinkView) (text : List ℕ) (result : Result (Unit {0}) E) : Type 0 where
  pub ok : OnOk result (Appends old.held new.held text)
  pub some : GivesFront old new text
  pub finished : FinishesOrKeeps old new result
  pub cause : HasCause old.faults new.faults result
