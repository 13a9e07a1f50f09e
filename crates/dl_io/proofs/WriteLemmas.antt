-- One text after another, given to a sink.
use Rattle.std.proofs.Common.{ℕ, ◌≤◌, List, ◌++◌, arith}
use Rattle.std.specs.Prelude.{Result, Ok, Err, OnErr}
use Rattle.dl_io.specs.Causes.{Rose}
use Rattle.dl_io.specs.Sinks.{Writes}
use Rattle.dl_io.specs.Views.{SinkView}
use Rattle.dl_io.proofs.Pieces.{appends_after, front_after, front_of_longer, keeps_amount_more}

-- a count that rose in the second call rose in both together
rose_after : {E : Type 0} (i j k : ℕ) (r : Result (Unit {0}) E) → i ≤ j → OnErr r (Rose j k) → OnErr r (Rose i k)
rose_after i j k (Ok u) before h = tt
rose_after i j k (Err e) before h = omega (arith, before, h)

-- a text that was given whole, and then another
pub writes_then : {E F : Type 0} (a b c : SinkView) (x y : List ℕ) (u : Unit {0}) (r : Result (Unit {0}) E) → Writes {E = F} a b x (Ok u) → Writes b c y r
    → Writes a c (x ++ y) r
writes_then a b c x y u r v w = record {
  ok = appends_after a.held b.held c.held x y r v.ok w.ok;
  some = front_after a b c x y v.ok w.some;
  kept = keeps_amount_more a.finished b.finished c.finished v.kept w.kept;
  cause = record { later = omega (arith, v.cause.later, w.cause.later); failed = rose_after a.faults b.faults c.faults r v.cause.later w.cause.failed };
}

-- a text at which the writing stopped is the front of a longer one
pub writes_stopped : {E F : Type 0} (a b : SinkView) (x y : List ℕ) (e : F) (f : E) → Writes {E = F} a b x (Err e) → Writes {E = E} a b (x ++ y) (Err f)
writes_stopped a b x y e f v = record {
  ok = tt;
  some = front_of_longer a b x y v.some;
  kept = v.kept;
  cause = record { later = v.cause.later; failed = v.cause.failed };
}
