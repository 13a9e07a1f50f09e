-- What a task's messages are about, and the sets of places that stand for bookies that have answered.
use Rattle.std.specs.Prelude.{◌≡◌, ℕ, ◌<◌, Bool, ◌||◌, ◌==◌, List, slice_index}
use Rattle.dl_quorum.specs.Places.{holds}
use Rattle.dl_quorum.specs.Pieces.{Pieces, last_piece}
use Rattle.dl_rules_ledger.specs.Subjects.{Subject, has_answered, greatest_count}

-- the ledger with these pieces, and this tag
abbrev pub subject : (tag ledger : ℕ) → Pieces → Subject
subject tag ledger pieces = record { tag = tag; ledger = ledger; pieces = pieces }

-- a set of places is that of the bookies of the last piece that pass a test: each place stands for its bookie
pub record IsSetOf (w : Pieces) (has : ℕ → Bool) (set : ℕ) : Type 0 where
  pub places : (place : ℕ) → place < w.q.e → holds set place ≡ has (slice_index (last_piece w).members place)

-- a test that a bookie passes besides
abbrev pub or_this : ℕ → (ℕ → Bool) → ℕ → Bool
or_this bookie has b = bookie == b || has b

-- who has told a count, and the greatest of the counts
pub record IsTallyOf (x : Subject) (answers : List (ℕ × ℕ)) (set greatest : ℕ) : Type 0 where
  pub who : IsSetOf x.pieces (has_answered answers) set
  pub greatest_one : greatest ≡ greatest_count answers
