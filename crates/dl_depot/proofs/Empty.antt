-- Files that were just made.
use Rattle.std.proofs.Common.{◌≡◌, ℕ, List, [], get_or, length, refl}
use Rattle.dl_depot.specs.Files.{file_count}
use Rattle.dl_depot.specs.Held.{Held, empty_held}
use Rattle.dl_depot.specs.Log.{IsKept}

-- each file is empty
pub record AreEmpty (files : List Held) : Type 0 where
  pub each : (f : ℕ) → get_or files f empty_held ≡ empty_held

-- an empty log tells them
pub new_kept : (files : List Held) → length files ≡ file_count → AreEmpty files → IsKept [] files
new_kept files count empty = record {
  log_fits = refl;
  count = count;
  shown = λ f. let e = empty.each f in cc;
  synced = λ f. let e = empty.each f in cc;
}
