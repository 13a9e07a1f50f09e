-- The version that the last operation answered.
use Rattle.std.proofs.Common.{◌≡◌, ◌-◌, List, [], ◌∷◌, length, Some, ap}
use Rattle.std.specs.List.{slice_get}
use Rattle.std.proofs.Math.Numerals.{sub-one}
use Rattle.dl_types.specs.declared.one_answer.OneAnswer.{OneAnswer}
use Rattle.dl_rules_stream.specs.Opens.{version_in, last_version}

-- the last answer stands behind all others
last_at : (a : OneAnswer) (xs : List OneAnswer) (b : OneAnswer) → Some b ≡ slice_get (a ∷ xs) (length xs) → version_in b ≡ last_version (a ∷ xs)
last_at a [] b e = let same : b ≡ a = cc in ap version_in same
last_at a (c ∷ xs) b e = last_at c xs b e

-- it is at the last place
pub last_version_is : (xs : List OneAnswer) (b : OneAnswer) → Some b ≡ slice_get xs (length xs - 1) → version_in b ≡ last_version xs
last_version_is [] b e = absurd cc
last_version_is (a ∷ xs) b e = last_at a xs b (rw sub-one at e)
