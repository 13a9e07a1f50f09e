-- The laws of keys and their paths.
use Rattle.std.specs.Prelude.{◌≡◌, ℕ, ◌<◌, ◌↔◌, true, cond, List, ◌∷◌, ◌++◌, length, Some, None}
use Rattle.std.specs.FinMap.{FinMap, get, insert, remove}
use Rattle.std.specs.Cmp.Lexicographic.{slice_cmp}
use Rattle.std.specs.Ordering.{nat_cmp}
use Rattle.dl_fields.specs.Paths.{IsPath, IsStemField}
use Rattle.dl_fields.specs.Digits.{digits}
use Rattle.dl_formats.specs.Keys.{Key, Ledger, Member, path_of, ledger_stem, member_stem, is_key}
use Rattle.dl_formats.specs.Keys.{NoSlash, IsKey, IsName, IsNodeKey, parent_key, name_of, front_of}

-- different keys have different paths
abbrev pub KeysHavePathsOfTheirOwn : Type 0
KeysHavePathsOfTheirOwn = (k m : Key) → IsKey k → IsKey m → path_of k ≡ path_of m → k ≡ m

-- the test of keys says whether they are the same
abbrev pub KeysAreTold : Type 0
KeysAreTold = (k m : Key) → (is_key k m ≡ true) ↔ (k ≡ m)

-- a node that is put at one key stands there, and nothing changes at another one
abbrev pub InsertIsByKey : Type 0 → Type 0
InsertIsByKey T =
    (t : FinMap (slice_cmp nat_cmp) T) (k : Key) (n : T) (m : Key) → IsKey k → IsKey m
    → get (insert t (path_of k) n) (path_of m) ≡ cond (is_key m k) (Some n) (get t (path_of m))

-- nothing stands at a key from which the node is removed, and nothing changes at another one
abbrev pub RemoveIsByKey : Type 0 → Type 0
RemoveIsByKey T =
    (t : FinMap (slice_cmp nat_cmp) T) (k m : Key) → IsKey k → IsKey m
    → get (remove t (path_of k)) (path_of m) ≡ cond (is_key m k) None (get t (path_of m))

-- The path of a node is that of the node above with one part more; digits behind a stem make a path.
pub record PathsGoByParents : Type 0 where
  pub parent : (k : Key) → path_of k ≡ front_of (parent_key k) ++ 47 ∷ name_of k
  pub name : (k : Key) → IsKey k → NoSlash (name_of k)
  pub ledger : (n : ℕ) → path_of (Ledger n) ≡ ledger_stem ++ digits 10 n
  pub member : (s : List ℕ) (n : ℕ) → path_of (Member s n) ≡ member_stem s ++ digits 10 n

-- The paths of the nodes of a stream, and of the others, have the form of paths and fit a field of a message, and the
-- stems have room for ten digits. A stream's name has no slash.
pub record PathsHaveTheirForm : Type 0 where
  pub key : (k : Key) → IsNodeKey k → IsKey k
  pub path : (k : Key) → IsNodeKey k → IsPath (path_of k)
  pub length : (k : Key) → IsNodeKey k → length (path_of k) < 65536
  pub ledger : IsStemField ledger_stem
  pub member : (s : List ℕ) → IsName s → IsStemField (member_stem s)
