-- Paths: a `/` before each part. The root is `/`.
use Rattle.std.specs.Prelude.{◌≡◌, ℕ, ◌-◌, Bool, ◌&&◌, not, ◌==◌, if◌then◌else◌, List, [], ◌∷◌, ◌++◌, length, take, drop, bytes_eq}
use Rattle.dl_fields.specs.Paths.{NoSlash, last_length}

-- the root's path
abbrev pub root : List ℕ
root = 47 ∷ []

-- the last part, without its slash
unfoldable pub name_of : List ℕ → List ℕ
name_of path = drop (length path - last_length path) path

-- all before the last part, with its slash
unfoldable pub front_of : List ℕ → List ℕ
front_of path = take (length path - last_length path) path

-- a path, without the slash that is the root's, and one more byte
abbrev pub with_byte : List ℕ → ℕ → List ℕ
with_byte path byte = if bytes_eq path root then byte ∷ [] else path ++ byte ∷ []

-- with which the path of each child of a node begins
abbrev pub below : List ℕ → List ℕ
below path = with_byte path 47

-- the least path, in byte order, above all that begin so
abbrev pub past_below : List ℕ → List ℕ
past_below path = with_byte path 48

-- the path of a node's parent
unfoldable pub parent_of : List ℕ → List ℕ
parent_of path = if length path - last_length path == 1 then root else take (length path - last_length path - 1) path

-- whether a path is this beginning and one more part
abbrev pub is_below : List ℕ → List ℕ → Bool
is_below prefix path = bytes_eq (front_of path) prefix && not (length (name_of path) == 0)

-- whether a path is that of a child of another
abbrev pub is_child : List ℕ → List ℕ → Bool
is_child parent path = is_below (below parent) path

-- the root where nothing stands before the last slash
abbrev pub or_root : List ℕ → List ℕ
or_root [] = root
or_root (c ∷ cs) = c ∷ cs

-- a part below a path has that path as its parent, and itself as its name
abbrev pub PartsAreFound : Type 0
PartsAreFound = (front part : List ℕ) → NoSlash part → (parent_of (front ++ 47 ∷ part) ≡ or_root front) × (name_of (front ++ 47 ∷ part) ≡ part)
