-- The nodes of the metadata tree that the log uses, and their paths.
use Rattle.std.specs.Prelude.{◌≡◌, ℕ, Bool, true, false, ◌&&◌, ◌==◌, List, [], ◌∷◌, ◌++◌, Option, Some, None, codes, bytes_eq}
use Rattle.dl_types.specs.Names.{name_fault}
use Rattle.dl_fields.specs.Paths.{with_slashes}
pub use Rattle.dl_fields.specs.Paths.{NoSlash}
use Rattle.dl_fields.specs.Digits.{digits, HasTenDigits}

-- a node by what it is for: the configuration, a ledger, or a node of the stream of a name
pub data Key : Type 0 where
  Conf : Key
  Streams : Key
  Ledgers : Key
  Ledger : (number : ℕ) → Key
  Stream : (stream : List ℕ) → Key
  MaxSeq : (stream : List ℕ) → Key
  Cut : (stream : List ℕ) → Key
  Alloc : (stream : List ℕ) → Key
  Locks : (stream : List ℕ) → Key
  Member : (stream : List ℕ) (number : ℕ) → Key
  Segs : (stream : List ℕ) → Key
  Progress : (stream : List ℕ) (segment : ℕ) → Key
  Completed : (stream : List ℕ) (segment : ℕ) → Key

-- the parts of a node's path
abbrev pub parts_of : Key → List (List ℕ)
parts_of Conf = codes "conf" ∷ []
parts_of Streams = codes "streams" ∷ []
parts_of Ledgers = codes "ledgers" ∷ []
parts_of (Ledger n) = codes "ledgers" ∷ (codes "L" ++ digits 10 n) ∷ []
parts_of (Stream s) = codes "streams" ∷ s ∷ []
parts_of (MaxSeq s) = codes "streams" ∷ s ∷ codes "maxseq" ∷ []
parts_of (Cut s) = codes "streams" ∷ s ∷ codes "cut" ∷ []
parts_of (Alloc s) = codes "streams" ∷ s ∷ codes "alloc" ∷ []
parts_of (Locks s) = codes "streams" ∷ s ∷ codes "lock" ∷ []
parts_of (Member s n) = codes "streams" ∷ s ∷ codes "lock" ∷ (codes "m-" ++ digits 10 n) ∷ []
parts_of (Segs s) = codes "streams" ∷ s ∷ codes "segs" ∷ []
parts_of (Progress s k) = codes "streams" ∷ s ∷ codes "segs" ∷ (codes "p" ++ digits 10 k) ∷ []
parts_of (Completed s k) = codes "streams" ∷ s ∷ codes "segs" ∷ (codes "c" ++ digits 10 k) ∷ []

-- the path of a node
unfoldable pub path_of : Key → List ℕ
path_of k = with_slashes (parts_of k)

-- the path to which the ten digits of a ledger are added
unfoldable pub ledger_stem : List ℕ
ledger_stem = with_slashes (codes "ledgers" ∷ codes "L" ∷ [])

-- the path to which the ten digits of a member of a stream's lock are added
unfoldable pub member_stem : List ℕ → List ℕ
member_stem s = with_slashes (codes "streams" ∷ s ∷ codes "lock" ∷ codes "m-" ∷ [])

-- whether two keys are the same
abbrev pub is_key : Key → Key → Bool
is_key Conf Conf = true
is_key Streams Streams = true
is_key Ledgers Ledgers = true
is_key (Ledger n) (Ledger m) = n == m
is_key (Stream s) (Stream t) = bytes_eq s t
is_key (MaxSeq s) (MaxSeq t) = bytes_eq s t
is_key (Cut s) (Cut t) = bytes_eq s t
is_key (Alloc s) (Alloc t) = bytes_eq s t
is_key (Locks s) (Locks t) = bytes_eq s t
is_key (Member s n) (Member t m) = bytes_eq s t && n == m
is_key (Segs s) (Segs t) = bytes_eq s t
is_key (Progress s k) (Progress t l) = bytes_eq s t && k == l
is_key (Completed s k) (Completed t l) = bytes_eq s t && k == l
is_key _ _ = false

-- a key whose number has ten digits, and whose stream's name, where it has one, is of this kind
abbrev pub IsKeyWith : (List ℕ → Type 0) → Key → Type 0
IsKeyWith P Conf = Unit {0}
IsKeyWith P Streams = Unit {0}
IsKeyWith P Ledgers = Unit {0}
IsKeyWith P (Ledger n) = HasTenDigits n
IsKeyWith P (Stream s) = P s
IsKeyWith P (MaxSeq s) = P s
IsKeyWith P (Cut s) = P s
IsKeyWith P (Alloc s) = P s
IsKeyWith P (Locks s) = P s
IsKeyWith P (Member s n) = P s × HasTenDigits n
IsKeyWith P (Segs s) = P s
IsKeyWith P (Progress s k) = P s × HasTenDigits k
IsKeyWith P (Completed s k) = P s × HasTenDigits k

-- a key whose path no other key has: the name, whatever it is, has no slash
abbrev pub IsKey : Key → Type 0
IsKey k = IsKeyWith NoSlash k

-- the name of a stream
abbrev pub IsName : List ℕ → Type 0
IsName s = name_fault s ≡ None

-- a key that the log uses: the name is a stream's
abbrev pub IsNodeKey : Key → Type 0
IsNodeKey k = IsKeyWith IsName k

-- the node above, where that isn't the root
abbrev pub parent_key : Key → Option Key
parent_key Conf = None
parent_key Streams = None
parent_key Ledgers = None
parent_key (Ledger n) = Some Ledgers
parent_key (Stream s) = Some Streams
parent_key (MaxSeq s) = Some (Stream s)
parent_key (Cut s) = Some (Stream s)
parent_key (Alloc s) = Some (Stream s)
parent_key (Locks s) = Some (Stream s)
parent_key (Member s n) = Some (Locks s)
parent_key (Segs s) = Some (Stream s)
parent_key (Progress s k) = Some (Segs s)
parent_key (Completed s k) = Some (Segs s)

-- the last part of a node's path
abbrev pub name_of : Key → List ℕ
name_of Conf = codes "conf"
name_of Streams = codes "streams"
name_of Ledgers = codes "ledgers"
name_of (Ledger n) = codes "L" ++ digits 10 n
name_of (Stream s) = s
name_of (MaxSeq s) = codes "maxseq"
name_of (Cut s) = codes "cut"
name_of (Alloc s) = codes "alloc"
name_of (Locks s) = codes "lock"
name_of (Member s n) = codes "m-" ++ digits 10 n
name_of (Segs s) = codes "segs"
name_of (Progress s k) = codes "p" ++ digits 10 k
name_of (Completed s k) = codes "c" ++ digits 10 k

-- what stands before the slash of the last part: the path above, and nothing below the root
abbrev pub front_of : Option Key → List ℕ
front_of None = []
front_of (Some k) = path_of k
