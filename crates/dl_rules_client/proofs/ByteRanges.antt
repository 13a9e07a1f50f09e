-- Numbers are spelt by bytes, and so is an entry whose payloads are bytes; and what an entry of bytes holds is bytes.
use Rattle.std.proofs.Common.{ℕ, zero, suc, ◌<◌, List, [], ◌∷◌, ◌++◌, length, mod-lt, lit<}
use Rattle.std.specs.Prelude.{flat_map}
use Rattle.std.specs.List.{AllByRecursion}
use Rattle.std.specs.Int.{Width, byte_len, byte_at, bytes_high_first, w8, w16, w32, w64}
use Rattle.dl_codec.specs.Fields.{field, IsBytes}
use Rattle.dl_record.specs.declared.stored.Stored.{Stored}
use Rattle.dl_record.specs.declared.stored.Stored.TheVariants.{Plain, Control, Set}
use Rattle.dl_record.specs.Grammar.{member_bytes, set_bytes, payload_bytes, fields_and_payload, record_bytes, header_bytes, entry_bytes}
use Rattle.dl_text.specs.Hex.{AllBytes}

-- ---- lists of bytes

-- bytes in a list are bytes by their places
pub bytes_are : (xs : List ℕ) → AllBytes xs → IsBytes xs
bytes_are [] each i = lit< tt
bytes_are (x ∷ xs) each zero = each.0
bytes_are (x ∷ xs) each (suc i) = bytes_are xs each.1 i

-- bytes by their places are bytes in a list
pub bytes_each : (xs : List ℕ) → IsBytes xs → AllBytes xs
bytes_each [] are = tt
bytes_each (x ∷ xs) are = (are 0, bytes_each xs (λ i. are (suc i)))

-- two lists of bytes
both_bytes : (xs ys : List ℕ) → AllBytes xs → AllBytes ys → AllBytes (xs ++ ys)
both_bytes [] ys a b = b
both_bytes (x ∷ xs) ys a b = (a.0, both_bytes xs ys a.1 b)

-- the first of two lists
first_bytes : (xs ys : List ℕ) → AllBytes (xs ++ ys) → AllBytes xs
first_bytes [] ys each = tt
first_bytes (x ∷ xs) ys each = (each.0, first_bytes xs ys each.1)

-- the second of them
second_bytes : (xs ys : List ℕ) → AllBytes (xs ++ ys) → AllBytes ys
second_bytes [] ys each = each
second_bytes (x ∷ xs) ys each = second_bytes xs ys each.1

-- ---- numbers

-- one byte of a number
byte_fits : (k n : ℕ) → byte_at k n < 256
byte_fits zero n = mod-lt n (lit< tt)
byte_fits (suc k) n = mod-lt _ (lit< tt)

-- the bytes of a number
number_bytes : (k n : ℕ) → AllBytes (bytes_high_first k n)
number_bytes zero n = tt
number_bytes (suc k) n = (byte_fits k n, number_bytes k n)

-- a number as a field
pub field_bytes : (w : Width) (n : ℕ) → AllBytes (field w n)
unfolding field
field_bytes w n = number_bytes (byte_len w) n

-- a field, and others behind it
pub field_then : (w : Width) (n : ℕ) (xs : List ℕ) → AllBytes xs → AllBytes (field w n ++ xs)
field_then w n xs each = both_bytes (field w n) xs (field_bytes w n) each

-- ---- entries

-- the payloads of a stored record are bytes
abbrev pub StoredFits : Stored → Type 0
StoredFits (Plain position txid payload) = AllBytes payload
StoredFits (Control position txid) = Unit {0}
StoredFits (Set position txid payloads) = AllByRecursion AllBytes payloads

-- members of a set are spelt by bytes
members_spelt : (ps : List (List ℕ)) → AllByRecursion AllBytes ps → AllBytes (flat_map member_bytes ps)
members_spelt [] each = tt
members_spelt (p ∷ ps) each = both_bytes (member_bytes p) (flat_map member_bytes ps) (field_then w32 (length p) p each.0) (members_spelt ps each.1)

-- what stands behind the fields of a stored record is bytes
payload_spelt : (r : Stored) → StoredFits r → AllBytes (payload_bytes r)
unfolding set_bytes
payload_spelt (Plain position txid payload) is = is
payload_spelt (Control position txid) is = tt
payload_spelt (Set position txid payloads) is = field_then w8 0 _ (field_then w8 0 _ (field_then w16 (length payloads) _ (members_spelt payloads is)))

-- a stored record is spelt by bytes
record_spelt : (r : Stored) → StoredFits r → AllBytes (record_bytes r)
unfolding fields_and_payload
record_spelt r is =
    field_then w32 _ _ (field_then w32 _ _ (field_then w64 _ _ (field_then w32 (length (payload_bytes r)) (payload_bytes r) (payload_spelt r is))))

-- stored records are spelt by bytes
records_spelt : (rs : List Stored) → AllByRecursion StoredFits rs → AllBytes (flat_map record_bytes rs)
records_spelt [] each = tt
records_spelt (r ∷ rs) each = both_bytes (record_bytes r) (flat_map record_bytes rs) (record_spelt r each.0) (records_spelt rs each.1)

-- a header is spelt by bytes
header_spelt : (count size : ℕ) → AllBytes (header_bytes count size)
unfolding header_bytes
header_spelt count size = field_then w8 1 _ (field_then w8 0 _ (field_then w16 count _ (field_bytes w32 size)))

-- an entry is spelt by bytes
pub entry_spelt : (parts : List Stored) → AllByRecursion StoredFits parts → IsBytes (entry_bytes parts)
entry_spelt parts each =
    let body : List ℕ = flat_map record_bytes parts in
    bytes_are (entry_bytes parts) (both_bytes (header_bytes (length parts) (length body)) body (header_spelt (length parts) (length body))
    (records_spelt parts each))

-- ---- what entries hold

-- members that are spelt by bytes
members_held : (ps : List (List ℕ)) → AllBytes (flat_map member_bytes ps) → AllByRecursion AllBytes ps
members_held [] each = tt
members_held (p ∷ ps) each = (
  second_bytes (field w32 (length p)) p (first_bytes (member_bytes p) (flat_map member_bytes ps) each),
  members_held ps (second_bytes (member_bytes p) (flat_map member_bytes ps) each),
)

-- a set that is spelt by bytes
set_held : (ps : List (List ℕ)) → AllBytes (set_bytes ps) → AllByRecursion AllBytes ps
unfolding set_bytes
set_held ps each =
    members_held ps (second_bytes (field w16 (length ps)) (flat_map member_bytes ps) (second_bytes (field w8 0) _ (second_bytes (field w8 0) _ each)))

-- what stands behind the fields of a stored record that is spelt by bytes
payload_held : (r : Stored) → AllBytes (record_bytes r) → AllBytes (payload_bytes r)
unfolding fields_and_payload
payload_held r each =
    second_bytes (field w32 (length (payload_bytes r))) (payload_bytes r) (second_bytes (field w64 _) _
    (second_bytes (field w32 _) _ (second_bytes (field w32 _) _ each)))

-- its payloads
stored_held : (r : Stored) → AllBytes (payload_bytes r) → StoredFits r
stored_held (Plain position txid payload) each = each
stored_held (Control position txid) each = tt
stored_held (Set position txid payloads) each = set_held payloads each

-- stored records that are spelt by bytes
records_held : (rs : List Stored) → AllBytes (flat_map record_bytes rs) → AllByRecursion StoredFits rs
records_held [] each = tt
records_held (r ∷ rs) each = (
  stored_held r (payload_held r (first_bytes (record_bytes r) (flat_map record_bytes rs) each)),
  records_held rs (second_bytes (record_bytes r) (flat_map record_bytes rs) each),
)

-- an entry that is spelt by bytes
pub entry_held : (parts : List Stored) → IsBytes (entry_bytes parts) → AllByRecursion StoredFits parts
entry_held parts are =
    let body : List ℕ = flat_map record_bytes parts in
    records_held parts (second_bytes (header_bytes (length parts) (length body)) body (bytes_each (entry_bytes parts) are))
