-- How long fields and lists are.
use Rattle.std.proofs.Common.{◌≡◌, ℕ, ◌+◌, ◌<◌, List, ◌++◌, length, drop, get_or, sym, ap, ◌∙◌, arith, length-append}
use Rattle.std.specs.List.{flat_map}
use Rattle.std.specs.Int.{w8, w16, w32, w64}
use Rattle.std.proofs.lemmas.List.{drop_more}
use Rattle.dl_codec.specs.Fields.{field}
use Rattle.dl_codec.proofs.FieldLaws.{width_8, width_16, width_32, width_64}

-- A number of 8 bits has one byte.
pub size_8 : (n : ℕ) → length (field w8 n) ≡ 1
size_8 n = width_8.len n

-- A number of 16 bits has two bytes.
pub size_16 : (n : ℕ) → length (field w16 n) ≡ 2
size_16 n = width_16.len n

-- A number of 32 bits has four bytes.
pub size_32 : (n : ℕ) → length (field w32 n) ≡ 4
size_32 n = width_32.len n

-- A number of 64 bits has eight bytes.
pub size_64 : (n : ℕ) → length (field w64 n) ≡ 8
size_64 n = width_64.len n

pub ruleset sizes = (length-append, size_8, size_16, size_32, size_64)

-- the items from a place on are one item and the items behind it
pub items_more : {A : Type 0} (p : A → List ℕ) (xs : List A) (i : ℕ) (x : A) → i < length xs → x ≡ get_or xs i x
    → length (flat_map p (drop i xs)) ≡ length (p x) + length (flat_map p (drop (i + 1) xs))
items_more {A} p xs i x lt is =
    let e : flat_map p (drop i xs) ≡ p x ++ flat_map p (drop (i + 1) xs) =
    ap (flat_map p) (drop_more xs i x lt) ∙ ap (λ (y : A). p y ++ flat_map p (drop (i + 1) xs)) (sym is) in
    ap length e ∙ length-append (p x) (flat_map p (drop (i + 1) xs))
