-- Items are read exactly, and their lengths are those of their bytes.
use Rattle.std.proofs.Common.{◌≡◌, ℕ, zero, suc, ◌+◌, ◌-◌, ◌^◌, ◌<◌, ◌≤◌, List, [], ◌∷◌, ◌++◌, length, sum_by, Option, Some, None, Result, Ok, Err}
use Rattle.std.proofs.Common.{refl, sym, ap, subst, ◌∙◌, lit<, arith, length-append}
use Rattle.std.specs.List.{AllByRecursion, Contains}
use Rattle.std.proofs.Math.Seq.{take-append_seam}
use Rattle.std.specs.Int.{w32, w64}
use Rattle.std.proofs.lemmas.List.Concat.{flat_map-cons, length-flat_map}
use Rattle.std.proofs.lemmas.List.Sums.{sum_by-cons}
use Rattle.dl_codec.specs.Fields.{field, IsBytes}
use Rattle.dl_fields.specs.Readers.{Exact, ◌>>=◌}
use Rattle.dl_fields.specs.Fields.{Fits, counted_field, IsCounted}
use Rattle.dl_fields.specs.Codes.{value_of_code, code_byte, code_from}
use Rattle.dl_fields.proofs.ReaderLemmas.{bind_ok, ok_is, made_exact, without_flaw_exact, bytes_behind}
use Rattle.dl_fields.proofs.FieldLemmas.{bytes_taken, u64_exact, run32_exact}
use Rattle.dl_fields.proofs.KindLemmas.{also_exact, kinded_exact}
use Rattle.dl_fields.proofs.CodeLemmas.{all_codes_exact}
use Rattle.dl_fields.proofs.SizeLemmas.{sizes}
use Rattle.dl_record.specs.declared.entry_flaw.EntryFlaw.{EntryFlaw}
use Rattle.dl_record.specs.declared.stored.Stored.{Stored}
use Rattle.dl_record.specs.Grammar.{IsEntryBytes}
use Rattle.dl_record.specs.Reading.{entry_at}
use Rattle.dl_record.proofs.Entries.{entry_found, entry_again}
use Rattle.dl_rules_nodes.specs.Items.{Item, AddItem, CopyItem, FenceItem, ItemKind, AnAdd, ACopy, AFence, item_code, item_kinds, item_kind}
use Rattle.dl_rules_nodes.specs.Items.{item_rest, item_bytes, item_length, body_of, entry_in, IsItem}
use Rattle.dl_rules_nodes.specs.Bookies.{named_entry}
use Rattle.dl_rules_nodes.specs.Reading.{place_in, left_at, entry_flaw, entry_from, item_rest_from, item_from, items_upto}
use Rattle.dl_rules_nodes.specs.Laws.{LengthsAreOfBytes, ItemsAreExact, BodiesAreExact}

-- the length of an item is that of its bytes
item_has_length : (x : Item) → item_length x ≡ length (item_bytes x)
unfolding item_bytes
item_has_length (AddItem l e n bytes) = grind (arith, sizes)
item_has_length (CopyItem l e n bytes) = grind (arith, sizes)
item_has_length (FenceItem l) = grind (arith, sizes)

-- sums of numbers that are the same are the same
sum_same : (f g : Item → ℕ) → ((x : Item) → f x ≡ g x) → (xs : List Item) → sum_by f xs ≡ sum_by g xs
sum_same f g same [] = refl
sum_same f g same (x ∷ xs) =
    sum_by-cons f x xs ∙ ap (λ n. n + sum_by f xs) (same x) ∙ ap (λ n. g x + n) (sum_same f g same xs) ∙ sym (sum_by-cons g x xs)

-- lengths are those of bytes, of an item and of a body
pub lengths_are_of_bytes : LengthsAreOfBytes
lengths_are_of_bytes = record {
  item = item_has_length;
  items = λ xs. sum_same item_length (λ x. length (item_bytes x)) item_has_length xs ∙ sym (length-flat_map item_bytes xs);
}

-- ---- the entry in an item

-- bytes without a flaw are read as an entry
left_none : (size : ℕ) (r : Result (List Stored) EntryFlaw) → left_at size r ≡ None → (parts : List Stored) × (r ≡ Ok parts)
left_none size (Ok parts) e = (parts, refl)
left_none size (Err f) e = absurd cc

-- at a flaw no more bytes are left than there are
left_some : (size back : ℕ) (r : Result (List Stored) EntryFlaw) → left_at size r ≡ Some back → back ≤ size
left_some size back (Ok parts) e = absurd cc
left_some size back (Err f) e =
    let h : size - place_in f ≡ back = ap (λ (o : Option ℕ). named_entry o) e in omega (arith, h)

-- an entry without a fault, and as long as its field allows
abbrev IsRead : List ℕ → Type 0
IsRead bytes = IsCounted w32 bytes × (entry_flaw bytes ≡ None)

-- the bytes of an entry have no flaw, and their count fits its field
entry_is_read : (bytes : List ℕ) → IsEntryBytes bytes → IsRead bytes
entry_is_read bytes w = (fits, subst (λ (r : Result (List Stored) EntryFlaw). left_at (length bytes) r ≡ None) (sym reads) refl)
  where
    reads : entry_at bytes ≡ Ok w.0
    reads = ap entry_at w.2 ∙ entry_again w.0 w.1

    fits : length bytes < 256 ^ 4
    fits = omega (arith, w.1.size, ap length w.2)

-- an entry behind its length is read exactly
entry_field_exact : Exact IsRead (counted_field w32) entry_from
entry_field_exact = without_flaw_exact _ _ _ entry_flaw inside run32_exact
  where
    inside : (bytes : List ℕ) (back : ℕ) → entry_flaw bytes ≡ Some back → back ≤ length (counted_field w32 bytes)
    inside bytes back e = omega (arith, left_some (length bytes) back (entry_at bytes) e, length-append (field w32 (length bytes)) bytes)

-- ---- an item

-- an item whose entry was read
abbrev IsItemRead : Item → Type 0
IsItemRead (AddItem l e n bytes) = Fits w64 l × (Fits w64 e × (Fits w64 n × IsRead bytes))
IsItemRead (CopyItem l e n bytes) = Fits w64 l × (Fits w64 e × (Fits w64 n × IsRead bytes))
IsItemRead (FenceItem l) = Fits w64 l

-- an item of this kind
abbrev IsReadOf : ItemKind → Item → Type 0
IsReadOf k x = IsItemRead x × (item_kind x ≡ k)

-- the kind of an item is read exactly
kind_exact : Exact (λ (k : ItemKind). Unit {0}) (code_byte item_code) (code_from item_code item_kinds)
kind_exact = all_codes_exact item_code item_kinds there each small
  where
    there : (k : ItemKind) → Contains item_kinds k
    there AnAdd = (0, lit< tt, refl)
    there ACopy = (1, lit< tt, refl)
    there AFence = (2, lit< tt, refl)

    each : (k : ItemKind) → value_of_code item_code item_kinds (item_code k) ≡ Some k
    each AnAdd = refl
    each ACopy = refl
    each AFence = refl

    small : (k : ItemKind) → item_code k < 256
    small AnAdd = lit< tt
    small ACopy = lit< tt
    small AFence = lit< tt

-- an item behind its kind is read exactly
rest_exact : (k : ItemKind) → Exact (IsReadOf k) item_rest (item_rest_from k)
rest_exact AnAdd = made_exact _ _ _ (λ x. AddItem x.0 x.1.0 x.1.1.0 x.1.1.1) (IsReadOf AnAdd) item_rest
    (also_exact u64_exact (also_exact u64_exact (also_exact u64_exact entry_field_exact))) (λ x v. ((v, refl), refl)) from
  where
    from : (x : Item) → IsReadOf AnAdd x
        → (y : ℕ × (ℕ × (ℕ × List ℕ))) × (Fits w64 y.0 × (Fits w64 y.1.0 × (Fits w64 y.1.1.0 × IsRead y.1.1.1))) × (AddItem y.0 y.1.0 y.1.1.0 y.1.1.1 ≡ x)
    from (AddItem l e n bytes) w = ((l, (e, (n, bytes))), w.0, refl)
    from _ w = absurd (let e = w.1 in cc)
rest_exact ACopy = made_exact _ _ _ (λ x. CopyItem x.0 x.1.0 x.1.1.0 x.1.1.1) (IsReadOf ACopy) item_rest
    (also_exact u64_exact (also_exact u64_exact (also_exact u64_exact entry_field_exact))) (λ x v. ((v, refl), refl)) from
  where
    from : (x : Item) → IsReadOf ACopy x
        → (y : ℕ × (ℕ × (ℕ × List ℕ))) × (Fits w64 y.0 × (Fits w64 y.1.0 × (Fits w64 y.1.1.0 × IsRead y.1.1.1))) × (CopyItem y.0 y.1.0 y.1.1.0 y.1.1.1 ≡ x)
    from (CopyItem l e n bytes) w = ((l, (e, (n, bytes))), w.0, refl)
    from _ w = absurd (let e = w.1 in cc)
rest_exact AFence = made_exact _ _ _ FenceItem (IsReadOf AFence) item_rest u64_exact (λ x v. ((v, refl), refl)) from
  where
    from : (x : Item) → IsReadOf AFence x → (y : ℕ) × Fits w64 y × (FenceItem y ≡ x)
    from (FenceItem l) w = (l, w.0, refl)
    from _ w = absurd (let e = w.1 in cc)

-- an item is read exactly, its entry by its own reading
read_exact : Exact IsItemRead item_bytes item_from
unfolding item_bytes
read_exact = kinded_exact item_kind IsItemRead item_rest item_rest_from kind_exact rest_exact

-- an entry that was read is whole
read_is_entry : (bytes : List ℕ) → IsBytes bytes → IsRead bytes → IsEntryBytes bytes
read_is_entry bytes b r = let k = left_none (length bytes) (entry_at bytes) r.1 in let f = entry_found bytes k.0 b k.1 in (k.0, f.is, f.spelt)

-- an item in its form is one that a reading gives
item_is_read : (x : Item) → IsItem x → IsItemRead x
item_is_read (AddItem l e n bytes) v = (v.0, (v.1.0, (v.1.1.0, entry_is_read bytes v.1.1.1)))
item_is_read (CopyItem l e n bytes) v = (v.0, (v.1.0, (v.1.1.0, entry_is_read bytes v.1.1.1)))
item_is_read (FenceItem l) v = v

-- the bytes of the entry in an item are behind its other fields
read_is_item : (x : Item) → IsBytes (entry_in x) → IsItemRead x → IsItem x
read_is_item (AddItem l e n bytes) b v = (v.0, (v.1.0, (v.1.1.0, read_is_entry bytes b v.1.1.1)))
read_is_item (CopyItem l e n bytes) b v = (v.0, (v.1.0, (v.1.1.0, read_is_entry bytes b v.1.1.1)))
read_is_item (FenceItem l) b v = v

-- bytes in front of others are bytes
bytes_before : (front rest : List ℕ) → IsBytes (front ++ rest) → IsBytes front
bytes_before front rest b = subst IsBytes (take-append_seam front rest) (bytes_taken (length front) (front ++ rest) b)

-- bytes behind others are bytes
behind : (front rest : List ℕ) → IsBytes (front ++ rest) → IsBytes rest
behind front rest b = bytes_behind front rest (front ++ rest) refl b

-- the last of six runs of bytes are bytes
behind_fields : (k l e n size bytes : List ℕ) → IsBytes (k ++ (l ++ (e ++ (n ++ (size ++ bytes))))) → IsBytes bytes
behind_fields k l e n size bytes b =
    behind size bytes (behind n (size ++ bytes) (behind e (n ++ (size ++ bytes)) (behind l (e ++ (n ++ (size ++ bytes))) (behind k _ b))))

-- the bytes of the entry are among those of the item
entry_is_bytes : (x : Item) → IsBytes (item_bytes x) → IsBytes (entry_in x)
unfolding item_bytes
entry_is_bytes (AddItem l e n bytes) b = behind_fields (code_byte item_code AnAdd) (field w64 l) (field w64 e) (field w64 n) (field w32 (length bytes)) bytes b
entry_is_bytes (CopyItem l e n bytes) b = behind_fields (code_byte item_code ACopy) (field w64 l) (field w64 e) (field w64 n) (field w32 (length bytes)) bytes b
entry_is_bytes (FenceItem l) b = λ i. lit< tt

-- items are read exactly
pub items_are_exact : ItemsAreExact
items_are_exact = record {
  found = λ bytes x rest b e.
      let f = read_exact.found bytes x rest b e in
      (read_is_item x (entry_is_bytes x (bytes_before (item_bytes x) rest (subst IsBytes f.1 b))) f.0, f.1);
  again = λ x rest v. read_exact.again x rest (item_is_read x v);
  within = read_exact.within;
}

-- ---- a body

-- an item's bytes are not empty
item_is_some : (x : Item) → 1 ≤ length (item_bytes x)
item_is_some x = omega (arith, sym (item_has_length x), long x)
  where
    long : (x : Item) → 1 ≤ item_length x
    long (AddItem l e n bytes) = omega arith
    long (CopyItem l e n bytes) = omega arith
    long (FenceItem l) = omega arith

-- one item in front of others
upto_again : (n : ℕ) (x : Item) (rest : List ℕ) (xs : List Item)
    → IsItem x → items_upto n rest ≡ Ok xs → items_upto (suc n) (item_bytes x ++ rest) ≡ Ok (x ∷ xs)
unfolding items_upto
upto_again n x rest xs v e = go (item_bytes x ++ rest) refl
  where
    go : (bytes : List ℕ) → item_bytes x ++ rest ≡ bytes → items_upto (suc n) bytes ≡ Ok (x ∷ xs)
    go [] w = absurd (let k : length (item_bytes x ++ rest) ≡ 0 = ap length w in omega (arith, k, length-append (item_bytes x) rest, item_is_some x))
    go (c ∷ cs) w =
        let r : item_from (c ∷ cs) ≡ Ok (x, rest) = ap item_from (sym w) ∙ items_are_exact.again x rest v in
        rw r (rw e refl)

-- no bytes are no items
none_again : (n : ℕ) → items_upto n [] ≡ Ok []
unfolding items_upto
none_again zero = refl
none_again (suc n) = refl

-- items are read from their bytes, in as many turns as there are bytes or more
body_again : (n : ℕ) (xs : List Item) → AllByRecursion IsItem xs → length (body_of xs) ≤ n → items_upto n (body_of xs) ≡ Ok xs
body_again n [] all le = none_again n
body_again zero (x ∷ xs) all le =
    absurd (omega (arith, le, ap length (flat_map-cons item_bytes x xs), length-append (item_bytes x) (body_of xs), item_is_some x))
body_again (suc n) (x ∷ xs) all le =
    let short : length (body_of xs) ≤ n =
    omega (arith, le, ap length (flat_map-cons item_bytes x xs), length-append (item_bytes x) (body_of xs), item_is_some x) in
    ap (items_upto (suc n)) (flat_map-cons item_bytes x xs) ∙ upto_again n x (body_of xs) xs all.0 (body_again n xs all.1 short)

-- what a body says that was read
abbrev BodyRead : List ℕ → List Item → Type 0
BodyRead body xs = AllByRecursion IsItem xs × (body ≡ body_of xs)

-- a body that was read is the bytes of items in their form
body_found : (n : ℕ) (body : List ℕ) (xs : List Item) → IsBytes body → items_upto n body ≡ Ok xs → BodyRead body xs
unfolding items_upto
body_found zero [] xs b e = subst (BodyRead []) (ok_is [] xs e) (tt, refl)
body_found (suc n) [] xs b e = subst (BodyRead []) (ok_is [] xs e) (tt, refl)
body_found zero (c ∷ cs) xs b e = absurd cc
body_found (suc n) (c ∷ cs) xs b e =
    let u = bind_ok (item_from (c ∷ cs)) (λ (x : Item × List ℕ). items_upto n x.1 >>= λ ys. Ok (x.0 ∷ ys)) xs e in
    let f = items_are_exact.found (c ∷ cs) u.0.0 u.0.1 b u.1 in
    let k = bind_ok (items_upto n u.0.1) (λ (ys : List Item). Ok (u.0.0 ∷ ys)) xs u.2 in
    let rest = body_found n u.0.1 k.0 (bytes_behind (item_bytes u.0.0) u.0.1 (c ∷ cs) f.1 b) k.1 in
    let spelt : c ∷ cs ≡ body_of (u.0.0 ∷ k.0) = f.1 ∙ ap (λ (ys : List ℕ). item_bytes u.0.0 ++ ys) rest.1 ∙ sym (flat_map-cons item_bytes u.0.0 k.0) in
    subst (BodyRead (c ∷ cs)) (ok_is (u.0.0 ∷ k.0) xs k.2) ((f.0, rest.0), spelt)

-- bodies are read exactly
pub bodies_are_exact : BodiesAreExact
bodies_are_exact = record {
  again = λ items all. body_again (length (body_of items)) items all (let le : length (body_of items) ≤ length (body_of items) = omega arith in le);
  found = λ body items b e. body_found (length body) body items b e;
}
