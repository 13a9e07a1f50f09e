-- Keys have paths of their own, and maps go by keys.
use Rattle.std.proofs.Common.{◌≡◌, ℕ, zero, suc, ◌+◌, ◌/◌, ◌%◌, ◌^◌, ◌<◌, Bool, true, cond, ◌&&◌, ◌==◌, List, [], ◌∷◌, ◌++◌, codes}
use Rattle.std.proofs.Common.{refl, sym, ap, ◌∙◌, subst, ap₂, arith, bytes_eq, eq-eqb, eqb-true, not, Some, None, append_assoc}
use Rattle.std.proofs.lemmas.Bool.{and_parts, and_from, true≢false}
use Rattle.std.proofs.lemmas.List.{append-nil}
use Rattle.std.specs.FinMap.{get, get-insert, get-remove}
use Rattle.std.specs.Cmp.Lexicographic.{nat_list_cmp_total, bytes_decides, slice_cmp, texts_ties}
use Rattle.std.specs.Ordering.{nat_cmp, eq_by_cmp}
use Rattle.std.proofs.lemmas.Bool.Decides.{same_from_decides}
use Rattle.dl_fields.specs.Paths.{with_slashes}
use Rattle.dl_fields.specs.Digits.{digits}
use Rattle.dl_formats.specs.Keys.{Key, Conf, Streams, Ledgers, Ledger, Stream, MaxSeq, Cut, Alloc, Locks, Member, Segs, Progress, Completed}
use Rattle.dl_formats.specs.Keys.{parts_of, path_of, ledger_stem, member_stem, is_key, NoSlash, IsKey, parent_key, name_of, front_of}
use Rattle.dl_formats.specs.KeyLaws.{InsertIsByKey, RemoveIsByKey, KeysAreTold, PathsGoByParents}
use Rattle.dl_fields.proofs.DigitLemmas.{same_digits}

-- no part has a slash
abbrev NoSlashes : List (List ℕ) → Type 0
NoSlashes [] = Unit {0}
NoSlashes (p ∷ ps) = NoSlash p × NoSlashes ps

-- where joined parts follow two parts without a slash, the two are the same
same_part : (p q : List ℕ) (ps qs : List (List ℕ)) → NoSlash p → NoSlash q → p ++ with_slashes ps ≡ q ++ with_slashes qs
    → (p ≡ q) × (with_slashes ps ≡ with_slashes qs)
same_part [] [] ps qs np nq e = (refl, e)
same_part [] (c ∷ q) [] qs np nq e = absurd (cc)
same_part [] (c ∷ q) (r ∷ ps) qs np nq e = let k : 47 ≡ c = cc in absurd (nq.0 (sym k))
same_part (c ∷ p) [] ps [] np nq e = absurd (cc)
same_part (c ∷ p) [] ps (r ∷ qs) np nq e = let k : c ≡ 47 = cc in absurd (np.0 k)
same_part (c ∷ p) (d ∷ q) ps qs np nq e =
    let tail : p ++ with_slashes ps ≡ q ++ with_slashes qs = cc in
    let head : c ≡ d = cc in
    let r = same_part p q ps qs np.1 nq.1 tail in (cc, r.1)

-- Parts without a slash are the same where they are so behind slashes.
same_parts : (ps qs : List (List ℕ)) → NoSlashes ps → NoSlashes qs → with_slashes ps ≡ with_slashes qs → ps ≡ qs
same_parts [] [] np nq e = refl
same_parts [] (q ∷ qs) np nq e = absurd (cc)
same_parts (p ∷ ps) [] np nq e = absurd (cc)
same_parts (p ∷ ps) (q ∷ qs) np nq e =
    let tail : p ++ with_slashes ps ≡ q ++ with_slashes qs = cc in
    let r = same_part p q ps qs np.0 nq.0 tail in
    let rest = same_parts ps qs np.1 nq.1 r.1 in cc

-- parts tell keys

-- the first byte of a part
abbrev head_of : List ℕ → ℕ
head_of [] = 0
head_of (c ∷ cs) = c

-- a number by which the parts of different kinds of keys are told apart
abbrev kind_of : List (List ℕ) → ℕ
kind_of [] = 0
kind_of (a ∷ []) = head_of a
kind_of (a ∷ b ∷ []) = 1000 + head_of a
kind_of (a ∷ b ∷ c ∷ []) = 2000 + head_of c
kind_of (a ∷ b ∷ c ∷ d ∷ rest) = 3000 + head_of d

-- Two keys of one kind with the same name and the same digits are the same.
same_numbered : (f : List ℕ → ℕ → Key) (s t : List ℕ) (n m : ℕ) → n < 10 ^ 10 → m < 10 ^ 10 → s ≡ t → digits 10 n ≡ digits 10 m → f s n ≡ f t m
same_numbered f s t n m a b e d = ap₂ f e (same_digits 10 n m a b d)

-- Keys with the same parts are the same.
keys_by_parts : (k m : Key) → IsKey k → IsKey m → parts_of k ≡ parts_of m → k ≡ m
keys_by_parts Conf Conf a b e = refl
keys_by_parts Streams Streams a b e = refl
keys_by_parts Ledgers Ledgers a b e = refl
keys_by_parts (Ledger n) (Ledger m) a b e = let d : digits 10 n ≡ digits 10 m = cc in ap Ledger (same_digits 10 n m a b d)
keys_by_parts (Stream s) (Stream t) a b e = cc
keys_by_parts (MaxSeq s) (MaxSeq t) a b e = cc
keys_by_parts (Cut s) (Cut t) a b e = cc
keys_by_parts (Alloc s) (Alloc t) a b e = cc
keys_by_parts (Locks s) (Locks t) a b e = cc
keys_by_parts (Segs s) (Segs t) a b e = cc
keys_by_parts (Member s n) (Member t m) a b e = same_numbered Member s t n m a.1 b.1 (cc) (cc)
keys_by_parts (Progress s n) (Progress t m) a b e = same_numbered Progress s t n m a.1 b.1 (cc) (cc)
keys_by_parts (Completed s n) (Completed t m) a b e = same_numbered Completed s t n m a.1 b.1 (cc) (cc)
keys_by_parts _ _ a b e = absurd (omega (arith, ap kind_of e))

-- parts have no slash

-- whether there is no slash among the bytes
abbrev no_slash : List ℕ → Bool
no_slash [] = true
no_slash (c ∷ cs) = not (c == 47) && no_slash cs

-- Where the test says yes, there is no slash.
tested : (xs : List ℕ) → no_slash xs ≡ true → NoSlash xs
tested [] h = tt
tested (c ∷ cs) h = let p = and_parts (not (c == 47)) (no_slash cs) h in ((λ e. true≢false (sym p.0 ∙ ap not (eq-eqb c 47 e))), tested cs p.1)

-- The bytes of two runs without a slash, one behind the other.
both : (xs ys : List ℕ) → NoSlash xs → NoSlash ys → NoSlash (xs ++ ys)
both [] ys a b = b
both (x ∷ xs) ys a b = (a.0, both xs ys a.1 b)

-- Digits have no slash.
digits_no_slash : (n k : ℕ) → NoSlash (digits n k)
digits_no_slash zero k = tt
digits_no_slash (suc n) k = both (digits n (k / 10)) ((48 + k % 10) ∷ []) (digits_no_slash n (k / 10)) ((λ e. omega arith), tt)

-- Bytes that pass the test have no slash with ten digits behind them.
numbered : (xs : List ℕ) (k : ℕ) → no_slash xs ≡ true → NoSlash (xs ++ digits 10 k)
numbered xs k h = both xs (digits 10 k) (tested xs h) (digits_no_slash 10 k)

-- The last part of a key's path has no slash.
name_no_slash : (k : Key) → IsKey k → NoSlash (name_of k)
name_no_slash Conf h = tested (codes "conf") refl
name_no_slash Streams h = tested (codes "streams") refl
name_no_slash Ledgers h = tested (codes "ledgers") refl
name_no_slash (Ledger n) h = numbered (codes "L") n refl
name_no_slash (Stream s) h = h
name_no_slash (MaxSeq s) h = tested (codes "maxseq") refl
name_no_slash (Cut s) h = tested (codes "cut") refl
name_no_slash (Alloc s) h = tested (codes "alloc") refl
name_no_slash (Locks s) h = tested (codes "lock") refl
name_no_slash (Member s n) h = numbered (codes "m-") n refl
name_no_slash (Segs s) h = tested (codes "segs") refl
name_no_slash (Progress s n) h = numbered (codes "p") n refl
name_no_slash (Completed s n) h = numbered (codes "c") n refl

-- `streams` has no slash.
streams_no_slash : NoSlash (codes "streams")
streams_no_slash = tested (codes "streams") refl

-- No part of a key's path has a slash.
parts_no_slash : (k : Key) → IsKey k → NoSlashes (parts_of k)
parts_no_slash Conf h = (name_no_slash Conf h, tt)
parts_no_slash Streams h = (name_no_slash Streams h, tt)
parts_no_slash Ledgers h = (name_no_slash Ledgers h, tt)
parts_no_slash (Ledger n) h = (tested (codes "ledgers") refl, (name_no_slash (Ledger n) h, tt))
parts_no_slash (Stream s) h = (streams_no_slash, (h, tt))
parts_no_slash (MaxSeq s) h = (streams_no_slash, (h, (name_no_slash (MaxSeq s) h, tt)))
parts_no_slash (Cut s) h = (streams_no_slash, (h, (name_no_slash (Cut s) h, tt)))
parts_no_slash (Alloc s) h = (streams_no_slash, (h, (name_no_slash (Alloc s) h, tt)))
parts_no_slash (Locks s) h = (streams_no_slash, (h, (name_no_slash (Locks s) h, tt)))
parts_no_slash (Segs s) h = (streams_no_slash, (h, (name_no_slash (Segs s) h, tt)))
parts_no_slash (Member s n) h = (streams_no_slash, (h.0, (tested (codes "lock") refl, (name_no_slash (Member s n) h, tt))))
parts_no_slash (Progress s n) h = (streams_no_slash, (h.0, (tested (codes "segs") refl, (name_no_slash (Progress s n) h, tt))))
parts_no_slash (Completed s n) h = (streams_no_slash, (h.0, (tested (codes "segs") refl, (name_no_slash (Completed s n) h, tt))))

-- Different keys have different paths.
pub same_key : (k m : Key) → IsKey k → IsKey m → path_of k ≡ path_of m → k ≡ m
unfolding path_of
same_key k m a b e = keys_by_parts k m a b (same_parts (parts_of k) (parts_of m) (parts_no_slash k a) (parts_no_slash m b) e)

-- the test of keys

-- The test of keys says yes for a key and itself.
key_refl : (k : Key) → is_key k k ≡ true
key_refl Conf = refl
key_refl Streams = refl
key_refl Ledgers = refl
key_refl (Ledger n) = eq-eqb n n refl
key_refl (Stream s) = (bytes_decides s s).1 refl
key_refl (MaxSeq s) = (bytes_decides s s).1 refl
key_refl (Cut s) = (bytes_decides s s).1 refl
key_refl (Alloc s) = (bytes_decides s s).1 refl
key_refl (Locks s) = (bytes_decides s s).1 refl
key_refl (Segs s) = (bytes_decides s s).1 refl
key_refl (Member s n) = and_from (bytes_eq s s) (n == n) ((bytes_decides s s).1 refl) (eq-eqb n n refl)
key_refl (Progress s n) = and_from (bytes_eq s s) (n == n) ((bytes_decides s s).1 refl) (eq-eqb n n refl)
key_refl (Completed s n) = and_from (bytes_eq s s) (n == n) ((bytes_decides s s).1 refl) (eq-eqb n n refl)

-- Keys of one kind are the same where the test says yes for their names and numbers.
same_two : (f : List ℕ → ℕ → Key) (s t : List ℕ) (n m : ℕ) → (bytes_eq s t && n == m) ≡ true → f s n ≡ f t m
same_two f s t n m h = let p = and_parts (bytes_eq s t) (n == m) h in ap₂ f ((bytes_decides s t).0 p.0) (eqb-true n m p.1)

-- Where the test of keys says yes, they are the same.
key_test : (k m : Key) → is_key k m ≡ true → k ≡ m
key_test Conf Conf h = refl
key_test Streams Streams h = refl
key_test Ledgers Ledgers h = refl
key_test (Ledger n) (Ledger m) h = ap Ledger (eqb-true n m h)
key_test (Stream s) (Stream t) h = ap Stream ((bytes_decides s t).0 h)
key_test (MaxSeq s) (MaxSeq t) h = ap MaxSeq ((bytes_decides s t).0 h)
key_test (Cut s) (Cut t) h = ap Cut ((bytes_decides s t).0 h)
key_test (Alloc s) (Alloc t) h = ap Alloc ((bytes_decides s t).0 h)
key_test (Locks s) (Locks t) h = ap Locks ((bytes_decides s t).0 h)
key_test (Segs s) (Segs t) h = ap Segs ((bytes_decides s t).0 h)
key_test (Member s n) (Member t m) h = same_two Member s t n m h
key_test (Progress s n) (Progress t m) h = same_two Progress s t n m h
key_test (Completed s n) (Completed t m) h = same_two Completed s t n m h
key_test _ _ h = absurd (true≢false (sym h))

-- The test of keys says whether they are the same.
pub keys_told : KeysAreTold
keys_told k m = (key_test k m, λ e. subst (λ (x : Key). is_key k x ≡ true) e (key_refl k))

-- maps

-- The paths of two keys tie where the test of keys says yes.
key_ties : (m k : Key) → IsKey m → IsKey k → eq_by_cmp (slice_cmp nat_cmp) (path_of m) (path_of k) ≡ is_key m k
key_ties m k a b = sym (texts_ties (path_of m) (path_of k)) ∙ same_from_decides _ _ (bytes_decides (path_of m) (path_of k))
    (λ h. ap path_of (key_test m k h), λ h. subst (λ x. is_key m x ≡ true) (same_key m k a b h) (key_refl m))

-- A node that is put at one key stands there, and nothing changes at another one.
pub insert_by_key : {T : Type 0} → InsertIsByKey T
insert_by_key t k n m a b = get-insert nat_list_cmp_total t (path_of k) n (path_of m) ∙ ap (λ b. cond b (Some n) (get t (path_of m))) (key_ties m k b a)

-- Nothing stands at a key from which the node is removed, and nothing changes at another one.
pub remove_by_key : {T : Type 0} → RemoveIsByKey T
remove_by_key t k m a b = get-remove nat_list_cmp_total t (path_of k) (path_of m) ∙ ap (λ b. cond b None (get t (path_of m))) (key_ties m k b a)

-- parents

-- One part more stands behind a slash at the end.
pub with_slashes_more : (ps : List (List ℕ)) (p : List ℕ) → with_slashes (ps ++ p ∷ []) ≡ with_slashes ps ++ 47 ∷ p
with_slashes_more [] p = append-nil (47 ∷ p)
with_slashes_more (q ∷ ps) p = ap (λ (t : List ℕ). (47 ∷ q) ++ t) (with_slashes_more ps p) ∙ sym (append_assoc (47 ∷ q) (with_slashes ps) (47 ∷ p))

-- A path is that of the node above, with one part more.
parent_is : (k : Key) → path_of k ≡ front_of (parent_key k) ++ 47 ∷ name_of k
unfolding path_of
parent_is Conf = with_slashes_more [] (codes "conf")
parent_is Streams = with_slashes_more [] (codes "streams")
parent_is Ledgers = with_slashes_more [] (codes "ledgers")
parent_is (Ledger n) = with_slashes_more (parts_of Ledgers) (name_of (Ledger n))
parent_is (Stream s) = with_slashes_more (parts_of Streams) s
parent_is (MaxSeq s) = with_slashes_more (parts_of (Stream s)) (codes "maxseq")
parent_is (Cut s) = with_slashes_more (parts_of (Stream s)) (codes "cut")
parent_is (Alloc s) = with_slashes_more (parts_of (Stream s)) (codes "alloc")
parent_is (Locks s) = with_slashes_more (parts_of (Stream s)) (codes "lock")
parent_is (Segs s) = with_slashes_more (parts_of (Stream s)) (codes "segs")
parent_is (Member s n) = with_slashes_more (parts_of (Locks s)) (name_of (Member s n))
parent_is (Progress s n) = with_slashes_more (parts_of (Segs s)) (name_of (Progress s n))
parent_is (Completed s n) = with_slashes_more (parts_of (Segs s)) (name_of (Completed s n))

-- digits behind the last part
with_slashes_longer : (ps : List (List ℕ)) (p d : List ℕ) → with_slashes (ps ++ (p ++ d) ∷ []) ≡ with_slashes (ps ++ p ∷ []) ++ d
with_slashes_longer ps p d =
    with_slashes_more ps (p ++ d) ∙ sym (append_assoc (with_slashes ps) (47 ∷ p) d) ∙ ap (λ (t : List ℕ). t ++ d) (sym (with_slashes_more ps p))

-- The path of a ledger is the stem with ten digits.
ledger_is : (n : ℕ) → path_of (Ledger n) ≡ ledger_stem ++ digits 10 n
unfolding path_of ledger_stem
ledger_is n = with_slashes_longer (parts_of Ledgers) (codes "L") (digits 10 n)

-- The path of a member is the stem with ten digits.
member_is : (s : List ℕ) (n : ℕ) → path_of (Member s n) ≡ member_stem s ++ digits 10 n
unfolding path_of member_stem
member_is s n = with_slashes_longer (parts_of (Locks s)) (codes "m-") (digits 10 n)

-- Paths go by parents, and digits behind a stem make a path.
pub by_parents : PathsGoByParents
by_parents = record { parent = parent_is; name = name_no_slash; ledger = ledger_is; member = member_is }
