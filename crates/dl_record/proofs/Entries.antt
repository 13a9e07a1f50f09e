-- Entries: what is read is in the grammar, and what is in the grammar is read.
use Rattle.std.proofs.Common.{◌≡◌, ℕ, ◌+◌, ◌<◌, true, false, cond, eqb, leb, ltb, not, Option, None, Some, List, ◌++◌}
use Rattle.std.proofs.Common.{length, drop, Result, Ok, Err, refl, sym, ap, subst, ◌∙◌, append_assoc, arith, length-append}
use Rattle.std.specs.Prelude.{IfOk, IfErr, IfSome, IsOk, ◌↔◌}
use Rattle.std.specs.List.{flat_map}
use Rattle.std.specs.Int.{w8, w16, w32}
use Rattle.std.proofs.lemmas.Bool.{eqb-true, leb-true, le-leb, ltb-false, le-ltb}
use Rattle.std.proofs.lemmas.Bool.Decides.{nat_tests}
use Rattle.dl_codec.specs.Fields.{field, IsBytes}
use Rattle.dl_codec.proofs.FieldLaws.{width_8, width_16, width_32}
use Rattle.dl_record.specs.declared.limits.TheConstants.{ENTRY_MAX}
use Rattle.dl_record.specs.declared.entry_fault.EntryFault.{EntryFault}
use Rattle.dl_record.specs.declared.entry_flaw.EntryFlaw.{EntryFlaw}
use Rattle.dl_record.specs.Flaws.{flaw_of}
use Rattle.dl_record.specs.declared.entry_flaw.EntryFlaw.TheVariants.{BadFlags, Compressed, Short, TooLong, BadCount, Long}
use Rattle.dl_record.specs.declared.stored.Stored.{Stored}
use Rattle.dl_record.specs.Grammar.{header_bytes, record_bytes, entry_bytes, AreRecords, IsEntry, IsEntryBytes}
use Rattle.dl_record.specs.Reading.{◌>>=◌, value_if, field_at, version_at, codec_at, count_at, size_at}
use Rattle.dl_record.specs.Reading.{header_at, records_at, entry_at, Gives, Refuses, IsFlaw, verdict}
use Rattle.dl_record.proofs.Sizes.{length-header_bytes, length-entry_bytes, count_fits}
use Rattle.dl_record.proofs.Steps.{bind_ok, ok_is, chosen, value_if_ok, checked_ok, field_found, field_again}
use Rattle.dl_record.proofs.RecordLaws.{records_found, records_again}

-- The fields of a header stand one behind the other, and then the rest.
pub header_bytes-append : (count size : ℕ) (rest : List ℕ)
    → header_bytes count size ++ rest ≡ field w8 1 ++ (field w8 0 ++ (field w16 count ++ (field w32 size ++ rest)))
unfolding header_bytes
header_bytes-append count size rest = simp append_assoc

-- The bytes begin with the spelling of a header, and have as many behind it as it says.
pub record HeaderFound (bytes : List ℕ) (count size : ℕ) : Type 0 where
  pub some : 0 < count
  pub end : length bytes ≡ 8 + size
  pub stands : bytes ≡ header_bytes count size ++ drop 8 bytes

-- Bytes whose header was read begin with its spelling.
header_found : (bytes : List ℕ) (count : ℕ) → IsBytes bytes → header_at bytes ≡ Ok count → (size : ℕ) × HeaderFound bytes count size
unfolding header_at version_at codec_at count_at size_at
header_found bytes count fits e =
    let a = bind_ok (version_at bytes 0)
    (λ version. codec_at bytes 1 >>= λ codec. count_at bytes 2 >>= λ count. size_at bytes 4 >>= λ size. Ok count) count e in
    let b = bind_ok (codec_at bytes 1) (λ codec. count_at bytes 2 >>= λ count. size_at bytes 4 >>= λ size. Ok count) count a.2 in
    let d = bind_ok (count_at bytes 2) (λ count. size_at bytes 4 >>= λ size. Ok count) count b.2 in
    let f = bind_ok (size_at bytes 4) (λ size. Ok d.0) count d.2 in
    let size = f.0 in
    let a' = checked_ok (field_at w8 bytes 0) (λ n. eqb n 1) (BadFlags 0) a.0 a.1 in
    let b' = checked_ok (field_at w8 bytes 1) (λ n. eqb n 0) (Compressed 1) b.0 b.1 in
    let d' = checked_ok (field_at w16 bytes 2) (λ n. not (eqb n 0)) (BadCount 2) d.0 d.1 in
    let f' = bind_ok (field_at w32 bytes 4)
    (λ n. cond (ltb (length bytes) (4 + 4 + n)) (Err (Short 4)) (value_if (leb (length bytes) (4 + 4 + n)) (Long (4 + 4 + n)) n)) f.0 f.1 in
    let f'' = chosen (ltb (length bytes) (4 + 4 + f'.0)) (Short 4) (value_if (leb (length bytes) (4 + 4 + f'.0)) (Long (4 + 4 + f'.0)) f'.0) f.0 f'.2 in
    let f3 = value_if_ok (leb (length bytes) (4 + 4 + f'.0)) (Long (4 + 4 + f'.0)) f'.0 f.0 f''.1 in
    let pa = field_found w8 width_8 bytes 0 1 a.0 fits refl a'.0 in
    let pb = field_found w8 width_8 bytes 1 2 b.0 fits refl b'.0 in
    let pd = field_found w16 width_16 bytes 2 4 d.0 fits refl d'.0 in
    let pf = field_found w32 width_32 bytes 4 8 f'.0 fits refl f'.1 in
    let one : a.0 ≡ 1 = eqb-true a.0 1 a'.1 in
    let zero : b.0 ≡ 0 = eqb-true b.0 0 b'.1 in
    let passes = d'.1 in
    let is : d.0 ≡ count = ok_is d.0 count f.2 in
    let low = ltb-false (length bytes) (4 + 4 + f'.0) f''.0 in
    let high = leb-true (length bytes) (4 + 4 + f'.0) f3.0 in (
      size,
      record {
        some = grind (arith, nat_tests, passes, is);
        end = omega (arith, low, high, f3.1);
        stands = pa.stands ∙ ap (λ (k : ℕ). field w8 k ++ drop 1 bytes) one
            ∙ ap (λ (l : List ℕ). field w8 1 ++ l) (pb.stands ∙ ap (λ (k : ℕ). field w8 k ++ drop 2 bytes) zero
            ∙ ap (λ (l : List ℕ). field w8 0 ++ l) (pd.stands ∙ ap (λ (k : ℕ). field w16 k ++ drop 4 bytes) is
            ∙ ap (λ (l : List ℕ). field w16 count ++ l) (pf.stands ∙ ap (λ (k : ℕ). field w32 k ++ drop 8 bytes) f3.1)))
            ∙ sym (header_bytes-append count size (drop 8 bytes));
      },
    )

-- The bytes are the spelling of these records, which are an entry.
pub record EntryFound (bytes : List ℕ) (parts : List Stored) : Type 0 where
  pub is : IsEntry parts
  pub spelt : bytes ≡ entry_bytes parts

-- Bytes from which an entry was read are its spelling, and the entry is valid.
pub entry_found : (bytes : List ℕ) (parts : List Stored) → IsBytes bytes → entry_at bytes ≡ Ok parts → EntryFound bytes parts
unfolding entry_at
entry_found bytes parts fits e =
    let t = chosen (ltb ENTRY_MAX (length bytes)) (TooLong 0) (header_at bytes >>= λ count. records_at count (eqb count 1) None bytes 8) parts e in
    let a = bind_ok (header_at bytes) (λ count. records_at count (eqb count 1) None bytes 8) parts t.1 in
    let count = a.0 in
    let h = header_found bytes count fits a.1 in
    let size = h.0 in
    let r = records_found count (eqb count 1) None bytes 8 parts fits a.2 in
    let body = flat_map record_bytes parts in
    let spelt : bytes ≡ header_bytes count size ++ body = h.1.stands ∙ ap (λ (l : List ℕ). header_bytes count size ++ l) r.stands in
    let sizes : size ≡ length body = omega (arith, ap length spelt, length-append (header_bytes count size) body, length-header_bytes count size, h.1.end) in
    let whole : bytes ≡ entry_bytes parts =
    spelt ∙ ap (λ (k : ℕ). header_bytes k size ++ body) (sym r.count) ∙ ap (λ (k : ℕ). header_bytes (length parts) k ++ body) sizes in
    record {
      is = record {
        some = omega (arith, r.count, h.1.some);
        records = subst (λ (k : ℕ). AreRecords (eqb k 1) None parts) (sym r.count) r.are;
        size = omega (arith, ap length whole, ltb-false ENTRY_MAX (length bytes) t.0);
      };
      spelt = whole;
    }

-- From the spelling of an entry that entry is read.
pub entry_again : (parts : List Stored) → IsEntry parts → entry_at (entry_bytes parts) ≡ Ok parts
unfolding entry_at header_at version_at codec_at count_at size_at
entry_again parts is =
    let bytes = entry_bytes parts in
    let count = length parts in
    let body = flat_map record_bytes parts in
    let size = length body in
    let len : length bytes ≡ 8 + size = length-entry_bytes parts in
    let e : bytes ≡ field w8 1 ++ (field w8 0 ++ (field w16 count ++ (field w32 size ++ body))) = header_bytes-append count size body in
    let some = is.some in
    let most = count_fits parts is in
    let pa = field_again w8 width_8 (omega arith) bytes 0 1 1 (field w8 0 ++ (field w16 count ++ (field w32 size ++ body))) refl (omega arith) e in
    let pb = field_again w8 width_8 (omega arith) bytes 1 2 0 (field w16 count ++ (field w32 size ++ body)) refl (omega arith) pa.behind in
    let pd = field_again w16 width_16 (omega arith) bytes 2 4 count (field w32 size ++ body) refl (omega arith) pb.behind in
    let pf = field_again w32 width_32 (omega arith) bytes 4 8 size body refl (omega (arith, len, is.size)) pd.behind in
    let fits : ltb ENTRY_MAX (length bytes) ≡ false = le-ltb ENTRY_MAX (length bytes) is.size in
    let counted : not (eqb count 0) ≡ true = grind (arith, nat_tests, some) in
    let long : ltb (length bytes) (4 + 4 + size) ≡ false = le-ltb (length bytes) (4 + 4 + size) (omega (arith, len)) in
    let short : leb (length bytes) (4 + 4 + size) ≡ true = le-leb (length bytes) (4 + 4 + size) (omega (arith, len)) in
    let rest = records_again parts (eqb count 1) None bytes 8 is.records (omega (arith, len)) pf.behind in
    rw (fits, pa.reads, pb.reads, pd.reads, counted, pf.reads, long, short) rest

-- ---- what a reader of the code says

-- What a decoder gave is an entry, and the bytes are its spelling.
pub is_found : (bytes : List ℕ) (r : Result (List Stored) EntryFault) → IsBytes bytes → Gives (λ x. x) r (entry_at bytes)
    → IfOk r (λ parts. IsEntry parts × (bytes ≡ entry_bytes parts))
is_found bytes (Ok parts) fits given = let f = entry_found bytes parts fits given in (f.is, f.spelt)
is_found bytes (Err fault) fits given = tt

-- Only the entry that is spelt so is given.
pub is_only : (bytes : List ℕ) (r : Result (List Stored) EntryFault) → Gives (λ x. x) r (entry_at bytes) → (parts : List Stored) → IsEntry parts
    → bytes ≡ entry_bytes parts → Gives (λ x. x) r (Ok parts)
is_only bytes r given parts is e = subst (λ (read : Result (List Stored) EntryFlaw). Gives (λ x. x) r read) (ap entry_at e ∙ entry_again parts is) given

-- Where the reading failed, the flaw is the first, and no entry is spelt so.
refuses : (bytes : List ℕ) (flaw : EntryFlaw) → entry_at bytes ≡ Err flaw → IsFlaw bytes flaw
refuses bytes flaw e = (e, λ spelt. let read : entry_at bytes ≡ Ok spelt.0 = ap entry_at spelt.2 ∙ entry_again spelt.0 spelt.1 in cc)

-- An error of a decoder is want of memory or the first flaw.
pub is_refused : (bytes : List ℕ) (r : Result (List Stored) EntryFault) → Gives (λ x. x) r (entry_at bytes) → IfErr r (Refuses bytes)
is_refused bytes (Ok parts) given = tt
is_refused bytes (Err fault) given = go (flaw_of fault) given
  where
    go : (o : Option EntryFlaw) → IfSome o (λ flaw. entry_at bytes ≡ Err flaw) → IfSome o (IsFlaw bytes)
    go None given = tt
    go (Some flaw) given = refuses bytes flaw given

-- ---- what a check of the bytes says

-- A check says yes exactly where the bytes spell an entry.
pub is_valid : (bytes : List ℕ) (r : Result (Unit {0}) EntryFlaw) → IsBytes bytes → verdict (entry_at bytes) ≡ r → IsOk r ↔ IsEntryBytes bytes
is_valid bytes r fits given = (
  λ ok. found (entry_at bytes) refl (subst (λ (x : Result (Unit {0}) EntryFlaw). IsOk x) (sym given) ok),
  λ spelt. subst
      (λ (x : Result (Unit {0}) EntryFlaw). IsOk x) (sym (again spelt) ∙ given) refl,
)
  where
    found : (read : Result (List Stored) EntryFlaw) → entry_at bytes ≡ read → IsOk (verdict read) → IsEntryBytes bytes
    found (Ok parts) e ok = let f = entry_found bytes parts fits e in (parts, f.is, f.spelt)
    found (Err flaw) e ok = absurd cc

    again : (spelt : IsEntryBytes bytes) → verdict (entry_at bytes) ≡ Ok tt
    again spelt = ap verdict (ap entry_at spelt.2 ∙ entry_again spelt.0 spelt.1)

-- A check that says no names the first flaw.
pub is_flaw : (bytes : List ℕ) (r : Result (Unit {0}) EntryFlaw) → verdict (entry_at bytes) ≡ r → IfErr r (IsFlaw bytes)
is_flaw bytes (Ok done) given = tt
is_flaw bytes (Err flaw) given = refuses bytes flaw (failed (entry_at bytes) given)
  where
    failed : (read : Result (List Stored) EntryFlaw) → verdict read ≡ Err flaw → read ≡ Err flaw
    failed (Ok parts) e = absurd cc
    failed (Err other) e = cc
