-- An entry under way is the encoding of what was pushed.
use Rattle.std.proofs.Common.{◌≡◌, ℕ, ◌-◌, ◌+◌, ◌*◌, ◌≤◌, ◌<◌, Bool, true, false, eqb, leb, Option, Some, None, List, [], ◌∷◌}
use Rattle.std.proofs.Common.{◌++◌, length, drop, Result, Ok, Err, refl, sym, ap, subst, ◌∙◌, append_assoc, arith, length-append}
use Rattle.std.specs.Prelude.{is_ok, IsTrue, ◌↔◌}
use Rattle.std.specs.List.{flat_map}
use Rattle.std.proofs.lemmas.List.{append-nil, length-drop, drop-append-le, nil_from_length}
use Rattle.std.proofs.lemmas.Bool.{leb-true, le-leb}
use Rattle.dl_codec.specs.Fields.{IsBytes}
use Rattle.dl_record.specs.declared.limits.TheConstants.{ENTRY_MAX}
use Rattle.dl_record.specs.declared.entry_flaw.EntryFlaw.{EntryFlaw}
use Rattle.dl_record.specs.declared.stored.Stored.{Stored}
use Rattle.dl_record.specs.declared.stored.Stored.TheVariants.{Plain, Control, Set}
use Rattle.dl_record.specs.Stored.{txid_of, payloads_of, rows_in}
use Rattle.dl_record.specs.Grammar.{payload_bytes, record_bytes, header_bytes, entry_bytes, IsRecord, IsAllowed, Follows, AreRecords, IsEntry}
use Rattle.dl_record.specs.Reading.{records_at}
use Rattle.dl_record.specs.Rows.{rows_of, rows_from, row_count}
use Rattle.dl_record.specs.Building.{last_of, MayFollow, or_nothing, parts_in, IsBuilding}
use Rattle.dl_record.proofs.Sizes.{length-record_bytes, length-entry_bytes, count_le}
use Rattle.dl_record.proofs.Steps.{IsBytes-drop}
use Rattle.dl_record.proofs.RecordLaws.{records_found, records_again}
use Rattle.dl_record.proofs.WalkLaws.{length-rows_of, rows_le}

-- A reading that succeeded gave what it gave.
was_read : (r : Result (List Stored) EntryFlaw) → is_ok r ≡ true → r ≡ Ok (or_nothing r)
was_read (Ok parts) e = refl
was_read (Err fault) e = absurd cc

-- The bytes of one record more stand behind those of the others.
flat_map-push : (xs : List Stored) (r : Stored) → flat_map record_bytes (xs ++ r ∷ []) ≡ flat_map record_bytes xs ++ record_bytes r
flat_map-push [] r = append-nil (record_bytes r)
flat_map-push (x ∷ xs) r =
    ap (λ (l : List ℕ). record_bytes x ++ l) (flat_map-push xs r) ∙ sym (append_assoc (record_bytes x) (flat_map record_bytes xs) (record_bytes r))

-- One record more adds its rows.
length-rows_from-push : (slot : ℕ) (xs : List Stored) (r : Stored) → length (rows_from slot (xs ++ r ∷ [])) ≡ length (rows_from slot xs) + rows_in r
length-rows_from-push slot [] r =
    omega (arith, length-append (rows_of slot (txid_of r) (payloads_of r)) [], length-rows_of slot (txid_of r) (payloads_of r))
length-rows_from-push slot (x ∷ xs) r =
    let front = rows_of slot (txid_of x) (payloads_of x) in
    omega (
      arith,
      length-rows_from-push (slot + rows_in x) xs r,
      length-append front
          (rows_from (slot + rows_in x) (xs ++ r ∷ [])),
      length-append front (rows_from (slot + rows_in x) xs),
    )

-- ---- order

-- the last record, counting the one before
last_after : Option Stored → List Stored → Option Stored
last_after before [] = before
last_after before (r ∷ rs) = last_after (Some r) rs

-- The last record behind one of them is the last of them all.
last_after-is : (before : Option Stored) (r : Stored) (rs : List Stored) → last_after before (r ∷ rs) ≡ last_of (r ∷ rs)
unfolding last_after
last_after-is before r [] = refl
last_after-is before r (s ∷ rs) = last_after-is (Some r) s rs

-- Behind none, the last record is the last of the list.
last_after-none : (rs : List Stored) → last_after None rs ≡ last_of rs
unfolding last_after
last_after-none [] = refl
last_after-none (r ∷ rs) = last_after-is None r rs

-- One record more, which follows the last one, makes records again.
records_push : (before : Option Stored) (xs : List Stored) (r : Stored) → AreRecords false before xs → IsRecord r → IsAllowed false r
    → Follows (last_after before xs) r → AreRecords false before (xs ++ r ∷ [])
unfolding last_after
records_push before [] r are is allowed follows = (is, (allowed, (follows, tt)))
records_push before (x ∷ xs) r are is allowed follows = (are.0, (are.1.0, (are.1.1.0, records_push (Some x) xs r are.1.1.1 is allowed follows)))

-- A record that is allowed among others is so alone.
allowed_weaker : (alone : Bool) (r : Stored) → IsAllowed false r → IsAllowed alone r
allowed_weaker alone (Plain position txid payload) h = tt
allowed_weaker alone (Control position txid) h = absurd cc
allowed_weaker alone (Set position txid payloads) h = tt

-- Records that are allowed among others are so in any entry.
records_weaker : (alone : Bool) (before : Option Stored) (rs : List Stored) → AreRecords false before rs → AreRecords alone before rs
records_weaker alone before [] are = tt
records_weaker alone before (r ∷ rs) are = (are.0, (allowed_weaker alone r are.1.0, (are.1.1.0, records_weaker alone (Some r) rs are.1.1.1)))

-- ---- what stands in the bytes

-- How much an entry under way holds.
pub record Holds (count row_total : ℕ) (bytes : List ℕ) (parts : List Stored) : Type 0 where
  pub long : length bytes ≡ length (entry_bytes parts)
  pub few : 20 * count + 8 ≤ length bytes
  pub row_few : row_total + 8 ≤ length bytes

-- The records of an entry under way stand behind the room for its header.
pub holds : (count row_total : ℕ) (bytes : List ℕ) → IsBuilding count row_total bytes → Holds count row_total bytes (parts_in count bytes)
holds count row_total bytes b =
    let parts = parts_in count bytes in
    let len : length bytes - 8 ≡ length (flat_map record_bytes parts) = sym (length-drop 8 bytes) ∙ ap length b.stands in
    record {
      long = omega (arith, len, b.room, length-entry_bytes parts);
      few = omega (arith, count_le parts, b.counted, len, b.room);
      row_few = omega (arith, rows_le 0 parts, b.rows, len, b.room);
    }

-- the records that it holds
are_in : (count row_total : ℕ) (bytes : List ℕ) → IsBytes bytes → IsBuilding count row_total bytes → AreRecords false None (parts_in count bytes)
are_in count row_total bytes fits b =
    (records_found count false None (drop 8 bytes) 0 (parts_in count bytes) (IsBytes-drop 8 bytes fits)
    (was_read (records_at count false None (drop 8 bytes) 0) b.reads)).are

-- These records are those of an entry under way.
pub record Builds (count row_total : ℕ) (bytes : List ℕ) (parts : List Stored) : Type 0 where
  pub building : IsBuilding count row_total bytes
  pub same : parts_in count bytes ≡ parts

-- Records that stand so are those of an entry under way.
builds : (count row_total : ℕ) (bytes : List ℕ) (parts : List Stored) → 8 ≤ length bytes → length bytes ≤ ENTRY_MAX → AreRecords false None parts
    → drop 8 bytes ≡ flat_map record_bytes parts → length parts ≡ count → row_total ≡ row_count parts → Builds count row_total bytes parts
builds count row_total bytes parts room size are stands counted rows =
    let read : records_at count false None (drop 8 bytes) 0 ≡ Ok parts =
    ap (λ (n : ℕ). records_at n false None (drop 8 bytes) 0) (sym counted) ∙ records_again parts false None (drop 8 bytes) 0 are (omega arith) stands in
    let same : parts_in count bytes ≡ parts = ap or_nothing read in
    record {
      building = record {
        room = room;
        size = size;
        reads = ap is_ok read;
        stands = stands ∙ sym (ap (flat_map record_bytes) same);
        counted = ap length same ∙ counted;
        rows = rows ∙ sym (ap row_count same);
      };
      same = same;
    }

-- One record more, which may follow, makes an entry under way of one record more.
pub building_push : (count row_total : ℕ) (bytes new : List ℕ) (r : Stored) → IsBytes bytes → IsBuilding count row_total bytes → IsAllowed false r
    → MayFollow (parts_in count bytes) r → new ≡ bytes ++ record_bytes r
    → Builds (count + 1) (row_total + rows_in r) new (parts_in count bytes ++ r ∷ [])
building_push count row_total bytes new r fits b allowed may e =
    let parts = parts_in count bytes in
    let h = holds count row_total bytes b in
    let len : length new ≡ length bytes + (20 + length (payload_bytes r)) =
    omega (arith, ap length e, length-append bytes (record_bytes r), length-record_bytes r) in
    let follows = subst (λ (o : Option Stored). Follows o r) (sym (last_after-none parts)) may.follows in
    builds (count + 1) (row_total + rows_in r) new (parts ++ r ∷ [])
    (omega (arith, len, b.room))
    (omega (arith, len, h.long, may.room))
    (records_push None parts r (are_in count row_total bytes fits b) may.is allowed follows)
    (ap (drop 8) e ∙ drop-append-le 8 bytes (record_bytes r) b.room ∙ ap (λ (l : List ℕ). l ++ record_bytes r) b.stands ∙ sym (flat_map-push parts r))
    (omega (arith, length-append parts (r ∷ []), b.counted))
    (omega (arith, length-rows_from-push 0 parts r, b.rows))

-- only the room for the header was written to
pub building_same : (count row_total : ℕ) (bytes new : List ℕ) → IsBuilding count row_total bytes → length new ≡ length bytes
    → drop 8 new ≡ drop 8 bytes → Builds count row_total new (parts_in count bytes)
building_same count row_total bytes new b len same =
    let parts : parts_in count new ≡ parts_in count bytes = ap (λ (l : List ℕ). or_nothing (records_at count false None l 0)) same in
    record {
      building = record {
        room = omega (arith, len, b.room);
        size = omega (arith, len, b.size);
        reads = ap (λ (l : List ℕ). is_ok (records_at count false None l 0)) same ∙ b.reads;
        stands = same ∙ b.stands ∙ sym (ap (flat_map record_bytes) parts);
        counted = ap length parts ∙ b.counted;
        rows = b.rows ∙ sym (ap row_count parts);
      };
      same = parts;
    }

-- The room for the header alone is an entry under way of no records.
pub building_empty : (bytes : List ℕ) → length bytes ≡ 8 → Builds 0 0 bytes []
building_empty bytes len =
    builds 0 0 bytes [] (omega arith) (omega arith) tt (nil_from_length (drop 8 bytes) (omega (arith, length-drop 8 bytes))) refl refl

-- What is made of an entry under way that has rows.
pub record Finished (count : ℕ) (bytes : List ℕ) (parts : List Stored) : Type 0 where
  pub is : IsEntry parts
  pub spelt : header_bytes count (length bytes - 8) ++ drop 8 bytes ≡ entry_bytes parts

-- Records with a row are at least one.
some_rows : (parts : List Stored) → 0 < row_count parts → 0 < length parts
some_rows [] h = absurd (omega arith)
some_rows (r ∷ rs) h = omega arith

-- An entry under way that has a row is an entry once its header is written.
building_finish : (count row_total : ℕ) (bytes : List ℕ) → IsBytes bytes → IsBuilding count row_total bytes → 0 < row_count (parts_in count bytes)
    → Finished count bytes (parts_in count bytes)
building_finish count row_total bytes fits b some =
    let parts = parts_in count bytes in
    let h = holds count row_total bytes b in
    let body = flat_map record_bytes parts in
    let size : length bytes - 8 ≡ length body = omega (arith, h.long, length-entry_bytes parts) in
    record {
      is = record {
        some = some_rows parts some;
        records = records_weaker (eqb (length parts) 1) None parts
            (are_in count row_total bytes fits b);
        size = omega (arith, h.long, b.size);
      };
      spelt = ap (λ (l : List ℕ). header_bytes count (length bytes - 8) ++ l) b.stands
          ∙ ap (λ (k : ℕ). header_bytes k (length bytes - 8) ++ body) (sym b.counted) ∙ ap (λ (k : ℕ). header_bytes (length parts) k ++ body) size;
    }

-- the same of the records that contracts see
pub finished : (count row_total : ℕ) (bytes : List ℕ) (parts : List Stored) → IsBytes bytes → IsBuilding count row_total bytes
    → parts_in count bytes ≡ parts → 0 < row_count parts → Finished count bytes parts
finished count row_total bytes parts fits b same some =
    subst (Finished count bytes) same (building_finish count row_total bytes fits b (subst (λ (p : List Stored). 0 < row_count p) (sym same) some))

-- the test for room
pub fits_room : (count row_total : ℕ) (bytes : List ℕ) (parts : List Stored) (len size : ℕ) → IsBuilding count row_total bytes
    → parts_in count bytes ≡ parts → len ≡ length bytes
    → IsTrue (leb (len + 20 + size) ENTRY_MAX) ↔ (length (entry_bytes parts) + 20 + size ≤ ENTRY_MAX)
fits_room count row_total bytes parts len size b same is =
    let h = holds count row_total bytes b in
    let whole : len ≡ length (entry_bytes parts) = is ∙ h.long ∙ ap (λ (p : List Stored). length (entry_bytes p)) same in (
      λ t. let room = leb-true (len + 20 + size) ENTRY_MAX t in
          omega (arith, room, whole),
      λ room. le-leb (len + 20 + size) ENTRY_MAX (omega (arith, room, whole)),
    )
