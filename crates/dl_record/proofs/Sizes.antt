-- How long stored records and entries are.
use Rattle.std.proofs.Common.{◌≡◌, ℕ, ◌+◌, ◌*◌, ◌≤◌, ◌<◌, ◌^◌, Bool, List, [], ◌∷◌, ◌++◌, length, take}
use Rattle.std.proofs.Common.{Option, Some, None, All, refl, sym, ap, inl, inr, ◌∙◌, arith, length-append}
use Rattle.std.specs.List.{flat_map, AllByRecursion}
use Rattle.std.specs.Int.{w8, w16, w32, w64}
use Rattle.std.proofs.lemmas.List.{take_at, take-take, length-take}
use Rattle.std.proofs.lemmas.Bool.{cases_lt}
use Rattle.std.proofs.lemmas.List.Elements.{All-from_recursion}
use Rattle.dl_codec.specs.Fields.{field}
use Rattle.dl_codec.proofs.FieldLaws.{width_8, width_16, width_32, width_64}
use Rattle.dl_record.specs.declared.limits.TheConstants.{ENTRY_MAX}
use Rattle.dl_types.specs.declared.txid.TheConstants.{MAX_TXID}
use Rattle.dl_record.specs.declared.stored.Stored.{Stored}
use Rattle.dl_record.specs.declared.stored.Stored.TheVariants.{Control}
use Rattle.dl_record.specs.Stored.{position_of, txid_of}
use Rattle.dl_record.specs.Grammar.{fields_and_payload, header_bytes, record_bytes, entry_bytes, payload_bytes, flags_of, IsRecord, AreRecords, IsEntry}

-- what stood in front still does, step by step
pub front_kept : (old mid new : List ℕ) → take (length old) mid ≡ old → take (length mid) new ≡ mid → take (length old) new ≡ old
front_kept old mid new first second = elim (cases_lt (length mid) (length old)) [
  | inl short ↦ absurd (omega (arith, short, ap length first, length-take (length old) mid))
  | inr long ↦ sym (take-take (length old) (length mid) new long) ∙ ap (take (length old)) second ∙ first
]

-- What bytes were added to stands before them.
pub front_added : (old more new : List ℕ) → new ≡ old ++ more → take (length old) new ≡ old
front_added old more new e = ap (take (length old)) e ∙ take_at old more (length old) refl

-- A record has its payload and twenty bytes before it.
pub length-fields_and_payload : (position flags txid : ℕ) (payload : List ℕ) → length (fields_and_payload position flags txid payload) ≡ 20 + length payload
unfolding fields_and_payload
length-fields_and_payload position flags txid payload =
    let a = field w32 (length payload) ++ payload in
    let b = field w64 txid ++ a in
    let c = field w32 flags ++ b in
    omega (
      arith,
      length-append (field w32 position) c,
      length-append (field w32 flags) b,
      length-append (field w64 txid) a,
      length-append
          (field w32 (length payload)) payload,
      width_32.len position,
      width_32.len flags,
      width_64.len txid,
      width_32.len (length payload),
    )

-- A header has eight bytes.
pub length-header_bytes : (count size : ℕ) → length (header_bytes count size) ≡ 8
unfolding header_bytes
length-header_bytes count size =
    let a = field w16 count ++ field w32 size in
    omega (
      arith,
      length-append (field w8 1) (field w8 0 ++ a),
      length-append (field w8 0) a,
      length-append (field w16 count)
          (field w32 size),
      width_8.len 1,
      width_8.len 0,
      width_16.len count,
      width_32.len size,
    )

-- A stored record has its payload and twenty bytes before it.
pub length-record_bytes : (r : Stored) → length (record_bytes r) ≡ 20 + length (payload_bytes r)
length-record_bytes r = length-fields_and_payload (position_of r) (flags_of r) (txid_of r) (payload_bytes r)

-- An entry has the bytes of its records and eight before them.
pub length-entry_bytes : (parts : List Stored) → length (entry_bytes parts) ≡ 8 + length (flat_map record_bytes parts)
length-entry_bytes parts =
    let body = flat_map record_bytes parts in
    omega (arith, length-append (header_bytes (length parts) (length body)) body, length-header_bytes (length parts) (length body))

-- each stored record has at least 20 bytes
pub count_le : (parts : List Stored) → 20 * length parts ≤ length (flat_map record_bytes parts)
count_le [] = omega arith
count_le (r ∷ rs) = omega (arith, count_le rs, length-append (record_bytes r) (flat_map record_bytes rs), length-record_bytes r)

-- Records of an entry are each a record.
each_by_recursion : (alone : Bool) (before : Option Stored) (rs : List Stored) → AreRecords alone before rs → AllByRecursion IsRecord rs
each_by_recursion alone before [] h = tt
each_by_recursion alone before (r ∷ rs) h = (h.0, each_by_recursion alone (Some r) rs h.1.1.1)

-- Each record of an entry is a record.
pub each_record : (parts : List Stored) → IsEntry parts → All IsRecord parts
each_record parts h = All-from_recursion IsRecord parts (each_by_recursion _ None parts h.records)

-- an entry has fewer stored records than its header can count
pub count_fits : (parts : List Stored) → IsEntry parts → 20 * length parts + 8 ≤ ENTRY_MAX
count_fits parts h = omega (arith, count_le parts, length-entry_bytes parts, h.size)

-- The records of an entry leave room for its header.
pub body_fits : (parts : List Stored) → IsEntry parts → length (flat_map record_bytes parts) + 8 ≤ ENTRY_MAX
body_fits parts h = omega (arith, length-entry_bytes parts, h.size)

-- a control record alone is an entry
pub control_entry : (position txid : ℕ) → position < 2 ^ 32 → txid ≤ MAX_TXID → IsEntry (Control position txid ∷ [])
control_entry position txid p t = record {
  some = omega arith;
  records = (record { position = p; txid = t; payload = omega arith; members = tt }, (refl, (tt, tt)));
  size = let one = Control position txid in
      omega (arith, length-entry_bytes (one ∷ []), length-append (record_bytes one) [], length-record_bytes one);
}
