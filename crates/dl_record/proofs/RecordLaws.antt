-- Stored records: what is read is spelt so, and what is spelt so is read.
use Rattle.std.proofs.Common.{◌≡◌, ℕ, zero, suc, ◌-◌, ◌+◌, ◌≤◌, ◌<◌, ◌^◌, Bool, true, Option, Some, None, List, [], ◌∷◌}
use Rattle.std.proofs.Common.{◌++◌, length, take, drop, Ok, refl, sym, ap, subst, ◌∙◌, append_assoc, arith, length-append}
use Rattle.std.specs.Prelude.{slice_range}
use Rattle.std.specs.List.{flat_map}
use Rattle.std.specs.Int.{w32, w64}
use Rattle.std.proofs.lemmas.Bool.{eqb-true, eq-eqb, leb-true, le-leb}
use Rattle.std.proofs.lemmas.List.{drop_all, length-drop}
use Rattle.std.proofs.lemmas.Slice.{between_is}
use Rattle.dl_codec.specs.Fields.{field, IsBytes}
use Rattle.dl_record.specs.declared.limits.TheConstants.{PAYLOAD_MAX}
use Rattle.dl_types.specs.declared.txid.TheConstants.{MAX_TXID}
use Rattle.dl_record.specs.declared.kind.Kind.{Kind}
use Rattle.dl_record.specs.declared.kind.Kind.TheVariants as kinds
use Rattle.dl_record.specs.declared.kind.Behind.{Behind}
use Rattle.dl_record.specs.declared.stored.Stored.{Stored}
use Rattle.dl_record.specs.declared.stored.Stored.TheVariants.{Plain, Control, Set}
use Rattle.dl_record.specs.Stored.{position_of, txid_of}
use Rattle.dl_record.specs.Grammar.{payload_bytes, flags_of, fields_and_payload, record_bytes, IsMembers, IsRecord, IsAllowed, Follows, AreRecords}
use Rattle.dl_record.specs.Reading.{◌>>=◌, behind_of, may_stand, may_bear, may_hold, head_at, set_at, stored_at, content_at, record_at, records_at}
use Rattle.dl_record.proofs.Steps.{IsBytes-take, bind_ok, ok_is, part_found, part_again}
use Rattle.dl_record.proofs.Members.{set_found, set_again, ends_there}
use Rattle.dl_record.proofs.Heads.{kind_flags, FitsKind, head_found, head_again}

-- ---- the payload

-- What a stored record says of its fields.
pub record Content (alone : Bool) (kind : Kind) (n t : ℕ) (text : List ℕ) (r : Stored) : Type 0 where
  pub position : position_of r ≡ n
  pub txid : txid_of r ≡ t
  pub flags : flags_of r ≡ kind_flags kind
  pub payload : payload_bytes r ≡ text
  pub members : IsMembers r
  pub allowed : IsAllowed alone r

-- A payload that was read is the spelling of what its kind holds.
content_found : (alone : Bool) (kind : Kind) (position txid : ℕ) (bytes : List ℕ) (at end : ℕ) (r : Stored) → IsBytes bytes → FitsKind alone kind
    → may_hold kind (end - at) ≡ true
    → stored_at kind position txid bytes at end ≡ Ok r → Content alone kind position txid (slice_range bytes at end) r
content_found alone kinds.Plain position txid bytes at end r fits alone-fits holds e =
    subst (Content alone kinds.Plain position txid (slice_range bytes at end)) (ok_is (Plain position txid (slice_range bytes at end)) r e)
    (record { position = refl; txid = refl; flags = refl; payload = refl; members = tt; allowed = tt })
content_found alone kinds.Control position txid bytes at end r fits alone-fits holds e =
    let nothing : end - at ≡ 0 = eqb-true (end - at) 0 holds in
    subst (Content alone kinds.Control position txid (slice_range bytes at end)) (ok_is (Control position txid) r e)
    (record { position = refl; txid = refl; flags = refl; payload = sym (ap (λ (k : ℕ). take k (drop at bytes)) nothing); members = tt; allowed = alone-fits })
content_found alone kinds.Set position txid bytes at end r fits alone-fits holds e =
    let u = bind_ok (set_at (take end bytes) at) (λ payloads. Ok (Set position txid payloads)) r e in
    let s = set_found (take end bytes) at u.0 (IsBytes-take end bytes fits) u.1 in
    subst (Content alone kinds.Set position txid (slice_range bytes at end)) (ok_is (Set position txid u.0) r u.2)
    (record { position = refl; txid = refl; flags = refl; payload = sym s.stands ∙ sym (between_is bytes at end); members = (s.some, s.most); allowed = tt })

-- the kind of a stored record
abbrev pub kind_in : Stored → Kind
kind_in (Plain position txid payload) = kinds.Plain
kind_in (Control position txid) = kinds.Control
kind_in (Set position txid payloads) = kinds.Set

-- From the spelling of a payload the record is read.
content_again : (r : Stored) (bytes : List ℕ) (at end : ℕ) → IsMembers r → length (payload_bytes r) ≤ PAYLOAD_MAX
    → slice_range bytes at end ≡ payload_bytes r → stored_at (kind_in r) (position_of r) (txid_of r) bytes at end ≡ Ok r
content_again (Plain position txid payload) bytes at end members short e = rw e refl
content_again (Control position txid) bytes at end members short e = refl
content_again (Set position txid payloads) bytes at end members short e =
    let s = set_again (take end bytes) at payloads members.0 members.1 short (sym (between_is bytes at end) ∙ e) in
    rw s refl

-- The flags of a record are those of its kind.
pub kind_flags-kind_in : (r : Stored) → kind_flags (kind_in r) ≡ flags_of r
kind_flags-kind_in (Plain position txid payload) = refl
kind_flags-kind_in (Control position txid) = refl
kind_flags-kind_in (Set position txid payloads) = refl

-- The kind of a record that is allowed may stand there.
kind_fits : (alone : Bool) (r : Stored) → IsAllowed alone r → FitsKind alone (kind_in r)
kind_fits alone (Plain position txid payload) h = tt
kind_fits alone (Control position txid) h = h
kind_fits alone (Set position txid payloads) h = tt

-- The kind of a record may have a payload as long as its own.
pub kind_holds : (r : Stored) → may_hold (kind_in r) (length (payload_bytes r)) ≡ true
kind_holds (Plain position txid payload) = refl
kind_holds (Control position txid) = refl
kind_holds (Set position txid payloads) = refl

-- ---- what the record before asks

-- what the record before asks of the next one, as a reader keeps it
abbrev pub behind_all : Option Stored → Option Behind
behind_all None = None
behind_all (Some r) = Some (behind_of r)

-- A record whose position and id passed the tests follows the one before.
follows_found : (before : Option Stored) (r : Stored) → may_stand (behind_all before) (position_of r) ≡ true
    → may_bear (behind_all before) (txid_of r) ≡ true → Follows before r
follows_found None r stands bears = tt
follows_found (Some b) r stands bears = record { position = eqb-true _ _ stands; txid = leb-true _ _ bears }

-- The position of a record that follows passes the test.
stands_again : (before : Option Stored) (r : Stored) → Follows before r → may_stand (behind_all before) (position_of r) ≡ true
stands_again None r h = refl
stands_again (Some b) r h = eq-eqb _ _ h.position

-- The id of a record that follows passes the test.
bears_again : (before : Option Stored) (r : Stored) → Follows before r → may_bear (behind_all before) (txid_of r) ≡ true
bears_again None r h = refl
bears_again (Some b) r h = le-leb _ _ h.txid

-- ---- one record

-- The fields and the payload of a record stand one behind the other, and then the rest.
pub fields_and_payload-append : (position flags txid : ℕ) (payload rest : List ℕ)
    → fields_and_payload position flags txid payload ++ rest ≡ field w32 position ++ (field w32 flags ++ (field w64 txid ++ (field w32
    (length payload) ++ (payload ++ rest))))
unfolding fields_and_payload
fields_and_payload-append position flags txid payload rest = simp append_assoc

-- What a stored record that was read says of the bytes.
pub record RecordFound (alone : Bool) (before : Option Stored) (bytes : List ℕ) (at : ℕ) (r : Stored) (end : ℕ) : Type 0 where
  pub is : IsRecord r
  pub allowed : IsAllowed alone r
  pub follows : Follows before r
  pub room : end ≤ length bytes
  pub stands : drop at bytes ≡ record_bytes r ++ drop end bytes

-- Bytes from which a record was read are its spelling, and it is valid there.
pub record_found : (alone : Bool) (before : Option Stored) (bytes : List ℕ) (at : ℕ) (x : Stored × ℕ) → IsBytes bytes
    → record_at alone (behind_all before) bytes at ≡ Ok x → RecordFound alone before bytes at x.0 x.1
unfolding record_at
record_found alone before bytes at x fits e =
    let a = bind_ok (head_at alone (behind_all before) bytes at) (λ head. content_at head bytes (at + 20) >>= λ stored. Ok (stored, head.end)) x e in
    let head = a.0 in
    let b = bind_ok (content_at head bytes (at + 20)) (λ stored. Ok (stored, head.end)) x a.2 in
    let r = b.0 in
    let h = head_found alone (behind_all before) bytes at head fits a.1 in
    let size = h.0 in
    let s = h.1 in
    let p = part_found bytes (at + 20) head.end (omega (arith, s.end)) s.room in
    let payload = slice_range bytes (at + 20) head.end in
    let len : length payload ≡ size = omega (arith, p.len, s.end) in
    let span : head.end - (at + 20) ≡ size = omega (arith, s.end) in
    let c = content_found alone head.kind head.position head.txid bytes (at + 20) head.end r fits s.fits (ap (may_hold head.kind) span ∙ s.holds) b.1 in
    let whole : fields_and_payload head.position (kind_flags head.kind) head.txid payload ++ drop head.end bytes ≡ drop at bytes =
    fields_and_payload-append head.position (kind_flags head.kind) head.txid payload (drop head.end bytes)
    ∙ sym (s.stands ∙ ap (λ (l : List ℕ). field w32 head.position ++ (field w32 (kind_flags head.kind) ++ (field w64 head.txid ++ l)))
    (ap (λ (k : ℕ). field w32 k ++ drop (at + 20) bytes) (sym len) ∙ ap (λ (l : List ℕ). field w32 (length payload) ++ l) p.stands)) in
    let spelt : record_bytes r ≡ fields_and_payload head.position (kind_flags head.kind) head.txid payload = rw (c.position, c.flags, c.txid, c.payload) refl in
    subst (λ (y : Stored × ℕ). RecordFound alone before bytes at y.0 y.1) (ok_is (r, head.end) x b.2) (record {
      is = record {
        position = subst (λ (k : ℕ). k < 2 ^ 32) (sym c.position) s.position;
        txid = subst (λ (k : ℕ). k ≤ MAX_TXID) (sym c.txid) s.txid;
        payload = subst (λ (l : List ℕ). length l ≤ PAYLOAD_MAX) (sym c.payload) (omega (arith, len, s.short));
        members = c.members;
      };
      allowed = c.allowed;
      follows = follows_found before r (ap (may_stand (behind_all before)) c.position ∙ s.follows) (ap (may_bear (behind_all before)) c.txid ∙ s.bears);
      room = s.room;
      stands = sym whole ∙ ap (λ (l : List ℕ). l ++ drop head.end bytes) (sym spelt);
    })

-- What a stored record that stands there reads as.
pub record RecordReads (alone : Bool) (before : Option Stored) (bytes : List ℕ) (at : ℕ) (r : Stored) (rest : List ℕ) : Type 0 where
  pub reads : record_at alone (behind_all before) bytes at ≡ Ok (r, at + 20 + length (payload_bytes r))
  pub behind : drop (at + 20 + length (payload_bytes r)) bytes ≡ rest
  pub room : at + 20 + length (payload_bytes r) ≤ length bytes

-- From the spelling of a record that is valid there the record is read.
pub record_again : (alone : Bool) (before : Option Stored) (bytes : List ℕ) (at : ℕ) (r : Stored) (rest : List ℕ) → IsRecord r → IsAllowed alone r
    → Follows before r → drop at bytes ≡ record_bytes r ++ rest → RecordReads alone before bytes at r rest
unfolding record_at
record_again alone before bytes at r rest is allowed follows e =
    let payload = payload_bytes r in
    let size = length payload in
    let stands : drop at bytes ≡ field w32
    (position_of r) ++ (field w32 (kind_flags (kind_in r)) ++ (field w64 (txid_of r) ++ (field w32 size ++ (payload ++ rest)))) =
    e ∙ fields_and_payload-append (position_of r) (flags_of r) (txid_of r) payload rest
    ∙ ap (λ (k : ℕ). field w32 (position_of r) ++ (field w32 k ++ (field w64 (txid_of r) ++ (field w32 size ++ (payload ++ rest)))))
    (sym (kind_flags-kind_in r)) in
    let h = head_again alone (behind_all before) bytes at (position_of r) (txid_of r) size (kind_in r) (payload ++ rest) is.position
    (stands_again before r follows) (kind_fits alone r allowed) is.txid (bears_again before r follows) is.payload (kind_holds r)
    (omega (arith, length-append payload rest)) stands in
    let p = part_again bytes (at + 20) (at + 20 + size) payload rest refl h.behind in
    let c = content_again r bytes (at + 20) (at + 20 + size) is.members is.payload p.reads in
    record { reads = rw (h.reads, c) refl; behind = p.behind; room = h.room }

-- ---- the records

-- So many records stand from a place on, and are valid there.
pub record RecordsFound (n : ℕ) (alone : Bool) (before : Option Stored) (bytes : List ℕ) (at : ℕ) (rs : List Stored) : Type 0 where
  pub are : AreRecords alone before rs
  pub stands : drop at bytes ≡ flat_map record_bytes rs
  pub count : length rs ≡ n

-- Bytes from which records were read are their spelling, and they are valid there.
pub records_found : (n : ℕ) (alone : Bool) (before : Option Stored) (bytes : List ℕ) (at : ℕ) (rs : List Stored) → IsBytes bytes
    → records_at n alone (behind_all before) bytes at ≡ Ok rs → RecordsFound n alone before bytes at rs
unfolding records_at
records_found zero alone before bytes at rs fits e =
    let g = ends_there at bytes [] rs e in
    subst (RecordsFound zero alone before bytes at) g.1 (record { are = tt; stands = drop_all at bytes (omega (arith, g.0)); count = refl })
records_found (suc n) alone before bytes at rs fits e =
    let u = bind_ok (record_at alone (behind_all before) bytes at)
    (λ first. records_at n alone (Some (behind_of first.0)) bytes first.1 >>= λ others. Ok (first.0 ∷ others)) rs e in
    let v = bind_ok (records_at n alone (Some (behind_of u.0.0)) bytes u.0.1) (λ others. Ok (u.0.0 ∷ others)) rs u.2 in
    let one = record_found alone before bytes at u.0 fits u.1 in
    let more = records_found n alone (Some u.0.0) bytes u.0.1 v.0 fits v.1 in
    subst (RecordsFound (suc n) alone before bytes at) (ok_is (u.0.0 ∷ v.0) rs v.2) (record {
      are = (one.is, (one.allowed, (one.follows, more.are)));
      stands = one.stands ∙ ap (λ (l : List ℕ). record_bytes u.0.0 ++ l) more.stands;
      count = ap suc more.count;
    })

-- From the spelling of records that are valid there the records are read.
pub records_again : (rs : List Stored) (alone : Bool) (before : Option Stored) (bytes : List ℕ) (at : ℕ) → AreRecords alone before rs
    → at ≤ length bytes → drop at bytes ≡ flat_map record_bytes rs → records_at (length rs) alone (behind_all before) bytes at ≡ Ok rs
unfolding records_at
records_again [] alone before bytes at are room e =
    let end : at ≡ length bytes = omega (arith, room, sym (length-drop at bytes) ∙ ap length e) in
    rw (eq-eqb at (length bytes) end) refl
records_again (r ∷ rs) alone before bytes at are room e =
    let one = record_again alone before bytes at r (flat_map record_bytes rs) are.0 are.1.0 are.1.1.0 e in
    let more = records_again rs alone (Some r) bytes (at + 20 + length (payload_bytes r)) are.1.1.1 one.room one.behind in
    rw (one.reads, more) refl
