-- A walk gives the user rows of an entry.
use Rattle.std.proofs.Common.{◌≡◌, ℕ, suc, ◌+◌, ◌≤◌, ◌<◌, ◌^◌, Bool, true, eqb, leb, ◌&&◌, Option, Some, None, List, []}
use Rattle.std.proofs.Common.{◌∷◌, ◌++◌, length, drop, Ok, refl, sym, ap, subst, ◌∙◌, append_assoc, arith, length-append}
use Rattle.std.specs.List.{flat_map}
use Rattle.std.specs.Int.{w8, w16, w32, w64}
use Rattle.std.proofs.lemmas.Bool.{eqb-true}
use Rattle.std.proofs.lemmas.Bool.Decides.{nat_tests}
use Rattle.dl_codec.specs.Fields.{field}
use Rattle.dl_codec.proofs.FieldLaws.{width_8, width_16, width_32}
use Rattle.dl_record.specs.declared.limits.TheConstants.{ENTRY_MAX, PAYLOAD_MAX, MEMBERS_MAX}
use Rattle.dl_record.specs.declared.kind.Kind.{Kind}
use Rattle.dl_record.specs.declared.kind.Kind.TheVariants as kinds
use Rattle.dl_record.specs.declared.cursor.Cursor.{Cursor}
use Rattle.dl_record.specs.Walks.{rows_left, IsWalk}
use Rattle.dl_record.specs.declared.stored.Stored.{Stored}
use Rattle.dl_record.specs.declared.stored.Stored.TheVariants.{Plain, Control, Set}
use Rattle.dl_record.specs.Stored.{position_of, txid_of, payloads_of, rows_in}
use Rattle.dl_record.specs.Grammar.{member_bytes, set_bytes, payload_bytes, flags_of, record_bytes, entry_bytes, IsMembers, IsAllowed, AreRecords, IsEntry}
use Rattle.dl_record.specs.Reading.{field_at, members_count_at}
use Rattle.dl_record.specs.UserRows.{RowOf}
use Rattle.dl_record.specs.Rows.{rows_of, rows_from, user_rows, members_walk, kind_walk, records_walk}
use Rattle.dl_record.proofs.MemberSizes.{length-member_bytes, length-set_bytes}
use Rattle.dl_record.proofs.Sizes.{length-record_bytes, length-entry_bytes, count_fits}
use Rattle.dl_record.proofs.Steps.{field_again, part_again}
use Rattle.dl_record.proofs.Members.{member_again}
use Rattle.dl_record.proofs.Heads.{kind_flags, FitsKind, head_again}
use Rattle.dl_record.proofs.RecordLaws.{kind_in, kind_flags-kind_in, kind_holds, fields_and_payload-append}
use Rattle.dl_record.proofs.Entries.{header_bytes-append}

-- ---- how many rows there are

-- There are as many rows as payloads.
pub length-rows_of : (slot txid : ℕ) (ps : List (List ℕ)) → length (rows_of slot txid ps) ≡ length ps
length-rows_of slot txid [] = refl
length-rows_of slot txid (p ∷ ps) = ap suc (length-rows_of (slot + 1) txid ps)

-- There are at most as many members as bytes of members.
members_le : (ps : List (List ℕ)) → length ps ≤ length (flat_map member_bytes ps)
members_le [] = omega arith
members_le (p ∷ ps) = omega (arith, members_le ps, length-append (member_bytes p) (flat_map member_bytes ps), length-member_bytes p)

-- A record has at most as many rows as bytes.
rows_in_le : (r : Stored) → rows_in r ≤ length (record_bytes r)
rows_in_le (Plain position txid payload) = omega (arith, length-record_bytes (Plain position txid payload))
rows_in_le (Control position txid) = omega arith
rows_in_le (Set position txid payloads) = omega (arith, length-record_bytes (Set position txid payloads), length-set_bytes payloads, members_le payloads)

-- no more rows than bytes
pub rows_le : (slot : ℕ) (rs : List Stored) → length (rows_from slot rs) ≤ length (flat_map record_bytes rs)
rows_le slot [] = omega arith
rows_le slot (r ∷ rs) =
    omega (
      arith,
      rows_le (slot + rows_in r) rs,
      rows_in_le r,
      length-append (record_bytes r) (flat_map record_bytes rs),
      length-append
          (rows_of slot (txid_of r) (payloads_of r)) (rows_from (slot + rows_in r) rs),
      length-rows_of slot (txid_of r) (payloads_of r),
    )

-- ---- members

-- A walk over the spelling of a set's members gives their rows, and then the others.
members_walk_again : (ps : List (List ℕ)) (slot txid : ℕ) (bytes : List ℕ) (at : ℕ) (others : List RowOf) (more : List ℕ)
    → length (flat_map member_bytes ps) < 2 ^ 32 → drop at bytes ≡ flat_map member_bytes ps ++ more
    → members_walk (length ps) slot txid bytes at others ≡ rows_of slot txid ps ++ others
unfolding members_walk
members_walk_again [] slot txid bytes at others more fits e = refl
members_walk_again (p ∷ ps) slot txid bytes at others more fits e =
    let sizes = length-append (member_bytes p) (flat_map member_bytes ps) in
    let one = member_again bytes at p (flat_map member_bytes ps ++ more) (omega (arith, fits, sizes, length-member_bytes p))
    (e ∙ append_assoc (member_bytes p) (flat_map member_bytes ps) more) in
    let rest = members_walk_again ps (slot + 1) txid bytes (at + 4 + length p) others more (omega (arith, fits, sizes)) one.behind in
    rw (one.reads, one.is, rest) refl

-- The count of a set is read at a place, and its members stand behind it.
pub record SetReads (bytes : List ℕ) (at : ℕ) (ps : List (List ℕ)) (rest : List ℕ) : Type 0 where
  pub reads : members_count_at bytes (at + 2) ≡ Ok (length ps)
  pub behind : drop (at + 4) bytes ≡ flat_map member_bytes ps ++ rest

-- From the spelling of a set its count is read.
set_reads : (bytes : List ℕ) (at : ℕ) (ps : List (List ℕ)) (rest : List ℕ) → 1 ≤ length ps → length ps ≤ MEMBERS_MAX
    → drop at bytes ≡ set_bytes ps ++ rest → SetReads bytes at ps rest
unfolding members_count_at set_bytes
set_reads bytes at ps rest some most e =
    let members = flat_map member_bytes ps in
    let parts : drop at bytes ≡ field w8 0 ++ (field w8 0 ++ (field w16 (length ps) ++ (members ++ rest))) = e ∙ simp append_assoc in
    let fa = field_again w8 width_8 (omega arith) bytes at (at + 1) 0 (field w8 0 ++ (field w16 (length ps) ++ (members ++ rest))) refl (omega arith) parts in
    let fb = field_again w8 width_8 (omega arith) bytes (at + 1) (at + 2) 0 (field w16 (length ps) ++ (members ++ rest)) (omega arith)
    (omega arith) fa.behind in
    let fd = field_again w16 width_16 (omega arith) bytes (at + 2) (at + 4) (length ps) (members ++ rest) (omega arith) (omega arith) fb.behind in
    let passes : (leb 1 (length ps) && leb (length ps) MEMBERS_MAX) ≡ true = grind (arith, nat_tests) in
    record { reads = rw (fd.reads, passes) refl; behind = fd.behind }

-- ---- stored records

-- behind a control record there are no rows
abbrev NoneBehind : Stored → List RowOf → Type 0
NoneBehind (Plain position txid payload) rows = Unit {0}
NoneBehind (Control position txid) rows = rows ≡ []
NoneBehind (Set position txid payloads) rows = Unit {0}

-- A walk over the spelling of a record gives its rows, and then the others.
kind_walk_again : (r : Stored) (slot : ℕ) (bytes : List ℕ) (at end : ℕ) (others : ℕ → List RowOf) (rest : List ℕ) → IsMembers r
    → length (payload_bytes r) ≤ PAYLOAD_MAX → end ≡ at + length (payload_bytes r)
    → drop at bytes ≡ payload_bytes r ++ rest → NoneBehind r (others (slot + rows_in r))
    → kind_walk (kind_in r) slot (txid_of r) bytes at end others ≡ rows_of slot (txid_of r) (payloads_of r) ++ others (slot + rows_in r)
kind_walk_again (Plain position txid payload) slot bytes at end others rest members short place e none =
    let p = part_again bytes at end payload rest place e in
    rw (p.reads) refl
kind_walk_again (Control position txid) slot bytes at end others rest members short place e none = sym none
kind_walk_again (Set position txid payloads) slot bytes at end others rest members short place e none =
    let s = set_reads bytes at payloads rest members.0 members.1 e in
    let m = members_walk_again payloads slot txid bytes (at + 4) (others (slot + length payloads)) rest
    (omega (arith, short, length-set_bytes payloads)) s.behind in
    rw (s.reads) m

-- Any kind may stand alone.
fits_alone : (kind : Kind) → FitsKind true kind
fits_alone kinds.Plain = tt
fits_alone kinds.Control = refl
fits_alone kinds.Set = tt

-- Behind a control record no rows stand.
none_behind : (r : Stored) (rs : List Stored) (alone : Bool) (slot : ℕ) → IsAllowed alone r → (alone ≡ true → length (r ∷ rs) ≤ 1)
    → NoneBehind r (rows_from slot rs)
none_behind (Plain position txid payload) rs alone slot allowed one = tt
none_behind (Control position txid) [] alone slot allowed one = refl
none_behind (Control position txid) (s ∷ rs) alone slot allowed one = absurd (omega (arith, one allowed))
none_behind (Set position txid payloads) rs alone slot allowed one = tt

-- A walk over the spelling of records gives their rows.
records_walk_again : (rs : List Stored) (alone : Bool) (before : Option Stored) (slot : ℕ) (bytes : List ℕ) (at : ℕ) → AreRecords alone before rs
    → (alone ≡ true → length rs ≤ 1) → drop at bytes ≡ flat_map record_bytes rs
    → records_walk (length rs) slot bytes at ≡ rows_from slot rs
unfolding records_walk
records_walk_again [] alone before slot bytes at are one e = refl
records_walk_again (r ∷ rs) alone before slot bytes at are one e =
    let is = are.0 in
    let payload = payload_bytes r in
    let size = length payload in
    let rest = flat_map record_bytes rs in
    let stands : drop at bytes ≡ field w32
    (position_of r) ++ (field w32 (kind_flags (kind_in r)) ++ (field w64 (txid_of r) ++ (field w32 size ++ (payload ++ rest)))) =
    e ∙ fields_and_payload-append (position_of r) (flags_of r) (txid_of r) payload rest
    ∙ ap (λ (k : ℕ). field w32 (position_of r) ++ (field w32 k ++ (field w64 (txid_of r) ++ (field w32 size ++ (payload ++ rest)))))
    (sym (kind_flags-kind_in r)) in
    let h = head_again true None bytes at (position_of r) (txid_of r) size (kind_in r) (payload ++ rest) is.position refl
    (fits_alone (kind_in r)) is.txid refl is.payload (kind_holds r) (omega (arith, length-append payload rest)) stands in
    let behind = part_again bytes (at + 20) (at + 20 + size) payload rest refl h.behind in
    let more : (next : ℕ) → records_walk (length rs) next bytes (at + 20 + size) ≡ rows_from next rs =
    λ next. records_walk_again rs alone (Some r) next bytes (at + 20 + size) are.1.1.1 (λ a. omega (arith, one a)) behind.behind in
    let none : NoneBehind r (records_walk (length rs) (slot + rows_in r) bytes (at + 20 + size)) =
    subst (λ (l : List RowOf). NoneBehind r l) (sym (more (slot + rows_in r))) (none_behind r rs alone (slot + rows_in r) are.1.0 one) in
    let k = kind_walk_again r slot bytes (at + 20) (at + 20 + size)
    (λ next. records_walk (length rs) next bytes (at + 20 + size)) rest is.members is.payload refl h.behind none in
    rw (h.reads) (k ∙ ap (λ (l : List RowOf). rows_of slot (txid_of r) (payloads_of r) ++ l) (more (slot + rows_in r)))

-- ---- the entry

-- A walk over these bytes gives the entry's user rows.
pub record EntryWalk (bytes : List ℕ) (parts : List Stored) : Type 0 where
  pub count : field_at w16 bytes 2 ≡ Ok (length parts)
  pub rows : records_walk (length parts) 0 bytes 8 ≡ user_rows parts
  pub most : length (user_rows parts) ≤ ENTRY_MAX
  pub room : 8 ≤ length bytes
  pub size : length bytes ≤ ENTRY_MAX

-- A walk over the spelling of an entry gives its user rows.
pub entry_walk : (bytes : List ℕ) (parts : List Stored) → IsEntry parts → bytes ≡ entry_bytes parts → EntryWalk bytes parts
entry_walk bytes parts is spelt =
    let count = length parts in
    let body = flat_map record_bytes parts in
    let size = length body in
    let len : length bytes ≡ 8 + size = ap length spelt ∙ length-entry_bytes parts in
    let e : bytes ≡ field w8 1 ++ (field w8 0 ++ (field w16 count ++ (field w32 size ++ body))) = spelt ∙ header_bytes-append count size body in
    let most = count_fits parts is in
    let small : length bytes ≤ ENTRY_MAX = subst (λ (l : List ℕ). length l ≤ ENTRY_MAX) (sym spelt) is.size in
    let pa = field_again w8 width_8 (omega arith) bytes 0 1 1 (field w8 0 ++ (field w16 count ++ (field w32 size ++ body))) refl (omega arith) e in
    let pb = field_again w8 width_8 (omega arith) bytes 1 2 0 (field w16 count ++ (field w32 size ++ body)) refl (omega arith) pa.behind in
    let pd = field_again w16 width_16 (omega arith) bytes 2 4 count (field w32 size ++ body) refl (omega arith) pb.behind in
    let pf = field_again w32 width_32 (omega arith) bytes 4 8 size body refl (omega (arith, len, small)) pd.behind in
    let alone : eqb count 1 ≡ true → length parts ≤ 1 = λ t. let one : count ≡ 1 = eqb-true count 1 t in omega arith in
    record {
      count = pd.reads;
      rows = records_walk_again parts (eqb count 1) None 0 bytes 8 is.records alone pf.behind;
      most = omega (arith, rows_le 0 parts, len, small);
      room = omega arith;
      size = small;
    }

-- what a walk has left where it begins
pub record WalkBegins (bytes : List ℕ) (parts : List Stored) (c : Cursor) : Type 0 where
  pub rows : rows_left bytes c ≡ user_rows parts
  pub walk : IsWalk bytes c

-- A walk that begins behind the header of an entry has all the entry's rows left.
pub walk_begins : (bytes : List ℕ) (parts : List Stored) (n txid : ℕ) → IsEntry parts → bytes ≡ entry_bytes parts
    → ((m : ℕ) → field_at w16 bytes 2 ≡ Ok m → n ≡ m)
    → WalkBegins bytes parts (record { at = 8; records = n; slot = 0; members = 0; member_at = 0; txid = txid })
unfolding members_walk
walk_begins bytes parts n txid is spelt counts =
    let w = entry_walk bytes parts is spelt in
    let same : n ≡ length parts = counts (length parts) w.count in
    let rows : records_walk n 0 bytes 8 ≡ user_rows parts = ap (λ (k : ℕ). records_walk k 0 bytes 8) same ∙ w.rows in
    record {
      rows = rows;
      walk = record { size = w.size; within = w.room; slots = omega (arith, ap length rows, w.most) };
    }
