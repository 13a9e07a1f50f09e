-- Entries under way: how long they are, and what stands next in them.
use Rattle.std.proofs.Common.{◌≡◌, ℕ, suc, ◌+◌, ◌*◌, get_or, ◌≤◌, ◌<◌, ◌^◌, Bool, true, false, leb, ltb, Option, Some, None, List, [], ◌∷◌, ◌++◌, length, take}
use Rattle.std.proofs.Common.{refl, sym, ap, ◌∙◌, subst, inl, inr, arith, length-append, add-zero}
use Rattle.std.specs.Prelude.{IsTrue, ◌↔◌}
use Rattle.std.specs.List.{flat_map, sum_by}
use Rattle.std.proofs.lemmas.Bool.{cases_lt, le-leb, lt-leb, lt-ltb, ltb-true, false≢true, true≢false}
use Rattle.std.proofs.lemmas.List.{append-nil, take_more, length-take-le}
use Rattle.std.proofs.lemmas.List.Concat.{flat_map-append}
use Rattle.std.proofs.lemmas.List.Sums.{sum_by-cons, sum_by_more, sum_by-take-le}
use Rattle.dl_types.specs.declared.dlsn.Dlsn.{Dlsn}
use Rattle.dl_types.specs.declared.row.Origin.{Origin}
use Rattle.dl_types.specs.declared.row.Row.{Row}
use Rattle.dl_types.specs.declared.txid.TheConstants.{MAX_TXID}
use Rattle.dl_types.specs.Places.{place}
use Rattle.dl_record.specs.declared.limits.TheConstants.{ENTRY_MAX, PAYLOAD_MAX, MEMBERS_MAX}
use Rattle.dl_record.specs.declared.stored.Stored.{Stored}
use Rattle.dl_record.specs.declared.stored.Stored.TheVariants.{Plain, Set}
use Rattle.dl_record.specs.Stored.{position_of, txid_of, payloads_of, rows_in}
use Rattle.dl_record.specs.Grammar.{member_bytes, set_bytes, payload_bytes, record_bytes, entry_bytes, Follows}
use Rattle.dl_record.specs.Rows.{rows_of, rows_from, row_count}
use Rattle.dl_record.specs.Building.{last_of, MayFollow}
use Rattle.dl_record.proofs.Sizes.{length-record_bytes, length-entry_bytes}
use Rattle.dl_record.proofs.MemberSizes.{length-member_bytes, length-set_bytes}
use Rattle.dl_record.proofs.WalkLaws.{length-rows_of}
use Rattle.dl_rules_stream.specs.LogWriters.{Pending, pending_from, rows_at, parts_size, set_size}
use Rattle.dl_writer.specs.Facts.{DraftFacts}
use Rattle.dl_writer.specs.Sending.{pending_of, row_at}
use Rattle.dl_writer.specs.Drafts.{EndsAt, IsDraft, empty_draft, with_part, fits_parts, MayTake, HasRoom}

-- ---- how long they are

-- the bytes of records are twenty and the payload for each
length-records : (parts : List Stored) → length (flat_map record_bytes parts) ≡ sum_by (λ part. 20 + length (payload_bytes part)) parts
length-records [] = refl
length-records (r ∷ rs) =
    omega (
      arith,
      length-append (record_bytes r) (flat_map record_bytes rs),
      length-record_bytes r,
      length-records rs,
      sum_by-cons (λ part. 20 + length (payload_bytes part)) r rs,
    )

-- an entry is as long as the rule says
pub length-parts : (parts : List Stored) → length (entry_bytes parts) ≡ parts_size parts
length-parts parts = length-entry_bytes parts ∙ ap (λ (n : ℕ). 8 + n) (length-records parts)

-- the members of a set are four bytes and the payload for each
length-members : (ps : List (List ℕ)) → length (flat_map member_bytes ps) ≡ sum_by (λ payload. 4 + length payload) ps
length-members [] = refl
length-members (p ∷ ps) =
    omega (
      arith,
      length-append (member_bytes p) (flat_map member_bytes ps),
      length-member_bytes p,
      length-members ps,
      sum_by-cons (λ payload. 4 + length payload) p ps,
    )

-- a set is as long as the rule says
pub length-set : (ps : List (List ℕ)) → length (set_bytes ps) ≡ set_size ps
length-set ps = length-set_bytes ps ∙ ap (λ (n : ℕ). 4 + n) (length-members ps)

-- the builder's test is the rule's
pub fits_is : (parts : List Stored) (size : ℕ) (b : Bool) → IsTrue b ↔ (length (entry_bytes parts) + 20 + size ≤ ENTRY_MAX) → b ≡ fits_parts parts size
fits_is parts size true (to, from) = sym (le-leb (parts_size parts + 20 + size) ENTRY_MAX (omega (arith, to refl, length-parts parts)))
fits_is parts size false (to, from) = elim (cases_lt ENTRY_MAX (parts_size parts + 20 + size)) [
  | inl past ↦ sym (lt-leb (parts_size parts + 20 + size) ENTRY_MAX past)
  | inr room ↦ absurd (false≢true (from (omega (arith, room, length-parts parts))))
]

-- ---- what stands next

-- what was added last is last
last_of-push : (parts : List Stored) (r : Stored) → last_of (parts ++ r ∷ []) ≡ Some r
last_of-push [] r = refl
last_of-push (x ∷ []) r = refl
last_of-push (x ∷ y ∷ ys) r = last_of-push (y ∷ ys) r

-- one record more adds its rows
length-rows_from-push : (slot : ℕ) (xs : List Stored) (r : Stored) → length (rows_from slot (xs ++ r ∷ [])) ≡ length (rows_from slot xs) + rows_in r
length-rows_from-push slot [] r =
    omega (arith, length-append (rows_of slot (txid_of r) (payloads_of r)) [], length-rows_of slot (txid_of r) (payloads_of r))
length-rows_from-push slot (x ∷ xs) r =
    let front = rows_of slot (txid_of x) (payloads_of x) in
    omega (
      arith,
      length-rows_from-push (slot + rows_in x) xs r,
      length-append front
          (rows_from (slot + rows_in x) (xs ++ r ∷ [])),
      length-append front (rows_from (slot + rows_in x) xs),
    )

-- a record that may be taken follows the last one
follows_last : (o : Option Stored) (part : Stored) (next last : ℕ) → EndsAt o next last → position_of part ≡ next → last ≤ txid_of part → Follows o part
follows_last None part next last ends p t = tt
follows_last (Some r) part next last ends p t = record { position = p ∙ sym ends.0; txid = omega (arith, ends.1, t) }

-- a record that may be taken, and for which there is room, may follow what was built
pub may_follow : (d : DraftFacts) (part : Stored) (rows : List Pending) → IsDraft d → MayTake d.next d.last part rows → HasRoom d.parts part
    → MayFollow d.parts part
may_follow d part rows is may room = record {
  is = may.is;
  follows = follows_last (last_of d.parts) part d.next d.last is.ends may.position may.order;
  room = omega (arith, room, length-parts d.parts);
}

-- an entry without a record fits together
pub draft_empty : (next last : ℕ) → IsDraft (empty_draft next last)
draft_empty next last = record { ends = tt; rows = refl; some = refl }

-- an entry with one record more fits together
pub draft_more : (d : DraftFacts) (part : Stored) (rows : List Pending) → IsDraft d → MayTake d.next d.last part rows → IsDraft (with_part d part rows)
draft_more d part rows is may = record {
  ends = subst (λ o. EndsAt o (d.next + length rows) (txid_of part)) (sym (last_of-push d.parts part))
      (omega (arith, may.position, may.rows_are), omega arith);
  rows = omega (arith, length-rows_from-push 0 d.parts part, is.rows, may.rows_are, length-append d.pending rows);
  some = lt-ltb 0 (length (d.parts ++ part ∷ [])) (omega (arith, length-append d.parts (part ∷ [])))
      ∙ sym (lt-ltb 0 (length (d.pending ++ rows)) (omega (arith, length-append d.pending rows, may.some)));
}

-- there is room for any record in an entry without one
pub room_empty : (part : Stored) → length (payload_bytes part) ≤ PAYLOAD_MAX → HasRoom [] part
room_empty part short = omega (arith, short)

-- an entry for which a record is too long has a row
pub stuck_some : (d : DraftFacts) (size : ℕ) → IsDraft d → size ≤ PAYLOAD_MAX → fits_parts d.parts size ≡ false → 0 < length d.pending
stuck_some d size is short stuck = go d.parts is.some stuck
  where
    go : (parts : List Stored) → ltb 0 (length parts) ≡ ltb 0 (length d.pending) → fits_parts parts size ≡ false → 0 < length d.pending
    go [] e f = absurd (true≢false (sym (le-leb (8 + 0 + 20 + size) ENTRY_MAX (omega (arith, short))) ∙ f))
    go (x ∷ xs) e f = ltb-true 0 (length d.pending) (sym e ∙ lt-ltb 0 (length (x ∷ xs)) (omega arith))

-- an entry that has the same fits together
pub draft_same : (d : DraftFacts) (parts : List Stored) (pending : List Pending) (next last : ℕ) → IsDraft d → parts ≡ d.parts → pending ≡ d.pending
    → next ≡ d.next → last ≡ d.last → IsDraft (record { parts = parts; pending = pending; next = next; last = last })
draft_same d parts pending next last is p r n l =
    subst (λ (x : List Stored). IsDraft (record { parts = x; pending = pending; next = next; last = last })) (sym p)
    (subst (λ (x : List Pending). IsDraft (record { parts = d.parts; pending = x; next = next; last = last })) (sym r)
    (subst (λ (x : ℕ). IsDraft (record { parts = d.parts; pending = d.pending; next = x; last = last })) (sym n)
    (subst (λ (x : ℕ). IsDraft (record { parts = d.parts; pending = d.pending; next = d.next; last = x })) (sym l) is)))

-- ---- records and their rows

-- a set has as many rows as payloads
pub length-pending_from : (o : Origin) (txid : ℕ) (ps : List (List ℕ)) → length (pending_from o txid ps) ≡ length ps
length-pending_from o txid [] = refl
length-pending_from o txid (p ∷ ps) = ap suc (length-pending_from (record o { call = o.call + 1 }) txid ps)

-- one payload more is the record of one call more
pub pending_from-push : (o : Origin) (txid : ℕ) (ps : List (List ℕ)) (p : List ℕ) → pending_from o txid (ps ++ p ∷ [])
    ≡ pending_from o txid ps ++ record { origin = record o { call = o.call + length ps }; txid = txid; payload = p } ∷ []
pending_from-push o txid [] p = ap (λ (n : ℕ). record { origin = record o { call = n }; txid = txid; payload = p } ∷ []) (sym (add-zero o.call))
pending_from-push o txid (q ∷ ps) p =
    ap (λ (l : List Pending). record { origin = o; txid = txid; payload = q } ∷ l) (
    pending_from-push (record o { call = o.call + 1 }) txid ps p
    ∙ ap (λ (n : ℕ). pending_from (record o { call = o.call + 1 }) txid ps
    ++ record { origin = record o { call = n }; txid = txid; payload = p } ∷ []) (omega arith)
    )

-- one record more stands in the next slot
pub rows_at-push : (segment entry slot : ℕ) (ps : List Pending) (p : Pending)
    → rows_at segment entry slot (ps ++ p ∷ []) ≡ rows_at segment entry slot ps ++ row_at (place segment entry (slot + length ps)) p ∷ []
rows_at-push segment entry slot [] p = ap (λ (n : ℕ). row_at (place segment entry n) p ∷ []) (sym (add-zero slot))
rows_at-push segment entry slot (q ∷ ps) p =
    ap (λ (l : List Row). row_at (place segment entry slot) q ∷ l) (
    rows_at-push segment entry (suc slot) ps p
    ∙ ap (λ (n : ℕ). rows_at segment entry (suc slot) ps ++ row_at (place segment entry n) p ∷ []) (omega arith)
    )

-- the rows of one record more of a list
pub rows_more : (segment entry : ℕ) (ps : List Pending) (i : ℕ) (p : Pending) → i < length ps → p ≡ get_or ps i p
    → rows_at segment entry 0 (take (i + 1) ps) ≡ rows_at segment entry 0 (take i ps) ++ row_at (place segment entry i) p ∷ []
rows_more segment entry ps i p lt is =
    ap (rows_at segment entry 0) (take_more ps i p lt) ∙ ap (λ (q : Pending). rows_at segment entry 0 (take i ps ++ q ∷ [])) (sym is)
    ∙ rows_at-push segment entry 0 (take i ps) p
    ∙ ap (λ (n : ℕ). rows_at segment entry 0 (take i ps) ++ row_at (place segment entry n) p ∷ []) (omega (arith, length-take-le i ps (omega arith)))

-- the records of one payload more of a list
pub pending_more : (o : Origin) (txid : ℕ) (ps : List (List ℕ)) (i : ℕ) (p : List ℕ) → i < length ps → p ≡ get_or ps i p
    → pending_from o txid (take (i + 1) ps) ≡ pending_from o txid (take i ps) ++ pending_of (record o { call = o.call + i }) txid p ∷ []
pending_more o txid ps i p lt is =
    ap (pending_from o txid) (take_more ps i p lt) ∙ ap (λ (q : List ℕ). pending_from o txid (take i ps ++ q ∷ [])) (sym is)
    ∙ pending_from-push o txid (take i ps) p
    ∙ ap (λ (n : ℕ). pending_from o txid (take i ps) ++ pending_of (record o { call = o.call + n }) txid p ∷ [])
    (length-take-le i ps (omega arith))

-- the items of one list more
pub flat_more : (xss : List (List (Origin × Dlsn))) (i : ℕ) (xs : List (Origin × Dlsn)) → i < length xss → xs ≡ get_or xss i xs
    → flat_map (λ x. x) (take (i + 1) xss) ≡ flat_map (λ x. x) (take i xss) ++ xs
flat_more xss i xs lt is =
    ap (flat_map (λ x. x)) (take_more xss i xs lt) ∙ ap (λ (ys : List (Origin × Dlsn)). flat_map (λ x. x) (take i xss ++ ys ∷ [])) (sym is)
    ∙ flat_map-append (λ x. x) (take i xss) (xs ∷ []) ∙ ap (λ (ys : List (Origin × Dlsn)). flat_map (λ x. x) (take i xss) ++ ys) (append-nil xs)

-- the length of one member more of a set
pub members_more : (ps : List (List ℕ)) (i : ℕ) (p : List ℕ) → i < length ps → p ≡ get_or ps i p
    → sum_by (λ payload. 4 + length payload) (take (i + 1) ps) ≡ sum_by (λ payload. 4 + length payload) (take i ps) + (4 + length p)
members_more ps i p lt is =
    sum_by_more (λ payload. 4 + length payload) ps i p lt
    ∙ ap (λ (q : List ℕ). sum_by (λ payload. 4 + length payload) (take i ps) + (4 + length q)) (sym is)

-- a set is no longer than its payloads and four bytes for each
pub set_size-few : (ps : List (List ℕ)) → sum_by (λ payload. 4 + length payload) ps ≡ 4 * length ps + sum_by (λ payload. length payload) ps
set_size-few [] = refl
set_size-few (p ∷ ps) =
    omega (arith, set_size-few ps, sum_by-cons (λ payload. 4 + length payload) p ps, sum_by-cons (λ (payload : List ℕ). length payload) p ps)

-- what stands before a member and the member are no longer than all
pub members_few : (ps : List (List ℕ)) (i : ℕ) (p : List ℕ) → i < length ps → p ≡ get_or ps i p
    → sum_by (λ payload. 4 + length payload) (take i ps) + (4 + length p) ≤ 4 * length ps + sum_by (λ payload. length payload) ps
members_few ps i p lt is =
    omega (
      arith,
      members_more ps i p lt is,
      sum_by-take-le (λ payload. 4 + length payload) ps (i + 1),
      set_size-few ps,
    )

-- a plain record may be taken with its row
pub plain_may : (next last : ℕ) (o : Origin) (txid : ℕ) (payload : List ℕ) → last ≤ txid → txid ≤ MAX_TXID → length payload ≤ PAYLOAD_MAX
    → next + 1 < 2 ^ 32 → MayTake next last (Plain next txid payload) (pending_from o txid (payload ∷ []))
plain_may next last o txid payload order bound short few = record {
  is = record { position = omega arith; txid = bound; payload = short; members = tt };
  users = tt;
  position = refl;
  order = order;
  rows_are = refl;
  some = omega arith;
  few = few;
}

-- a set may be taken with its rows
pub set_may : (next last : ℕ) (o : Origin) (txid : ℕ) (ps : List (List ℕ)) → last ≤ txid → txid ≤ MAX_TXID → length (set_bytes ps) ≤ PAYLOAD_MAX
    → 1 ≤ length ps → length ps ≤ MEMBERS_MAX → next + length ps < 2 ^ 32 → MayTake next last (Set next txid ps) (pending_from o txid ps)
set_may next last o txid ps order bound short some most few = record {
  is = record { position = omega arith; txid = bound; payload = short; members = (some, most) };
  users = tt;
  position = refl;
  order = order;
  rows_are = length-pending_from o txid ps;
  some = omega (arith, length-pending_from o txid ps, some);
  few = omega (arith, length-pending_from o txid ps, few);
}
