-- Record sets: what is read is spelt so, and what is spelt so is read.
use Rattle.std.proofs.Common.{◌≡◌, ℕ, zero, suc, ◌-◌, ◌+◌, ◌≤◌, ◌<◌, ◌^◌, Bool, true, false, cond, eqb, leb, ◌&&◌, List, [], ◌∷◌}
use Rattle.std.proofs.Common.{◌++◌, length, drop, Result, Ok, Err, refl, sym, ap, subst, ◌∙◌, append_assoc, arith, length-append}
use Rattle.std.specs.Prelude.{slice_range}
use Rattle.std.specs.List.{flat_map}
use Rattle.std.specs.Int.{w8, w16, w32}
use Rattle.std.proofs.lemmas.Bool.{eqb-true, eq-eqb}
use Rattle.std.proofs.lemmas.Bool.Decides.{nat_tests}
use Rattle.std.proofs.lemmas.List.{drop_all, length-drop}
use Rattle.dl_codec.specs.Fields.{field, IsBytes}
use Rattle.dl_codec.proofs.FieldLaws.{width_8, width_16, width_32}
use Rattle.dl_record.specs.declared.limits.TheConstants.{PAYLOAD_MAX, MEMBERS_MAX}
use Rattle.dl_record.specs.declared.entry_flaw.EntryFlaw.{EntryFlaw}
use Rattle.dl_record.specs.declared.entry_flaw.EntryFlaw.TheVariants.{BadFlags, Compressed, BadCount, Long}
use Rattle.dl_record.specs.Grammar.{member_bytes, set_bytes}
use Rattle.dl_record.specs.Reading.{◌>>=◌, field_at, end_at, codec_at, zero_at, members_count_at, set_count_at, member_end_at, members_at, set_at}
use Rattle.dl_record.proofs.MemberSizes.{length-member_bytes, length-set_bytes}
use Rattle.dl_record.proofs.Steps.{bind_ok, ok_is, checked_ok, field_found, field_again, part_found, part_again, end_found, end_again}

-- ---- one member

-- A member stands between two places.
pub record Member (bytes : List ℕ) (at end : ℕ) : Type 0 where
  pub room : end ≤ length bytes
  pub stands : drop at bytes ≡ member_bytes (slice_range bytes (at + 4) end) ++ drop end bytes

-- Bytes from which a member was read stand for it.
member_found : (bytes : List ℕ) (at end : ℕ) → IsBytes bytes → member_end_at bytes at ≡ Ok end → Member bytes at end
unfolding member_end_at
member_found bytes at end fits e =
    let u = bind_ok (field_at w32 bytes at) (λ size. end_at bytes (at + 4) size) end e in
    let size = u.0 in
    let f = field_found w32 width_32 bytes at (at + 4) size fits refl u.1 in
    let g = end_found bytes (at + 4) size end u.2 in
    let p = part_found bytes (at + 4) end (omega (arith, g.0)) g.1 in
    let payload = slice_range bytes (at + 4) end in
    let len : size ≡ length payload = omega (arith, p.len, g.0) in
    record {
      room = g.1;
      stands = f.stands ∙ ap (λ (l : List ℕ). field w32 size ++ l) p.stands ∙ sym (append_assoc (field w32 size) payload (drop end bytes))
          ∙ ap (λ (k : ℕ). (field w32 k ++ payload) ++ drop end bytes) len;
    }

-- The member at a place is read, and the rest stands behind it.
pub record MemberReads (bytes : List ℕ) (at : ℕ) (payload rest : List ℕ) : Type 0 where
  pub reads : member_end_at bytes at ≡ Ok (at + 4 + length payload)
  pub is : slice_range bytes (at + 4) (at + 4 + length payload) ≡ payload
  pub behind : drop (at + 4 + length payload) bytes ≡ rest
  pub room : at + 4 + length payload ≤ length bytes

-- From the spelling of a member its end is read.
pub member_again : (bytes : List ℕ) (at : ℕ) (payload rest : List ℕ) → length payload < 2 ^ 32 → drop at bytes ≡ member_bytes payload ++ rest
    → MemberReads bytes at payload rest
unfolding member_end_at
member_again bytes at payload rest fits e =
    let size = length payload in
    let f = field_again w32 width_32 (omega arith) bytes at (at + 4) size (payload ++ rest) refl fits (e ∙ append_assoc (field w32 size) payload rest) in
    let p = part_again bytes (at + 4) (at + 4 + size) payload rest refl f.behind in
    let long : length bytes - (at + 4) ≡ size + length rest = sym (length-drop (at + 4) bytes) ∙ ap length f.behind ∙ length-append payload rest in
    let room : at + 4 + size ≤ length bytes = omega (arith, f.room, long) in
    record { reads = rw (f.reads) (end_again bytes (at + 4) size room); is = p.reads; behind = p.behind; room = room }

-- ---- the members

-- whether the bytes end at a place
pub ends_there : {A : Type 0} (at : ℕ) (bytes : List ℕ) (x y : A)
    → (let r : Result A EntryFlaw = cond (eqb at (length bytes)) (Ok x) (Err (Long at)) in r) ≡ Ok y → (at ≡ length bytes) × (x ≡ y)
ends_there {A} at bytes x y = go (eqb at (length bytes)) refl
  where
    go : (t : Bool) → eqb at (length bytes) ≡ t → (let r : Result A EntryFlaw = cond t (Ok x) (Err (Long at)) in r) ≡ Ok y → (at ≡ length bytes) × (x ≡ y)
    go true is e = (eqb-true at (length bytes) is, cc)
    go false is e = absurd cc

-- So many members stand from a place on.
pub record MembersFound (n : ℕ) (bytes : List ℕ) (at : ℕ) (ps : List (List ℕ)) : Type 0 where
  pub stands : drop at bytes ≡ flat_map member_bytes ps
  pub count : length ps ≡ n

-- Bytes from which members were read are their spelling.
members_found : (n : ℕ) (bytes : List ℕ) (at : ℕ) (ps : List (List ℕ)) → IsBytes bytes → members_at n bytes at ≡ Ok ps → MembersFound n bytes at ps
unfolding members_at
members_found zero bytes at ps fits e =
    let g = ends_there at bytes [] ps e in
    subst (MembersFound zero bytes at) g.1 (record { stands = drop_all at bytes (omega (arith, g.0)); count = refl })
members_found (suc n) bytes at ps fits e =
    let u = bind_ok (member_end_at bytes at) (λ end. members_at n bytes end >>= λ others. Ok (slice_range bytes (at + 4) end ∷ others)) ps e in
    let end = u.0 in
    let payload = slice_range bytes (at + 4) end in
    let v = bind_ok (members_at n bytes end) (λ others. Ok (payload ∷ others)) ps u.2 in
    let one = member_found bytes at end fits u.1 in
    let more = members_found n bytes end v.0 fits v.1 in
    subst (MembersFound (suc n) bytes at) (ok_is (payload ∷ v.0) ps v.2) (record {
      stands = one.stands ∙ ap (λ (l : List ℕ). member_bytes payload ++ l) more.stands;
      count = ap suc more.count;
    })

-- From the spelling of members those members are read.
members_again : (ps : List (List ℕ)) (bytes : List ℕ) (at : ℕ) → length (flat_map member_bytes ps) < 2 ^ 32 → at ≤ length bytes
    → drop at bytes ≡ flat_map member_bytes ps → members_at (length ps) bytes at ≡ Ok ps
unfolding members_at
members_again [] bytes at fits room e =
    let end : at ≡ length bytes = omega (arith, room, sym (length-drop at bytes) ∙ ap length e) in
    rw (eq-eqb at (length bytes) end) refl
members_again (p ∷ ps) bytes at fits room e =
    let sizes = length-append (member_bytes p) (flat_map member_bytes ps) in
    let one = member_again bytes at p (flat_map member_bytes ps) (omega (arith, fits, sizes, length-member_bytes p)) e in
    let more = members_again ps bytes (at + 4 + length p) (omega (arith, fits, sizes)) one.room one.behind in
    rw (one.reads, more, one.is) refl

-- ---- the set

-- A set with these members stands from a place on.
pub record SetFound (bytes : List ℕ) (at : ℕ) (ps : List (List ℕ)) : Type 0 where
  pub stands : drop at bytes ≡ set_bytes ps
  pub some : 1 ≤ length ps
  pub most : length ps ≤ MEMBERS_MAX

-- Bytes from which a set was read are its spelling, and it has as many members as a set may have.
pub set_found : (bytes : List ℕ) (at : ℕ) (ps : List (List ℕ)) → IsBytes bytes → set_at bytes at ≡ Ok ps → SetFound bytes at ps
unfolding set_at set_count_at codec_at zero_at members_count_at set_bytes
set_found bytes at ps fits e =
    let h = bind_ok (set_count_at bytes at) (λ count. members_at count bytes (at + 4)) ps e in
    let a = bind_ok (codec_at bytes at) (λ codec. zero_at bytes (at + 1) >>= λ zero. members_count_at bytes (at + 2)) h.0 h.1 in
    let b = bind_ok (zero_at bytes (at + 1)) (λ zero. members_count_at bytes (at + 2)) h.0 a.2 in
    let d = b.2 in
    let a' = checked_ok (field_at w8 bytes at) (λ n. eqb n 0) (Compressed at) a.0 a.1 in
    let b' = checked_ok (field_at w8 bytes (at + 1)) (λ n. eqb n 0) (BadFlags (at + 1)) b.0 b.1 in
    let d' = checked_ok (field_at w16 bytes (at + 2)) (λ n. leb 1 n && leb n MEMBERS_MAX) (BadCount (at + 2)) h.0 d in
    let fa = field_found w8 width_8 bytes at (at + 1) a.0 fits refl a'.0 in
    let fb = field_found w8 width_8 bytes (at + 1) (at + 2) b.0 fits (omega arith) b'.0 in
    let fd = field_found w16 width_16 bytes (at + 2) (at + 4) h.0 fits (omega arith) d'.0 in
    let za : a.0 ≡ 0 = eqb-true a.0 0 a'.1 in
    let zb : b.0 ≡ 0 = eqb-true b.0 0 b'.1 in
    let m = members_found h.0 bytes (at + 4) ps fits h.2 in
    let count : h.0 ≡ length ps = sym m.count in
    let passes = d'.1 in
    record {
      stands = fa.stands ∙ ap (λ (k : ℕ). field w8 k ++ drop (at + 1) bytes) za
          ∙ ap (λ (l : List ℕ). field w8 0 ++ l) (fb.stands ∙ ap (λ (k : ℕ). field w8 k ++ drop (at + 2) bytes) zb
          ∙ ap (λ (l : List ℕ). field w8 0 ++ l)
          (fd.stands ∙ ap (λ (k : ℕ). field w16 k ++ drop (at + 4) bytes) count ∙ ap (λ (l : List ℕ). field w16 (length ps) ++ l) m.stands));
      some = grind (arith, nat_tests, passes, count);
      most = grind (arith, nat_tests, passes, count);
    }

-- From the spelling of a set its members are read.
pub set_again : (bytes : List ℕ) (at : ℕ) (ps : List (List ℕ)) → 1 ≤ length ps → length ps ≤ MEMBERS_MAX → length (set_bytes ps) ≤ PAYLOAD_MAX
    → drop at bytes ≡ set_bytes ps → set_at bytes at ≡ Ok ps
unfolding set_at set_count_at codec_at zero_at members_count_at set_bytes
set_again bytes at ps some most size e =
    let members = flat_map member_bytes ps in
    let fa = field_again w8 width_8 (omega arith) bytes at (at + 1) 0 (field w8 0 ++ (field w16 (length ps) ++ members)) refl (omega arith) e in
    let fb = field_again w8 width_8 (omega arith) bytes (at + 1) (at + 2) 0 (field w16 (length ps) ++ members) (omega arith) (omega arith) fa.behind in
    let fd = field_again w16 width_16 (omega arith) bytes (at + 2) (at + 4) (length ps) members (omega arith) (omega arith) fb.behind in
    let passes : (leb 1 (length ps) && leb (length ps) MEMBERS_MAX) ≡ true = grind (arith, nat_tests) in
    let short : length members < 2 ^ 32 = omega (arith, size, length-set_bytes ps) in
    rw (fa.reads, fb.reads, fd.reads, passes) (members_again ps bytes (at + 4) short fd.room fd.behind)
