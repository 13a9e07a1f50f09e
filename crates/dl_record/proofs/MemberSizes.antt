-- How long record sets are, member by member.
use Rattle.std.proofs.Common.{◌≡◌, ℕ, zero, suc, ◌+◌, ◌≤◌, ◌<◌, List, [], ◌∷◌, ◌++◌, length, drop, get_or, sym, ap, ◌∙◌, arith, length-append}
use Rattle.std.specs.List.{flat_map}
use Rattle.std.specs.Int.{w8, w16, w32}
use Rattle.std.proofs.lemmas.List.{drop_more}
use Rattle.dl_codec.specs.Fields.{field}
use Rattle.dl_codec.proofs.FieldLaws.{width_8, width_16, width_32}
use Rattle.dl_record.specs.Grammar.{member_bytes, set_bytes}

-- A member has its bytes and four for their length.
pub length-member_bytes : (p : List ℕ) → length (member_bytes p) ≡ 4 + length p
length-member_bytes p = omega (arith, length-append (field w32 (length p)) p, width_32.len (length p))

-- A set has the bytes of its members and four before them.
pub length-set_bytes : (ps : List (List ℕ)) → length (set_bytes ps) ≡ 4 + length (flat_map member_bytes ps)
unfolding set_bytes
length-set_bytes ps =
    let tail = field w16 (length ps) ++ flat_map member_bytes ps in
    omega (
      arith,
      length-append (field w8 0) (field w8 0 ++ tail),
      length-append (field w8 0) tail,
      length-append (field w16 (length ps))
          (flat_map member_bytes ps),
      width_8.len 0,
      width_16.len (length ps),
    )

-- the members from a place on are one member and the members behind it
pub members_more : (ps : List (List ℕ)) (i : ℕ) (p : List ℕ) → i < length ps → p ≡ get_or ps i p
    → flat_map member_bytes (drop i ps) ≡ member_bytes p ++ flat_map member_bytes (drop (i + 1) ps)
members_more ps i p lt is =
    ap (flat_map member_bytes) (drop_more ps i p lt) ∙ ap (λ (q : List ℕ). member_bytes q ++ flat_map member_bytes (drop (i + 1) ps)) (sym is)

-- Members from a place on are one member and those behind it.
pub size_more : (ps : List (List ℕ)) (i : ℕ) (p : List ℕ) → i < length ps → p ≡ get_or ps i p
    → length (flat_map member_bytes (drop i ps)) ≡ 4 + length p + length (flat_map member_bytes (drop (i + 1) ps))
size_more ps i p lt is =
    let e = ap length (members_more ps i p lt is) in
    omega (arith, e, length-append (member_bytes p) (flat_map member_bytes (drop (i + 1) ps)), length-member_bytes p)

-- Members from a place on have at most the bytes of them all.
length-drop_le : (n : ℕ) (ps : List (List ℕ)) → length (flat_map member_bytes (drop n ps)) ≤ length (flat_map member_bytes ps)
length-drop_le zero ps = omega arith
length-drop_le (suc n) [] = omega arith
length-drop_le (suc n) (p ∷ ps) = omega (arith, length-drop_le n ps, length-append (member_bytes p) (flat_map member_bytes ps))

-- no member is longer than all of them
pub member_le : (ps : List (List ℕ)) (i : ℕ) (p : List ℕ) → i < length ps → p ≡ get_or ps i p → length p ≤ length (flat_map member_bytes ps)
member_le ps i p lt is = omega (arith, size_more ps i p lt is, length-drop_le i ps)
