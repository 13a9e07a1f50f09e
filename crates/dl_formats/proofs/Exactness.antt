-- The fields of each kind of node are read exactly.
use Rattle.std.proofs.Common.{◌≡◌, ℕ, ◌<◌, ◌^◌, ◌==◌, Bool, true, false, cond, List, ◌++◌, Option, Some}
use Rattle.std.proofs.Common.{None, Ok, Err, refl, sym, ap, ◌∙◌, subst, arith, lit<, lit≤, eqb-true}
use mathlib.Core.HLevel.{Σ_prop_path}
use Rattle.std.proofs.Math.Bridge.{le_prop}
use Rattle.std.specs.Int.{w8, w64}
use Rattle.std.proofs.lemmas.Bool.Decides.{nat_tests}
use Rattle.dl_types.specs.Quorums.{IsQuorum}
use Rattle.dl_codec.specs.Fields.{field, IsBytes}
use Rattle.dl_fields.specs.Readers.{Exact}
use Rattle.dl_fields.specs.Fields.{Fits}
use Rattle.dl_fields.proofs.ReaderLemmas.{then_exact, made_exact}
use Rattle.dl_fields.proofs.FieldLemmas.{u32_exact, u64_exact}
use Rattle.dl_formats.specs.declared.fault.MetaBytesFault.{MetaBytesFault}
use Rattle.dl_formats.specs.declared.ledger.LedgerMeta.{LedgerMeta}
use Rattle.dl_formats.specs.declared.ledger.LedgerFields.{LedgerFields}
use Rattle.dl_formats.specs.declared.ledger.LedgerState.{LedgerState}
use Rattle.dl_formats.specs.declared.ledger.LedgerState.TheVariants.{Writing, Recovering, Closed}
use Rattle.dl_formats.specs.declared.segment.SegmentMeta.{SegmentMeta}
use Rattle.dl_formats.specs.declared.segment.SegmentMeta.TheVariants.{InProgress, Completed}
use Rattle.dl_formats.specs.NodeBytes.{IsBetween, ledger_bytes, ten_nines, max_u64, conf_fields, IsConf, state_code, most_count, ledger_fields}
use Rattle.dl_formats.specs.NodeBytes.{IsLedgerFields, fields_of, IsLedgerMeta, segment_kind, segment_rest, segment_fields, IsSegmentMeta}
use Rattle.dl_formats.specs.NodeBytes.{maxseq_fields, IsMaxSeq, cut_fields, IsCut, alloc_fields, alloc_fields_of, IsAllocated, IsAlloc}
use Rattle.dl_types.specs.declared.txid.TheConstants.{MAX_TXID}
use Rattle.dl_formats.specs.Reading.{ledger_at, SpellsNone, conf_of, conf_from, state_of, state_from, ledger_of, ledger_from, in_progress_from}
use Rattle.dl_formats.specs.Reading.{completed_from, kind_from, segment_from, maxseq_of, maxseq_from, cut_of, cut_from, most_ledger, alloc_of, alloc_from}
use Rattle.dl_formats.proofs.DecodeLemmas.{byte_exact, long_exact, node_found, node_again}

-- the configuration

-- Configurations are read exactly.
pub conf_exact : Exact IsConf conf_fields conf_from
conf_exact = made_exact _ _ _ conf_of IsConf conf_fields
    (then_exact _ _ _ _ _ _ (byte_exact 1 16 (lit< tt)) (λ b v. then_exact _ _ _ _ _ _ (byte_exact 1 b (omega (arith, v.most)))
    (λ e w. then_exact _ _ _ _ _ _ (byte_exact 1 e (omega (arith, v.most, w.most))) (λ qw u. byte_exact 1 qw (omega (arith, v.most, w.most, u.most))))))
    (λ x v. (v, refl)) (λ c w. ((c.b, (c.e, (c.qw, c.qa))), w, refl))

-- ledgers

-- The state of a byte from 1 to 3 has that byte.
code_of_state : (n : ℕ) → IsBetween 1 3 n → state_code (state_of n) ≡ n
code_of_state n h = go (n == 1) (n == 2) refl refl
  where
    go : (t u : Bool) → (n == 1) ≡ t → (n == 2) ≡ u → state_code (cond t Writing (cond u Recovering Closed)) ≡ n
    go true u p q = sym (eqb-true n 1 p)
    go false true p q = sym (eqb-true n 2 q)
    go false false p q = grind (arith, nat_tests)

-- States are read exactly.
state_exact : Exact (λ (s : LedgerState). Unit {0}) (λ s. field w8 (state_code s)) state_from
state_exact = made_exact _ _ _ state_of (λ (s : LedgerState). Unit {0}) (λ s. field w8 (state_code s)) (byte_exact 1 3 (lit< tt))
    (λ n v. (tt, ap (field w8) (code_of_state n v))) from
  where
    from : (s : LedgerState) → Unit {0} → (n : ℕ) × IsBetween 1 3 n × (state_of n ≡ s)
    from Writing u = (1, record { least = lit≤ tt; most = lit≤ tt }, refl)
    from Recovering u = (2, record { least = lit≤ tt; most = lit≤ tt }, refl)
    from Closed u = (3, record { least = lit≤ tt; most = lit≤ tt }, refl)

-- The greatest count of a ledger fits 64 bits.
count_fits : (s : LedgerState) → most_count s < 256 ^ 8
count_fits Writing = lit< tt
count_fits Recovering = lit< tt
count_fits Closed = lit< tt

-- A ledger's fields are read exactly.
pub ledger_exact : Exact IsLedgerFields ledger_fields ledger_from
ledger_exact = made_exact _ _ _ ledger_of IsLedgerFields ledger_fields
    (then_exact _ _ _ _ _ _ state_exact
    (λ s z. then_exact _ _ _ _ _ _ (byte_exact 1 16 (lit< tt)) (λ e v. then_exact _ _ _ _ _ _ (byte_exact 1 e (omega (arith, v.most)))
    (λ qw w. then_exact _ _ _ _ _ _ (byte_exact 1 qw (omega (arith, v.most, w.most))) (λ qa u. long_exact 0 (most_count s) (count_fits s))))))
    (λ x v. (v.1, refl)) (λ l w. ((l.state, (l.e, (l.qw, (l.qa, l.count)))), (tt, w), refl))

-- segments

-- a segment of this kind that has a spelling
abbrev IsKind : ℕ → SegmentMeta → Type 0
IsKind kind m = IsSegmentMeta m × (segment_kind m ≡ kind)

-- Segments in progress are read exactly behind their kind.
in_progress_exact : Exact (IsKind 1) segment_rest in_progress_from
in_progress_exact = made_exact _ _ _ (λ x. InProgress x.0 x.1) (IsKind 1) segment_rest
    (then_exact _ _ _ _ _ _ (long_exact 1 ten_nines (lit< tt)) (λ s v. long_exact 0 ten_nines (lit< tt)))
    (λ x v. ((v, refl), refl)) from
  where
    from : (m : SegmentMeta) → IsKind 1 m → (x : ℕ × ℕ) × (IsBetween 1 ten_nines x.0 × IsBetween 0 ten_nines x.1) × (InProgress x.0 x.1 ≡ m)
    from (InProgress s l) w = ((s, l), w.0, refl)
    from (Completed s l e r t) w = absurd (omega (arith, w.1))

-- Completed segments are read exactly behind their kind.
completed_exact : Exact (IsKind 2) segment_rest completed_from
completed_exact = made_exact _ _ _ (λ x. Completed x.0 x.1.0 x.1.1.0 x.1.1.1.0 x.1.1.1.1) (IsKind 2) segment_rest
    (then_exact _ _ _ _ _ _ (long_exact 1 ten_nines (lit< tt)) (λ s v. then_exact _ _ _ _ _ _ (long_exact 0 ten_nines (lit< tt))
    (λ l w. then_exact _ _ _ _ _ _ u64_exact (λ e u. then_exact _ _ _ _ _ _ u64_exact (λ r t. long_exact 0 MAX_TXID (lit< tt))))))
    (λ x v. ((v, refl), refl)) from
  where
    from : (m : SegmentMeta) → IsKind 2 m
        → (x : ℕ × (ℕ × (ℕ × (ℕ × ℕ))))
        × (IsBetween 1 ten_nines x.0 × (IsBetween 0 ten_nines x.1.0 × (Fits w64 x.1.1.0 × (Fits w64 x.1.1.1.0 × IsBetween 0 MAX_TXID x.1.1.1.1))))
        × (Completed x.0 x.1.0 x.1.1.0 x.1.1.1.0 x.1.1.1.1 ≡ m)
    from (InProgress s l) w = absurd (omega (arith, w.1))
    from (Completed s l e r t) w = ((s, (l, (e, (r, t)))), w.0, refl)

-- Segments of a kind are read exactly behind it.
kind_exact : (kind : ℕ) → IsBetween 1 2 kind → Exact (IsKind kind) segment_rest (kind_from kind)
kind_exact kind h = go (kind == 1) refl
  where
    go : (t : Bool) → (kind == 1) ≡ t → Exact (IsKind kind) segment_rest (λ bytes. cond t (in_progress_from bytes) (completed_from bytes))
    go true p = let one : 1 ≡ kind = sym (eqb-true kind 1 p) in subst (λ (k : ℕ). Exact (IsKind k) segment_rest in_progress_from) one in_progress_exact
    go false p = let two : 2 ≡ kind = grind (arith, nat_tests) in subst (λ (k : ℕ). Exact (IsKind k) segment_rest completed_from) two completed_exact

-- The kind of a segment is 1 or 2.
kind_is : (m : SegmentMeta) → IsBetween 1 2 (segment_kind m)
kind_is (InProgress s l) = record { least = lit≤ tt; most = lit≤ tt }
kind_is (Completed s l e r t) = record { least = lit≤ tt; most = lit≤ tt }

-- Segments are read exactly.
pub segment_exact : Exact IsSegmentMeta segment_fields segment_from
segment_exact = made_exact _ _ _ (λ x. x.1) IsSegmentMeta segment_fields
    (then_exact _ _ _ IsKind (λ kind. segment_rest) kind_from (byte_exact 1 2 (lit< tt)) kind_exact)
    (λ x v. (v.1.0, ap (λ (n : ℕ). field w8 n ++ segment_rest x.1) v.1.1))
    (λ m w. ((segment_kind m, m), (kind_is m, (w, refl)), refl))

-- the greatest segment

-- Greatest segments are read exactly.
pub maxseq_exact : Exact IsMaxSeq maxseq_fields maxseq_from
maxseq_exact = made_exact _ _ _ maxseq_of IsMaxSeq maxseq_fields
    (then_exact _ _ _ _ _ _ (long_exact 0 ten_nines (lit< tt)) (λ s v. long_exact 0 MAX_TXID (lit< tt)))
    (λ x v. (v, refl)) (λ m w. ((m.segment, m.last), w, refl))

-- cuts

-- Cuts are read exactly.
pub cut_exact : Exact IsCut cut_fields cut_from
cut_exact = made_exact _ _ _ cut_of IsCut cut_fields
    (then_exact _ _ _ _ _ _ (long_exact 1 max_u64 (lit< tt)) (λ s v. then_exact _ _ _ _ _ _ u64_exact (λ e w. u32_exact)))
    (λ x v. (v, refl)) (λ c w. ((c.point.segment, (c.point.entry, c.point.slot)), w, refl))

-- allocated ledgers

-- The greatest ledger behind a flag fits 64 bits.
most_ledger_fits : (flag : ℕ) → most_ledger flag < 256 ^ 8
most_ledger_fits flag = go (flag == 0)
  where
    go : (t : Bool) → cond t 0 ten_nines < 256 ^ 8
    go true = lit< tt
    go false = lit< tt

-- The allocation that a flag and a number make is valid, and spelt by the two.
alloc_is : (flag ledger : ℕ) → IsBetween 0 1 flag → IsBetween 0 (most_ledger flag) ledger
    → IsAlloc (alloc_of (flag, ledger)) × (alloc_fields (alloc_of (flag, ledger)) ≡ field w8 flag ++ field w64 ledger)
alloc_is flag ledger f l = go (flag == 0) refl l
  where
    go : (t : Bool) → (flag == 0) ≡ t → IsBetween 0 (cond t 0 ten_nines) ledger
        → IsAllocated (cond t None (Some ledger)) × (alloc_fields_of (cond t None (Some ledger)) ≡ field w8 flag ++ field w64 ledger)
    go true p h =
        let zero_flag : 0 ≡ flag = sym (eqb-true flag 0 p) in
        let zero_ledger : 0 ≡ ledger = omega (arith, h.most) in
        (tt, ap (λ (n : ℕ). field w8 n ++ field w64 0) zero_flag ∙ ap (λ (n : ℕ). field w8 flag ++ field w64 n) zero_ledger)
    go false p h = let one : 1 ≡ flag = grind (arith, nat_tests, f.most) in (h, ap (λ (n : ℕ). field w8 n ++ field w64 ledger) one)

-- Each valid allocation is made by a flag and a number.
alloc_from_option : (o : Option ℕ) → IsAllocated o
    → (x : ℕ × ℕ) × (IsBetween 0 1 x.0 × IsBetween 0 (most_ledger x.0) x.1) × (alloc_of x ≡ record { ledger = o })
alloc_from_option None w = ((0, 0), (record { least = lit≤ tt; most = lit≤ tt }, record { least = lit≤ tt; most = lit≤ tt }), refl)
alloc_from_option (Some ledger) w = ((1, ledger), (record { least = lit≤ tt; most = lit≤ tt }, w), refl)

-- Allocations are read exactly.
pub alloc_exact : Exact IsAlloc alloc_fields alloc_from
alloc_exact = made_exact _ _ _ alloc_of IsAlloc alloc_fields
    (then_exact _ _ _ _ _ _ (byte_exact 0 1 (lit< tt)) (λ flag v. long_exact 0 (most_ledger flag) (most_ledger_fits flag)))
    (λ x v. alloc_is x.0 x.1 v.0 v.1) (λ a w. alloc_from_option a.ledger w)

-- ledgers by their quorum

-- The fields of a ledger keep the quorum's rule.
pub fields_quorum : (l : LedgerFields) → IsLedgerFields l → IsQuorum l.e l.qw l.qa
fields_quorum l h = record { few = h.0.most; writes_within = h.1.0.most; acks_within = h.1.1.0.most; some = h.1.1.0.least }

-- The fields of a valid ledger are valid.
pub meta_fields : (m : LedgerMeta) → IsLedgerMeta m → IsLedgerFields (fields_of m)
meta_fields m h =
    let r = m.q.rule in (
      record { least = omega (arith, r.some, r.acks_within, r.writes_within); most = r.few },
      (
        record { least = omega (arith, r.some, r.acks_within); most = r.writes_within },
        (record { least = r.some; most = r.acks_within }, h),
      ),
    )

-- Two proofs that sizes keep the rule are equal.
rules_alike : (e qw qa : ℕ) → IsProp (IsQuorum e qw qa)
rules_alike e qw qa = hlevel le_prop

-- metadata of the same fields are the same
pub same_meta : (a b : LedgerMeta) → fields_of a ≡ fields_of b → a ≡ b
same_meta a b e =
    let make : (l : LedgerFields) × IsQuorum l.e l.qw l.qa → LedgerMeta =
    λ x. record { state = x.0.state; q = record { e = x.0.e; qw = x.0.qw; qa = x.0.qa; rule = x.1 }; count = x.0.count } in
    let pairs : ◌≡◌ {A = (l : LedgerFields) × IsQuorum l.e l.qw l.qa} (fields_of a, a.q.rule) (fields_of b, b.q.rule) =
    Σ_prop_path (λ l. rules_alike l.e l.qw l.qa) e in
    ap make pairs

-- metadata by the fields that were read

-- What was read keeps the quorum's rule.
pub read_quorum : (bytes : List ℕ) (l : LedgerFields) → IsBytes bytes → ledger_at bytes ≡ Ok l → IsQuorum l.e l.qw l.qa
read_quorum bytes l fits e = fields_quorum l (node_found ledger_exact bytes l fits e).0

-- A ledger of the fields that were read is valid, and the bytes are its spelling.
pub ledger_found : (bytes : List ℕ) (l : LedgerFields) (m : LedgerMeta) → IsBytes bytes → ledger_at bytes ≡ Ok l → fields_of m ≡ l
    → IsLedgerMeta m × (bytes ≡ ledger_bytes m)
ledger_found bytes l m fits e same =
    let read : ledger_at bytes ≡ Ok (fields_of m) = e ∙ ap (λ (x : LedgerFields). Ok x) (sym same) in
    let f = node_found ledger_exact bytes (fields_of m) fits read in (f.0.1.1.1, f.1)

-- From a ledger's spelling its fields are read.
pub ledger_again : (bytes : List ℕ) (m : LedgerMeta) → IsLedgerMeta m → bytes ≡ ledger_bytes m → ledger_at bytes ≡ Ok (fields_of m)
ledger_again bytes m valid spelt = node_again ledger_exact bytes (fields_of m) (meta_fields m valid) spelt

-- Only the ledger of the fields that were read is spelt so.
pub ledger_only : (bytes : List ℕ) (l : LedgerFields) (m x : LedgerMeta) → ledger_at bytes ≡ Ok l → fields_of m ≡ l → IsLedgerMeta x
    → bytes ≡ ledger_bytes x → m ≡ x
ledger_only bytes l m x e same valid spelt =
    let read : Ok (fields_of x) ≡ Ok l = sym (ledger_again bytes x valid spelt) ∙ e in
    let one : fields_of x ≡ l = cc in same_meta m x (same ∙ sym one)

-- Where the reading failed, no ledger is spelt so.
pub ledger_refused : (bytes : List ℕ) (fault : MetaBytesFault) → ledger_at bytes ≡ Err fault → SpellsNone IsLedgerMeta ledger_bytes bytes
ledger_refused bytes fault e m valid spelt = let clash : Ok (fields_of m) ≡ Err fault = sym (ledger_again bytes m valid spelt) ∙ e in cc
