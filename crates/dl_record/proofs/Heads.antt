-- The fields of a stored record: what is read stands there, and what stands there is read.
use Rattle.std.proofs.Common.{◌≡◌, ℕ, ◌-◌, ◌+◌, ◌≤◌, ◌<◌, ◌^◌, Bool, true, false, cond, eqb, ltb, ◌&&◌, Option}
use Rattle.std.proofs.Common.{List, ◌++◌, length, drop, Result, Ok, Err, refl, sym, ap, subst, ◌∙◌, arith}
use Rattle.std.specs.Int.{w32, w64}
use Rattle.std.proofs.lemmas.Bool.{eqb-true, ltb-false, le-ltb}
use Rattle.std.proofs.lemmas.Bool.Decides.{nat_tests}
use Rattle.std.proofs.lemmas.List.{length-drop}
use Rattle.dl_codec.specs.Fields.{field, IsBytes}
use Rattle.dl_codec.proofs.FieldLaws.{width_32, width_64}
use Rattle.dl_record.specs.declared.limits.TheConstants.{PAYLOAD_MAX}
use Rattle.dl_types.specs.declared.txid.TheConstants.{MAX_TXID}
use Rattle.dl_record.specs.declared.entry_flaw.EntryFlaw.{EntryFlaw}
use Rattle.dl_record.specs.declared.entry_flaw.EntryFlaw.TheVariants.{BadFlags, TooLong, BadCount, TxidBack}
use Rattle.dl_record.specs.declared.kind.Kind.{Kind}
use Rattle.dl_record.specs.declared.kind.Kind.TheVariants as kinds
use Rattle.dl_record.specs.declared.kind.Head.{Head}
use Rattle.dl_record.specs.declared.kind.Behind.{Behind}
use Rattle.dl_record.specs.Reading.{◌>>=◌, value_if, field_at, end_at, may_stand, may_bear, kind_of}
use Rattle.dl_record.specs.Reading.{may_hold, position_at, kind_at, txid_at, length_at, head_at}
use Rattle.dl_record.proofs.Steps.{bind_ok, ok_is, chosen, value_if_ok, checked_ok, field_found, field_again, end_found, end_again}

-- the flags of a kind
abbrev pub kind_flags : Kind → ℕ
kind_flags kinds.Plain = 0
kind_flags kinds.Control = 1
kind_flags kinds.Set = 4

-- only a record that is alone is a control record
abbrev pub FitsKind : Bool → Kind → Type 0
FitsKind alone kinds.Plain = Unit {0}
FitsKind alone kinds.Control = alone ≡ true
FitsKind alone kinds.Set = Unit {0}

-- The fields of a stored record, as they stand in the bytes.
pub record HeadStands (alone : Bool) (before : Option Behind) (bytes : List ℕ) (at : ℕ) (head : Head) (size : ℕ) : Type 0 where
  pub position : head.position < 2 ^ 32
  pub follows : may_stand before head.position ≡ true
  pub fits : FitsKind alone head.kind
  pub txid : head.txid ≤ MAX_TXID
  pub bears : may_bear before head.txid ≡ true
  pub short : size ≤ PAYLOAD_MAX
  pub holds : may_hold head.kind size ≡ true
  pub end : head.end ≡ at + 20 + size
  pub room : head.end ≤ length bytes
  pub stands : drop at bytes ≡ field w32 head.position ++ (field w32
      (kind_flags head.kind) ++ (field w64 head.txid ++ (field w32 size ++ drop (at + 20) bytes)))

-- ---- flags

-- a kind, as what a reading gives
abbrev kinded : Kind → Result Kind EntryFlaw
kinded kind = Ok kind

-- A test of both parts says yes to each.
both : (alone : Bool) (n : ℕ) → (eqb n 1 && alone) ≡ true → (n ≡ 1) × (alone ≡ true)
both true n is = (grind (arith, nat_tests, is), refl)
both false n is = absurd (grind (arith, nat_tests, is))

-- Flags from which a kind was read are those of the kind, and it may stand here.
kind_found : (alone : Bool) (at n : ℕ) (kind : Kind) → kind_of alone at n ≡ Ok kind → (n ≡ kind_flags kind) × FitsKind alone kind
kind_found alone at n kind = plain (eqb n 0) refl
  where
    control : (t : Bool) → (eqb n 1 && alone) ≡ t → cond t (kinded kinds.Control) (Err (BadFlags at)) ≡ Ok kind → (n ≡ kind_flags kind) × FitsKind alone kind
    control true is e = let same : kinds.Control ≡ kind = ok_is kinds.Control kind e in
        subst (λ (k : Kind). (n ≡ kind_flags k) × FitsKind alone k) same (both alone n is)
    control false is e = absurd cc

    set : (t : Bool) → eqb n 4 ≡ t → cond t (kinded kinds.Set) (cond (eqb n 1 && alone) (kinded kinds.Control) (Err (BadFlags at))) ≡ Ok kind
        → (n ≡ kind_flags kind) × FitsKind alone kind
    set true is e = subst (λ (k : Kind). (n ≡ kind_flags k) × FitsKind alone k) (ok_is kinds.Set kind e) (eqb-true n 4 is, tt)
    set false is e = control (eqb n 1 && alone) refl e

    plain : (t : Bool) → eqb n 0 ≡ t
        → cond t (kinded kinds.Plain)
        (cond (eqb n 4) (kinded kinds.Set) (cond (eqb n 1 && alone) (kinded kinds.Control) (Err (BadFlags at)))) ≡ Ok kind
        → (n ≡ kind_flags kind) × FitsKind alone kind
    plain true is e = subst (λ (k : Kind). (n ≡ kind_flags k) × FitsKind alone k) (ok_is kinds.Plain kind e) (eqb-true n 0 is, tt)
    plain false is e = set (eqb n 4) refl e

-- From the flags of a kind that may stand here that kind is read.
kind_again : (alone : Bool) (at : ℕ) (kind : Kind) → FitsKind alone kind → kind_of alone at (kind_flags kind) ≡ Ok kind
kind_again alone at kinds.Plain fits = refl
kind_again alone at kinds.Control fits = rw fits refl
kind_again alone at kinds.Set fits = refl

-- ---- the fields

-- Bytes from which the fields of a record were read stand for them.
pub head_found : (alone : Bool) (before : Option Behind) (bytes : List ℕ) (at : ℕ) (head : Head) → IsBytes bytes
    → head_at alone before bytes at ≡ Ok head → (size : ℕ) × HeadStands alone before bytes at head size
unfolding head_at position_at kind_at txid_at length_at
head_found alone before bytes at head fits e =
    let a = bind_ok (position_at before bytes at)
    (λ position. kind_at alone bytes (at + 4) >>= λ kind. txid_at before bytes (at + 8) >>= λ txid. length_at kind bytes
    (at + 16) >>= λ size. end_at bytes (at + 20) size >>= λ end. Ok (record { position = position; kind = kind; txid = txid; end = end })) head e in
    let b = bind_ok (kind_at alone bytes (at + 4))
    (λ kind. txid_at before bytes (at + 8) >>= λ txid. length_at kind bytes (at + 16) >>= λ size. end_at bytes (at + 20) size >>= λ end. Ok
    (record { position = a.0; kind = kind; txid = txid; end = end })) head a.2 in
    let d = bind_ok (txid_at before bytes (at + 8))
    (λ txid. length_at b.0 bytes (at + 16) >>= λ size. end_at bytes (at + 20) size >>= λ end. Ok
    (record { position = a.0; kind = b.0; txid = txid; end = end })) head b.2 in
    let f = bind_ok (length_at b.0 bytes (at + 16))
    (λ size. end_at bytes (at + 20) size >>= λ end. Ok (record { position = a.0; kind = b.0; txid = d.0; end = end })) head d.2 in
    let g = bind_ok (end_at bytes (at + 20) f.0) (λ end. Ok (record { position = a.0; kind = b.0; txid = d.0; end = end })) head f.2 in
    let made : Head = record { position = a.0; kind = b.0; txid = d.0; end = g.0 } in
    let a' = checked_ok (field_at w32 bytes at) (may_stand before) (BadCount at) a.0 a.1 in
    let b' = bind_ok (field_at w32 bytes (at + 4)) (λ n. kind_of alone (at + 4) n) b.0 b.1 in
    let b'' = kind_found alone (at + 4) b'.0 b.0 b'.2 in
    let d' = bind_ok (field_at w64 bytes (at + 8))
    (λ n. cond (ltb MAX_TXID n) (Err (BadFlags (at + 8))) (value_if (may_bear before n) (TxidBack (at + 8)) n)) d.0 d.1 in
    let d'' = chosen (ltb MAX_TXID d'.0) (BadFlags (at + 8)) (value_if (may_bear before d'.0) (TxidBack (at + 8)) d'.0) d.0 d'.2 in
    let d3 = value_if_ok (may_bear before d'.0) (TxidBack (at + 8)) d'.0 d.0 d''.1 in
    let f' = bind_ok (field_at w32 bytes (at + 16))
    (λ n. cond (ltb PAYLOAD_MAX n) (Err (TooLong (at + 16))) (value_if (may_hold b.0 n) (BadCount (at + 16)) n)) f.0 f.1 in
    let f'' = chosen (ltb PAYLOAD_MAX f'.0) (TooLong (at + 16)) (value_if (may_hold b.0 f'.0) (BadCount (at + 16)) f'.0) f.0 f'.2 in
    let f3 = value_if_ok (may_hold b.0 f'.0) (BadCount (at + 16)) f'.0 f.0 f''.1 in
    let pa = field_found w32 width_32 bytes at (at + 4) a.0 fits refl a'.0 in
    let pb = field_found w32 width_32 bytes (at + 4) (at + 8) b'.0 fits (omega arith) b'.1 in
    let pd = field_found w64 width_64 bytes (at + 8) (at + 16) d'.0 fits (omega arith) d'.1 in
    let pf = field_found w32 width_32 bytes (at + 16) (at + 20) f'.0 fits (omega arith) f'.1 in
    let pg = end_found bytes (at + 20) f.0 g.0 g.1 in
    let whole : HeadStands alone before bytes at made f.0 = record {
      position = pa.fits;
      follows = a'.1;
      fits = b''.1;
      txid = omega (arith, ltb-false MAX_TXID d'.0 d''.0, d3.1);
      bears = ap (may_bear before) (sym d3.1) ∙ d3.0;
      short = omega (arith, ltb-false PAYLOAD_MAX f'.0 f''.0, f3.1);
      holds = ap (may_hold b.0) (sym f3.1) ∙ f3.0;
      end = pg.0;
      room = pg.1;
      stands = pa.stands ∙ ap (λ (l : List ℕ). field w32 a.0 ++ l) (pb.stands ∙ ap (λ (k : ℕ). field w32 k ++ drop (at + 8) bytes) b''.0
          ∙ ap (λ (l : List ℕ). field w32 (kind_flags b.0) ++ l) (pd.stands ∙ ap (λ (k : ℕ). field w64 k ++ drop (at + 16) bytes) d3.1
          ∙ ap (λ (l : List ℕ). field w64 d.0 ++ l) (pf.stands ∙ ap (λ (k : ℕ). field w32 k ++ drop (at + 20) bytes) f3.1)));
    } in
    (f.0, subst (λ (h : Head). HeadStands alone before bytes at h f.0) {x = made} {y = head} (ok_is made head g.2) whole)

-- What fields that stand there read as.
pub record HeadReads (alone : Bool) (before : Option Behind) (bytes : List ℕ) (at : ℕ) (head : Head) (rest : List ℕ) : Type 0 where
  pub reads : head_at alone before bytes at ≡ Ok head
  pub behind : drop (at + 20) bytes ≡ rest
  pub room : head.end ≤ length bytes

-- From the spelling of the fields of a record those fields are read.
pub head_again : (alone : Bool) (before : Option Behind) (bytes : List ℕ) (at : ℕ) (position txid size : ℕ) (kind : Kind) (rest : List ℕ)
    → position < 2 ^ 32 → may_stand before position ≡ true → FitsKind alone kind
    → txid ≤ MAX_TXID → may_bear before txid ≡ true → size ≤ PAYLOAD_MAX → may_hold kind size ≡ true → size ≤ length rest
    → drop at bytes ≡ field w32 position ++ (field w32 (kind_flags kind) ++ (field w64 txid ++ (field w32 size ++ rest)))
    → HeadReads alone before bytes at (record { position = position; kind = kind; txid = txid; end = at + 20 + size }) rest
unfolding head_at position_at kind_at txid_at length_at
head_again alone before bytes at position txid size kind rest position-fits stands fits txid-fits bears size-fits holds room e =
    let flags = kind_flags kind in
    let flags-fit : flags < 2 ^ 32 = few kind in
    let pa = field_again w32 width_32 (omega arith) bytes at (at + 4) position
    (field w32 flags ++ (field w64 txid ++ (field w32 size ++ rest))) refl position-fits e in
    let pb = field_again w32 width_32 (omega arith) bytes (at + 4) (at + 8) flags (field w64 txid ++ (field w32 size ++ rest))
    (omega arith) flags-fit pa.behind in
    let pd = field_again w64 width_64 (omega arith) bytes (at + 8) (at + 16) txid (field w32 size ++ rest) (omega arith) (omega arith) pb.behind in
    let pf = field_again w32 width_32 (omega arith) bytes (at + 16) (at + 20) size rest (omega arith) (omega arith) pd.behind in
    let long : length bytes - (at + 20) ≡ length rest = sym (length-drop (at + 20) bytes) ∙ ap length pf.behind in
    let end : at + 20 + size ≤ length bytes = omega (arith, pf.room, long, room) in
    let small : ltb MAX_TXID txid ≡ false = le-ltb MAX_TXID txid txid-fits in
    let short : ltb PAYLOAD_MAX size ≡ false = le-ltb PAYLOAD_MAX size size-fits in
    record {
      reads = rw (
        pa.reads,
        stands,
        pb.reads,
        kind_again alone (at + 4) kind fits,
        pd.reads,
        small,
        bears,
        pf.reads,
        short,
        holds,
        end_again bytes
            (at + 20) size end,
      ) refl;
      behind = pf.behind;
      room = end;
    }
  where
    few : (kind : Kind) → kind_flags kind < 2 ^ 32
    few kinds.Plain = omega arith
    few kinds.Control = omega arith
    few kinds.Set = omega arith
