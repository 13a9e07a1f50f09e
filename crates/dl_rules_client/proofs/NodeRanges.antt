-- The ranges of what is read out of nodes and listings, whatever their bytes are.
use Rattle.std.proofs.Common.{◌≡◌, ℕ, zero, suc, ◌+◌, ◌*◌, ◌-◌, ◌≤◌, Bool, true, false, ◌&&◌, ◌==◌, cond, List, [], ◌∷◌, length, Option}
use Rattle.std.proofs.Common.{Some, None, Result, Ok, Err, refl, ap, subst, arith}
use Rattle.std.specs.Prelude.{nat_le, nat_lt, fold, flat_map, option_to_list}
use Rattle.std.specs.List.{AllByRecursion, list_all}
use Rattle.std.proofs.lemmas.Bool.{leb-true, eqb-true}
use Rattle.std.specs.Int.{Width, w8, w64}
use Rattle.dl_types.specs.declared.refusal.Refusal.{Refusal}
use Rattle.dl_fields.specs.declared.fault.Fault.{Fault}
use Rattle.dl_fields.specs.Readers.{◌>>=◌, then_at, map_at, field_with_test, whole_field}
use Rattle.dl_fields.specs.Fields.{number_from}
use Rattle.dl_fields.proofs.ReaderLemmas.{bind_ok, ok_is}
use Rattle.dl_codec.specs.Fields.{IsBytes}
use Rattle.dl_text.specs.PlaceFields.{IsPlaceFrom}
use Rattle.dl_formats.proofs.DecodeLemmas.{node_found}
use Rattle.dl_formats.proofs.Exactness.{cut_exact}
use Rattle.dl_formats.specs.declared.conf.Conf.{Conf}
use Rattle.dl_formats.specs.declared.fault.MetaBytesFault.{MetaBytesFault}
use Rattle.dl_formats.specs.declared.ledger.LedgerState.{LedgerState}
use Rattle.dl_formats.specs.declared.ledger.LedgerState.TheVariants.{Writing, Recovering, Closed}
use Rattle.dl_formats.specs.declared.segment.SegmentMeta.{SegmentMeta}
use Rattle.dl_formats.specs.declared.segment.SegmentMeta.TheVariants as meta
use Rattle.dl_formats.specs.declared.segment_name.SegmentName.{SegmentName}
use Rattle.dl_formats.specs.declared.segment_name.SegmentName.TheVariants.{Progress, Completed}
use Rattle.dl_formats.specs.NodeBytes.{ten_nines, max_u64, most_count}
use Rattle.dl_formats.specs.Reading.{between_from, node_fields_from, node_from, with_place, state_from, ledger_of, ledger_from, ledger_at, in_progress_from}
use Rattle.dl_formats.specs.Reading.{completed_from, kind_from, segment_from, segment_at, maxseq_of, maxseq_from, maxseq_at, cut_at}
use Rattle.dl_formats.specs.declared.maxseq.MaxSeq.{MaxSeq}
use Rattle.dl_types.specs.declared.txid.TheConstants.{MAX_TXID}
use Rattle.dl_schedule.specs.StepLines.{IsTxid}
use Rattle.dl_rules_stream.specs.Nodes.{LedgerNode}
use Rattle.dl_formats.specs.Keys as key
use Rattle.dl_rules_stream.specs.Orders as stream
use Rattle.dl_rules_stream.specs.Orders.{or_gave_up}
use Rattle.dl_rules_stream.specs.Listings.{is_digit, digits_number, ten_digits_in, segment_by, segment_in, number_of, with_segment, sorted_into, segments_of}
use Rattle.dl_rules_stream.specs.Listings.{last_segment, ledger_node_of}
use Rattle.dl_rules_client.proofs.RangeLists.{Any, AllOk, AllSome, cond_both, all-append}

-- ---- readings

-- all that a reader reads is such
abbrev ReadsSuch : {A : Type 0} → (List ℕ → Result (A × List ℕ) Fault) → (A → Type 0) → Type 0
ReadsSuch {A} read P = (bytes : List ℕ) (a : A) (rest : List ℕ) → read bytes ≡ Ok (a, rest) → P a

-- a field behind another
second_such : {A B : Type 0} (first : List ℕ → Result (A × List ℕ) Fault) (second : A → List ℕ → Result (B × List ℕ) Fault) (P : B → Type 0)
    → ((a : A) → ReadsSuch (second a) P) → ReadsSuch (then_at first second) (λ (x : A × B). P x.1)
second_such {A} {B} first second P h bytes x rest e =
    let u = bind_ok (first bytes) (λ (y : A × List ℕ). second y.0 y.1 >>= λ z. Ok ((y.0, z.0), z.1)) (x, rest) e in
    let v = bind_ok (second u.0.0 u.0.1) (λ (z : B × List ℕ). Ok ((u.0.0, z.0), z.1)) (x, rest) u.2 in
    let its : v.0.0 ≡ x.1 = ap (λ (w : (A × B) × List ℕ). w.0.1) (ok_is _ _ v.2) in
    subst P its (h u.0.0 u.0.1 v.0.0 v.0.1 v.1)

-- a field in front of another
first_such : {A B : Type 0} (first : List ℕ → Result (A × List ℕ) Fault) (second : A → List ℕ → Result (B × List ℕ) Fault) (P : A → Type 0)
    → ReadsSuch first P → ReadsSuch (then_at first second) (λ (x : A × B). P x.0)
first_such {A} {B} first second P h bytes x rest e =
    let u = bind_ok (first bytes) (λ (y : A × List ℕ). second y.0 y.1 >>= λ z. Ok ((y.0, z.0), z.1)) (x, rest) e in
    let v = bind_ok (second u.0.0 u.0.1) (λ (z : B × List ℕ). Ok ((u.0.0, z.0), z.1)) (x, rest) u.2 in
    let its : u.0.0 ≡ x.0 = ap (λ (w : (A × B) × List ℕ). w.0.0) (ok_is _ _ v.2) in
    subst P its (h bytes u.0.0 u.0.1 u.1)

-- a field as another value
map_such : {A B : Type 0} (make : A → B) (read : List ℕ → Result (A × List ℕ) Fault) (P : B → Type 0) → ReadsSuch read (λ a. P (make a))
    → ReadsSuch (map_at make read) P
map_such {A} {B} make read P h bytes b rest e =
    let u = bind_ok (read bytes) (λ (y : A × List ℕ). Ok (make y.0, y.1)) (b, rest) e in
    let its : make u.0.0 ≡ b = ap (λ (w : B × List ℕ). w.0) (ok_is _ _ u.2) in
    subst P its (h bytes u.0.0 u.0.1 u.1)

-- both of two tests hold
and_right : (s t : Bool) → (s && t) ≡ true → t ≡ true
and_right true t e = e
and_right false t e = absurd cc

-- the first of two tests that both hold
and_left : (s t : Bool) → (s && t) ≡ true → s ≡ true
and_left true t e = refl
and_left false t e = absurd cc

-- a number that passes its test
passed_such : (low high n : ℕ) (t : Bool) (x : ℕ × List ℕ) (rest : List ℕ) (fault : Fault) → (nat_le low x.0 && nat_le x.0 high) ≡ t
    → cond t (Ok x) (Err fault) ≡ Ok (n, rest) → n ≤ high
passed_such low high n true x rest fault test e =
    let same : x.0 ≡ n = ap (λ (w : ℕ × List ℕ). w.0) (ok_is _ _ e) in
    omega (arith, same, leb-true x.0 high (and_right (nat_le low x.0) (nat_le x.0 high) test))
passed_such low high n false x rest fault test e = absurd cc

-- a number within bounds
between_such : (w : Width) (low high : ℕ) → ReadsSuch (between_from w low high) (λ n. n ≤ high)
between_such w low high bytes n rest e =
    let u = bind_ok (number_from w bytes) (field_with_test (λ k. nat_le low k && nat_le k high) (length bytes)) (n, rest) e in
    passed_such low high n (nat_le low u.0.0 && nat_le u.0.0 high) u.0 rest _ refl u.2

-- a value behind which nothing is left
ended_is : {A : Type 0} (x a : A) (fault : Fault) (t : Bool) → cond t (Ok x) (Err fault) ≡ Ok a → x ≡ a
ended_is x a fault true e = ok_is _ _ e
ended_is x a fault false e = absurd cc

-- all that a node's reader reads is such
node_such : {A : Type 0} (read : List ℕ → Result (A × List ℕ) Fault) (P : A → Type 0) → ReadsSuch read P → (bytes : List ℕ) (a : A)
    → node_from read bytes ≡ Ok a → P a
node_such {A} read P h bytes a e =
    let u = bind_ok (node_fields_from read bytes) whole_field a e in
    let its : u.0.0 ≡ a = ended_is u.0.0 a _ (length u.0.1 == 0) u.2 in
    subst P its
    (map_such (λ (x : ℕ × A). x.1) (then_at (between_from w8 1 1) (λ version. read)) P (second_such (between_from w8 1 1) (λ version. read) P (λ version. h))
    bytes u.0.0 u.0.1 u.1)

-- the same behind the place of a fault
place_such : {A : Type 0} (size : ℕ) (r : Result A Fault) (P : A → Type 0) → ((a : A) → r ≡ Ok a → P a) → AllOk (with_place size r) P
place_such size (Ok a) P h = h a refl
place_such size (Err fault) P h = tt

-- ---- ledgers

-- no state has a greater count
count_most : (s : LedgerState) → most_count s ≤ max_u64
count_most Writing = omega arith
count_most Recovering = omega arith
count_most Closed = omega arith

-- the count of a ledger has 64 bits
counts_such : ReadsSuch (then_at state_from (λ state. then_at (between_from w8 1 16) (λ e. then_at (between_from w8 1 e) (λ qw. then_at (between_from w8 1 qw)
    (λ qa. between_from w64 0 (most_count state)))))) (λ (x : LedgerState × (ℕ × (ℕ × (ℕ × ℕ)))). x.1.1.1.1 ≤ max_u64)
counts_such =
    second_such state_from _ (λ (x : ℕ × (ℕ × (ℕ × ℕ))). x.1.1.1 ≤ max_u64) (λ state.
    second_such (between_from w8 1 16) _ (λ (x : ℕ × (ℕ × ℕ)). x.1.1 ≤ max_u64) (λ e.
    second_such (between_from w8 1 e) _ (λ (x : ℕ × ℕ). x.1 ≤ max_u64) (λ qw.
    second_such (between_from w8 1 qw) _ (λ (n : ℕ). n ≤ max_u64) (λ qa bytes n rest read.
    omega (arith, count_most state, between_such w64 0 (most_count state) bytes n rest read)))))

-- the count in a ledger's node
fields_fit : (bytes : List ℕ) → AllOk (ledger_at bytes) (λ f. f.count ≤ max_u64)
fields_fit bytes = place_such (length bytes) (node_from ledger_from bytes) (λ f. f.count ≤ max_u64)
    (node_such ledger_from (λ f. f.count ≤ max_u64) (map_such ledger_of _ (λ f. f.count ≤ max_u64) counts_such) bytes)

-- ---- segments

-- a segment has at most ten digits
abbrev pub SegmentFits : SegmentMeta → Type 0
SegmentFits (meta.InProgress segment ledger) = segment ≤ ten_nines
SegmentFits (meta.Completed segment ledger entries rows last) = segment ≤ ten_nines

-- the fields of a segment in progress
progress_such : ReadsSuch in_progress_from SegmentFits
progress_such =
    map_such (λ (x : ℕ × ℕ). meta.InProgress x.0 x.1) (then_at (between_from w64 1 ten_nines) (λ segment. between_from w64 0 ten_nines)) SegmentFits
    (first_such (between_from w64 1 ten_nines) (λ segment. between_from w64 0 ten_nines) (λ n. n ≤ ten_nines) (between_such w64 1 ten_nines))

-- those of a completed one
completed_such : ReadsSuch completed_from SegmentFits
completed_such =
    map_such (λ (x : ℕ × (ℕ × (ℕ × (ℕ × ℕ)))). meta.Completed x.0 x.1.0 x.1.1.0 x.1.1.1.0 x.1.1.1.1) _ SegmentFits
    (first_such (between_from w64 1 ten_nines) _ (λ n. n ≤ ten_nines) (between_such w64 1 ten_nines))

-- the fields of a segment
kind_such : (kind : ℕ) → ReadsSuch (kind_from kind) SegmentFits
kind_such kind bytes a rest read = go (kind == 1) read
  where
    go : (t : Bool) → cond t (in_progress_from bytes) (completed_from bytes) ≡ Ok (a, rest) → SegmentFits a
    go true e = progress_such bytes a rest e
    go false e = completed_such bytes a rest e

-- the segment in a node
pub segment_such : (bytes : List ℕ) → AllOk (segment_at bytes) SegmentFits
segment_such bytes = place_such (length bytes) (node_from segment_from bytes) SegmentFits
    (node_such segment_from SegmentFits (map_such (λ (x : ℕ × SegmentMeta). x.1) (then_at (between_from w8 1 2) kind_from) SegmentFits
    (second_such (between_from w8 1 2) kind_from SegmentFits kind_such)) bytes)

-- ---- `maxseq`

-- The segment and the transaction id that a `maxseq` names.
pub record MaxSeqFits (m : MaxSeq) : Type 0 where
  pub segment : m.segment ≤ ten_nines
  pub last : IsTxid m.last

-- the fields of a `maxseq`
maxseq_such : ReadsSuch maxseq_from MaxSeqFits
maxseq_such =
    map_such maxseq_of (then_at (between_from w64 0 ten_nines) (λ segment. between_from w64 0 MAX_TXID)) MaxSeqFits (λ bytes x rest read. record {
      segment = first_such (between_from w64 0 ten_nines) (λ segment. between_from w64 0 MAX_TXID) (λ n. n ≤ ten_nines) (between_such w64 0 ten_nines)
          bytes x rest read;
      last = (
        omega arith,
        second_such (between_from w64 0 ten_nines) (λ segment. between_from w64 0 MAX_TXID) (λ n. n ≤ MAX_TXID)
            (λ segment. between_such w64 0 MAX_TXID) bytes x rest read,
      );
    })

-- the `maxseq` in a node
pub maxseq_fits : (bytes : List ℕ) → AllOk (maxseq_at bytes) MaxSeqFits
maxseq_fits bytes = place_such (length bytes) (node_from maxseq_from bytes) MaxSeqFits (node_such maxseq_from MaxSeqFits maxseq_such bytes)

-- ---- `cut`

-- what holds of each value that a reading may have
ok_such : {A E : Type 0} (r : Result A E) (P : A → Type 0) → ((a : A) → r ≡ Ok a → P a) → AllOk r P
ok_such (Ok a) P h = h a refl
ok_such (Err e) P h = tt

-- the point in a node is a place of a segment, where the node's bytes are bytes
pub cut_fits : (bytes : List ℕ) → IsBytes bytes → AllOk (cut_at bytes) (λ c. IsPlaceFrom 1 c.point)
cut_fits bytes are = ok_such (cut_at bytes) (λ c. IsPlaceFrom 1 c.point) (λ c read.
    let its = (node_found cut_exact bytes c are read).0 in
    ((its.0.least, its.0.most), ((omega arith, omega (arith, its.1.0)), (omega arith, omega (arith, its.1.1)))))

-- ---- names

-- a segment of a listing has at most ten digits
abbrev pub NameFits : SegmentName → Type 0
NameFits x = number_of x ≤ ten_nines

-- ten times a number, so many times
abbrev tens : ℕ → ℕ → ℕ
tens zero m = m
tens (suc k) m = tens k (10 * m)

-- of the greater number
tens_more : (k a b : ℕ) → a ≤ b → tens k a ≤ tens k b
tens_more zero a b h = h
tens_more (suc k) a b h = tens_more k (10 * a) (10 * b) (omega (arith, h))

-- digits behind a number
digits_most : (n : ℕ) (digits : List ℕ) → list_all is_digit digits ≡ true → suc (fold (λ m c. 10 * m + (c - 48)) n digits) ≤ tens (length digits) (suc n)
digits_most n [] e = omega arith
digits_most n (c ∷ cs) e =
    let digit : nat_le 48 c && nat_le c 57 ≡ true = and_left (is_digit c) (list_all is_digit cs) e in
    let most : c ≤ 57 = leb-true c 57 (and_right (nat_le 48 c) (nat_le c 57) digit) in
    let rest = digits_most (10 * n + (c - 48)) cs (and_right (is_digit c) (list_all is_digit cs) e) in
    let more = tens_more (length cs) (suc (10 * n + (c - 48))) (10 * suc n) (omega (arith, most)) in
    omega (arith, rest, more)

-- ten digits
ten_most : (digits : List ℕ) → length digits ≡ 10 → list_all is_digit digits ≡ true → digits_number digits ≤ ten_nines
ten_most digits len all =
    let least = digits_most 0 digits all in
    let same : tens (length digits) 1 ≡ 10000000000 = ap (λ k. tens k 1) len in
    omega (arith, least, same)

-- the number of ten digits
pub ten_fits : (digits : List ℕ) → AllSome (λ n. n ≤ ten_nines) (ten_digits_in digits)
ten_fits digits = go (length digits == 10 && list_all is_digit digits) refl
  where
    go : (t : Bool) → (length digits == 10 && list_all is_digit digits) ≡ t → AllSome (λ n. n ≤ ten_nines) (cond t (Some (digits_number digits)) None)
    go true e =
        ten_most digits (eqb-true (length digits) 10 (and_left (length digits == 10) (list_all is_digit digits) e))
        (and_right (length digits == 10) (list_all is_digit digits) e)
    go false e = tt

-- a segment of a letter and a number
by_fits : (letter : ℕ) (n : Option ℕ) → AllSome (λ n. n ≤ ten_nines) n → AllSome NameFits (segment_by letter n)
by_fits letter None h = tt
by_fits letter (Some k) h =
    cond_both (AllSome NameFits) (k == 0) None _ tt
    (cond_both (AllSome NameFits) (letter == 112) (Some (Progress k)) _ h (cond_both (AllSome NameFits) (letter == 99) (Some (Completed k)) None h tt))

-- a name
in_fits : (name : List ℕ) → AllSome NameFits (segment_in name)
unfolding segment_in
in_fits [] = tt
in_fits (letter ∷ digits) = by_fits letter (ten_digits_in digits) (ten_fits digits)

-- a value as a list
pub option_all : {A : Type 0} (P : A → Type 0) (x : Option A) → AllSome P x → AllByRecursion P (option_to_list x)
option_all P None h = tt
option_all P (Some x) h = (h, tt)

-- names
names_fit : (names : List (List ℕ)) → AllByRecursion NameFits (flat_map (λ name. option_to_list (segment_in name)) names)
names_fit [] = tt
names_fit (name ∷ names) =
    all-append NameFits (option_to_list (segment_in name)) (flat_map (λ name. option_to_list (segment_in name)) names)
    (option_all NameFits (segment_in name) (in_fits name)) (names_fit names)

-- a segment in its place
placed_fits : (x : SegmentName) (ys : List SegmentName) → NameFits x → AllByRecursion NameFits ys → AllByRecursion NameFits (with_segment x ys)
placed_fits x [] h each = (h, tt)
placed_fits x (y ∷ ys) h each =
    cond_both (AllByRecursion NameFits) (nat_lt (number_of x) (number_of y)) (x ∷ y ∷ ys) (y ∷ with_segment x ys) (h, each) (each.0, placed_fits x ys h each.1)

-- segments in their places
sorted_fits : (ys xs : List SegmentName) → AllByRecursion NameFits ys → AllByRecursion NameFits xs → AllByRecursion NameFits (sorted_into ys xs)
sorted_fits ys [] a b = a
sorted_fits ys (x ∷ xs) a b = sorted_fits (with_segment x ys) xs (placed_fits x ys b.0 a) b.1

-- the segments that are listed
pub segments_fit : (names : List (List ℕ)) → AllByRecursion NameFits (segments_of names)
unfolding segments_of
segments_fit names = sorted_fits [] _ tt (names_fit names)

-- the last of them
pub last_segment_fits : (xs : List SegmentName) → AllByRecursion NameFits xs → AllSome NameFits (last_segment xs)
last_segment_fits [] each = tt
last_segment_fits (x ∷ []) each = each.0
last_segment_fits (x ∷ y ∷ ys) each = last_segment_fits (y ∷ ys) each.1

-- ---- the node of a ledger

-- the count of a ledger's node has 64 bits
abbrev pub LedgerFits : LedgerNode → Type 0
LedgerFits m = m.count ≤ max_u64

-- nothing is asked of a value that was read
pub any_ok : {A E : Type 0} (r : Result A E) → AllOk r Any
any_ok (Ok a) = tt
any_ok (Err e) = tt

-- what holds of a value gives what else holds of it
pub ok_map : {A E : Type 0} (r : Result A E) (P Q : A → Type 0) → AllOk r P → ((a : A) → P a → Q a) → AllOk r Q
ok_map (Ok a) P Q is h = h a is
ok_map (Err e) P Q is h = tt

-- a reading that may be refused, and then another
pub refusal_such : {A B : Type 0} (r : Result A Refusal) (f : A → Result B Refusal) (P : A → Type 0) (Q : B → Type 0) → AllOk r P
    → ((a : A) → P a → AllOk (f a) Q) → AllOk (stream.◌>>=◌ r f) Q
refusal_such (Ok a) f P Q is h = h a is
refusal_such (Err why) f P Q is h = tt

-- what is given up says nothing
pub gave_up_such : {A : Type 0} (path : List ℕ) (r : Result A MetaBytesFault) (P : A → Type 0) → AllOk r P → AllOk (or_gave_up path r) P
gave_up_such path (Ok a) P is = is
gave_up_such path (Err fault) P is = tt

-- the node of a ledger
pub ledger_fits : (conf : Conf) (ledger : ℕ) (bytes : List ℕ) → AllOk (ledger_node_of conf ledger bytes) LedgerFits
ledger_fits conf ledger bytes =
    refusal_such (or_gave_up (key.path_of (key.Ledger ledger)) (ledger_at bytes)) _ (λ f. f.count ≤ max_u64) LedgerFits
    (gave_up_such (key.path_of (key.Ledger ledger)) (ledger_at bytes) (λ f. f.count ≤ max_u64) (fields_fit bytes))
    (λ f is. cond_both (λ (r : Result LedgerNode Refusal). AllOk r LedgerFits) (nat_le f.e conf.b) _ _ is tt)
