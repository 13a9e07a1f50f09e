-- The paths of the nodes that the log uses have the form of paths, and so have those that requests name.
use Rattle.std.proofs.Common.{◌≡◌, ℕ, zero, suc, ◌+◌, ◌*◌, ◌/◌, ◌%◌, ◌^◌, ◌<◌, List, [], ◌∷◌, ◌++◌, codes, Option, Some, None, refl, ap, ap₂, ◌∙◌, subst}
use Rattle.std.proofs.Common.{arith, pow-suc, lit<}
use Rattle.std.specs.List.{AllByRecursion}
use Rattle.dl_types.specs.declared.meta_op.MetaOp.{MetaOp}
use Rattle.dl_types.specs.declared.meta_op.MetaOp.TheVariants as op
use Rattle.dl_types.specs.declared.one_op.OneOp.{OneOp}
use Rattle.dl_types.specs.declared.why.Why.{Why}
use Rattle.dl_types.specs.declared.why.Why.TheVariants.{BadVersion}
use Rattle.dl_fields.specs.Digits.{digits}
use Rattle.dl_fields.specs.Paths.{with_slashes, IsPathField}
use Rattle.dl_text.specs.NameFields.{IsName}
use Rattle.dl_formats.specs.Keys.{Key, Conf, Streams, Ledgers, Ledger, Stream, MaxSeq, Cut, Alloc, Locks, Member, Segs, Progress, Completed, path_of}
use Rattle.dl_formats.specs.Keys.{IsNodeKey}
use Rattle.dl_formats.specs.declared.segment_name.SegmentName.{SegmentName}
use Rattle.dl_formats.specs.declared.segment_name.SegmentName.TheVariants as named
use Rattle.dl_formats.proofs.FormLemmas.{their_form}
use Rattle.dl_transcript.specs.Ranges.{IsRefusal}
use Rattle.dl_rules_stream.specs.Requests.{Request, MakeStream, MakeAgain, RemoveStream, MakeMember, ListMembers, LeaveLock, Look, MakeLedger, TakeLedger}
use Rattle.dl_rules_stream.specs.Requests.{StartSegment, GetSegment, GetLedger, MarkLedger, CloseLedger, CompleteSegment, ListCut, LookCut, SetCut}
use Rattle.dl_rules_stream.specs.Requests.{DropSegment, op_of, segment_key, drops_old, checks_member, path_in, path_nth, path_at}
use Rattle.dl_rules_stream.specs.Orders.{no_way_on}
use Rattle.dl_rules_client.specs.EventRanges.{AllSome, RequestFits, WhyFits}
use Rattle.dl_rules_client.proofs.RangeLists.{all-append}

-- ---- keys

-- so many digits of a number are those of a number that has no more
few_digits : (n k : ℕ) → (r : ℕ) × (r < 10 ^ n) × (digits n r ≡ digits n k)
few_digits zero k = (0, lit< tt, refl)
few_digits (suc n) k =
    let least = few_digits n (k / 10) in
    let high : (least.0 * 10 + k % 10) / 10 ≡ least.0 = omega arith in
    let low : (least.0 * 10 + k % 10) % 10 ≡ k % 10 = omega arith in (
      least.0 * 10 + k % 10,
      omega (arith, least.1, pow-suc 10 n),
      ap₂ (λ (j d : ℕ). digits n j ++ (48 + d) ∷ []) high low ∙ ap (λ (t : List ℕ). t ++ (48 + k % 10) ∷ []) least.2,
    )

-- the stream of a key, where it has one, is a name
abbrev pub HasName : Key → Type 0
HasName Conf = Unit {0}
HasName Streams = Unit {0}
HasName Ledgers = Unit {0}
HasName (Ledger n) = Unit {0}
HasName (Stream s) = IsName s
HasName (MaxSeq s) = IsName s
HasName (Cut s) = IsName s
HasName (Alloc s) = IsName s
HasName (Locks s) = IsName s
HasName (Member s n) = IsName s
HasName (Segs s) = IsName s
HasName (Progress s k) = IsName s
HasName (Completed s k) = IsName s

-- A path is that of a key that the log uses.
pub record IsKeyPath (path : List ℕ) : Type 0 where
  pub key : Key
  pub is : IsNodeKey key
  pub same : path_of key ≡ path

-- the path of a key whose stream is a name, whatever its number is
pub key_path : (k : Key) → HasName k → IsKeyPath (path_of k)
unfolding path_of
key_path Conf name = record { key = Conf; is = tt; same = refl }
key_path Streams name = record { key = Streams; is = tt; same = refl }
key_path Ledgers name = record { key = Ledgers; is = tt; same = refl }
key_path (Ledger n) name =
    let few = few_digits 10 n in
    record { key = Ledger few.0; is = few.1; same = ap (λ (d : List ℕ). with_slashes (codes "ledgers" ∷ (codes "L" ++ d) ∷ [])) few.2 }
key_path (Stream s) name = record { key = Stream s; is = name; same = refl }
key_path (MaxSeq s) name = record { key = MaxSeq s; is = name; same = refl }
key_path (Cut s) name = record { key = Cut s; is = name; same = refl }
key_path (Alloc s) name = record { key = Alloc s; is = name; same = refl }
key_path (Locks s) name = record { key = Locks s; is = name; same = refl }
key_path (Member s n) name =
    let few = few_digits 10 n in
    record {
      key = Member s few.0;
      is = (name, few.1);
      same = ap (λ (d : List ℕ). with_slashes (codes "streams" ∷ s ∷ codes "lock" ∷ (codes "m-" ++ d) ∷ [])) few.2;
    }
key_path (Segs s) name = record { key = Segs s; is = name; same = refl }
key_path (Progress s k) name =
    let few = few_digits 10 k in
    record {
      key = Progress s few.0;
      is = (name, few.1);
      same = ap (λ (d : List ℕ). with_slashes (codes "streams" ∷ s ∷ codes "segs" ∷ (codes "p" ++ d) ∷ [])) few.2;
    }
key_path (Completed s k) name =
    let few = few_digits 10 k in
    record {
      key = Completed s few.0;
      is = (name, few.1);
      same = ap (λ (d : List ℕ). with_slashes (codes "streams" ∷ s ∷ codes "segs" ∷ (codes "c" ++ d) ∷ [])) few.2;
    }

-- such a path has the form of paths
pub path_has_form : (path : List ℕ) → IsKeyPath path → IsPathField path
path_has_form path is = subst IsPathField is.same (their_form.path is.key is.is, their_form.length is.key is.is)

-- so has the path of a key
pub key_has_form : (k : Key) → HasName k → IsPathField (path_of k)
key_has_form k name = path_has_form (path_of k) (key_path k name)

-- ---- requests

-- an operation names a path
abbrev PathFits : OneOp → Type 0
PathFits x = IsPathField (path_in x)

-- each operation of a request does
abbrev PathsFit : MetaOp → Type 0
PathsFit (op.One x) = PathFits x
PathsFit (op.Multi xs) = AllByRecursion PathFits xs

-- the path of an operation at a place of a list
nth_fits : (xs : List OneOp) (place : ℕ) → AllByRecursion PathFits xs → IsPathField (path_nth xs place)
nth_fits [] place each = (([], tt, refl), lit< tt)
nth_fits (x ∷ xs) zero each = each.0
nth_fits (x ∷ xs) (suc place) each = nth_fits xs place each.1

-- the path of an operation at a place of a request
at_fits : (x : MetaOp) (place : ℕ) → PathsFit x → IsPathField (path_at x place)
at_fits (op.One x) place is = is
at_fits (op.Multi xs) place each = nth_fits xs place each

-- the ledger that is dropped
drops_fit : (old : Option ℕ) → AllByRecursion PathFits (drops_old old)
drops_fit None = tt
drops_fit (Some ledger) = (key_has_form (Ledger ledger) tt, tt)

-- the member that is checked
checks_fit : (member : Option (List ℕ)) → AllSome IsPathField member → AllByRecursion PathFits (checks_member member)
checks_fit None is = tt
checks_fit (Some member) is = (is, tt)

-- the node of a segment
pub segment_fits : (s : List ℕ) (segment : SegmentName) → IsName s → IsPathField (path_of (segment_key s segment))
segment_fits s (named.Progress k) name = key_has_form (Progress s k) name
segment_fits s (named.Completed k) name = key_has_form (Completed s k) name

-- the paths that a request names
request_paths : (r : Request) → RequestFits r → PathsFit (op_of r)
unfolding op_of
request_paths (MakeStream s) is = (
  key_has_form (Stream s) is,
  (
    key_has_form (MaxSeq s) is,
    (key_has_form (Cut s) is, (key_has_form (Alloc s) is, (key_has_form (Locks s) is, (key_has_form (Segs s) is, tt)))),
  ),
)
request_paths (MakeAgain s) is = (key_has_form (Locks s) is, (key_has_form (Segs s) is, tt))
request_paths (RemoveStream s) is = (key_has_form (Locks s) is, (key_has_form (Segs s) is, tt))
request_paths (MakeMember s) is = (their_form.member s is).0
request_paths (ListMembers s) is = key_has_form (Locks s) is
request_paths (LeaveLock member) is = is
request_paths (Look s) is = (key_has_form (Segs s) is, (key_has_form (MaxSeq s) is, (key_has_form (Alloc s) is, tt)))
request_paths (MakeLedger q) is = their_form.ledger.0
request_paths (TakeLedger s member old version ledger) is =
    (is.1, all-append PathFits (drops_old old) _ (drops_fit old) (key_has_form (Alloc s) is.0, tt))
request_paths (StartSegment b) is = (
  is.1,
  (
    key_has_form (MaxSeq b.stream) is.0,
    (
      key_has_form (Progress b.stream b.segment) is.0,
      (key_has_form (Ledger b.ledger) tt, (key_has_form (Alloc b.stream) is.0, tt)),
    ),
  ),
)
request_paths (GetSegment s segment) is = segment_fits s segment is
request_paths (GetLedger ledger) is = key_has_form (Ledger ledger) tt
request_paths (MarkLedger ledger q version) is = key_has_form (Ledger ledger) tt
request_paths (CloseLedger ledger q count version) is = key_has_form (Ledger ledger) tt
request_paths (CompleteSegment c) is =
    all-append PathFits (checks_member c.member) _ (checks_fit c.member is.1)
    (key_has_form (Progress c.stream c.segment) is.0, (key_has_form (Completed c.stream c.segment) is.0, (key_has_form (MaxSeq c.stream) is.0, tt)))
request_paths (ListCut s) is = (key_has_form (Segs s) is, (key_has_form (Cut s) is, tt))
request_paths (LookCut s) is = (key_has_form (Segs s) is, (key_has_form (Cut s) is, (key_has_form (MaxSeq s) is, tt)))
request_paths (SetCut s point version) is = key_has_form (Cut s) is.0
request_paths (DropSegment s segment ledger) is = (key_has_form (Completed s segment) is, (key_has_form (Ledger ledger) tt, tt))

-- no way on is a refusal that a line can say
pub no_way_fits : (r : Request) (place : ℕ) (w : Why) → RequestFits r → WhyFits w → IsRefusal (no_way_on r place w)
no_way_fits r place (BadVersion now) is why = (at_fits (op_of r) place (request_paths r is), why)
no_way_fits r place w is why = at_fits (op_of r) place (request_paths r is)
