-- Where the rule goes at what it waited for.
use Rattle.std.proofs.Common.{◌≡◌, ◌≢◌, ℕ, suc, List, Ok, Err, refl, sym, ap, ◌∙◌, subst}
use Rattle.dl_types.specs.declared.refusal.Refusal.{Refusal}
use Rattle.dl_types.specs.declared.one_answer.OneAnswer.TheVariants.{Bytes}
use Rattle.dl_types.specs.declared.meta_answer.MetaAnswer.TheVariants as answer
use Rattle.dl_formats.specs.declared.segment.SegmentMeta.{SegmentMeta}
use Rattle.dl_formats.specs.declared.segment_name.SegmentName.TheVariants.{Progress}
use Rattle.dl_msg.specs.declared.heard.Heard.{Heard}
use Rattle.dl_msg.specs.declared.heard.Heard.TheVariants.{Reply, From}
use Rattle.dl_record.specs.Reading.{entry_at}
use Rattle.dl_rules_ledger.specs.Readers.{ReaderStage, Idle, Counting, Counted, Fetching, Fetched, asks_entry}
use Rattle.dl_rules_stream.specs.Nodes.{LedgerNode}
use Rattle.dl_rules_stream.specs.Orders.{Next, Wait, Ask, Refused, tells, within, or_refused}
use Rattle.dl_rules_stream.specs.Listings.{segment_of, ledger_of}
use Rattle.dl_rules_stream.specs.LedgerRecoveries as search
use Rattle.dl_rules_stream.specs.SegmentRecoveries as rule
use Rattle.dl_lread.specs.declared.got.Got.{Got}
use Rattle.dl_lread.specs.declared.got.Got.TheVariants as got
use Rattle.dl_lread.specs.Standing.{got_in}
use Rattle.dl_lrecover.specs.declared.ending.Ending.{Ending}
use Rattle.dl_lrecover.specs.declared.ending.Ending.TheVariants as ending
use Rattle.dl_lrecover.specs.declared.target.Located.{Located}
use Rattle.dl_lrecover.specs.Standing.{IsNodeAt}
use Rattle.dl_lrecover.specs.Views.{EndsBy}

-- ---- the segment's node

-- it can't be read
pub unread : (x : rule.SegmentArgs) (bytes : List ℕ) (version : ℕ) (r : Refusal) → segment_of x.stream (Progress x.segment) bytes ≡ Err r
    → (rule.SegmentDone, Refused r) ≡ rule.segment_answers x rule.GettingSegment (answer.One (Bytes bytes version))
unfolding rule.segment_answers
unread x bytes version r read = sym (ap (or_refused rule.SegmentDone (rule.after_segment x)) read)

-- the ledger that it names is recovered
pub read_segment : (x : rule.SegmentArgs) (bytes : List ℕ) (version ledger : ℕ) (m : SegmentMeta)
    → segment_of x.stream (Progress x.segment) bytes ≡ Ok m → ledger ≡ ledger_of m
    → rule.after_ledger x ledger (search.recovery_first (rule.ledger_args x ledger))
    ≡ rule.segment_answers x rule.GettingSegment (answer.One (Bytes bytes version))
unfolding rule.segment_answers
read_segment x bytes version ledger m read named =
    ap (λ l. rule.after_ledger x l (search.recovery_first (rule.ledger_args x l))) named
    ∙ sym (ap (or_refused rule.SegmentDone (rule.after_segment x)) read)

-- ---- the ledger

-- a recovery that hasn't ended goes on within the order
pub open_goes_on : (x : rule.SegmentArgs) (ledger : ℕ) (y : search.RecoveryArgs) (s : search.RecoveryStage) (next : Next ℕ) (e : Ending)
    → e ≡ ending.Open → EndsBy y s e
    → within (rule.RecoveringLedger ledger) rule.SegmentDone (λ n. (rule.SegmentDone, Wait)) (s, next) ≡ rule.after_ledger x ledger (s, next)
open_goes_on x ledger y (search.GettingNode old) next e is h = refl
open_goes_on x ledger y (search.Marking m version) next e is h = refl
open_goes_on x ledger y (search.Searching m version phase) next e is h = refl
open_goes_on x ledger y (search.Closing m version count) next e is h = refl
open_goes_on x ledger y (search.IsClosed m) next e is h = absurd (subst (EndsBy y (search.IsClosed m)) is h)
open_goes_on x ledger y (search.IsGone old) next e is h = absurd (subst (EndsBy y (search.IsGone old)) is h)
open_goes_on x ledger y (search.WasRefused old) next e is h = refl

-- What is known of a recovery whose ledger is closed.
pub record IsClosedAt (y : search.RecoveryArgs) (s : search.RecoveryStage) (at : Located) : Type 0 where
  pub node : LedgerNode
  pub stage : s ≡ search.IsClosed node
  pub at_node : IsNodeAt y node at

-- it is at the end of its rule, with the node that it tells
pub closed_at : (y : search.RecoveryArgs) (s : search.RecoveryStage) (e : Ending) (at : Located) → e ≡ ending.Closed at → EndsBy y s e
    → IsClosedAt y s at
closed_at y s e at is h = go s (subst (EndsBy y s) is h)
  where
    go : (t : search.RecoveryStage) → EndsBy y t (ending.Closed at) → IsClosedAt y t at
    go (search.GettingNode old) k = absurd k
    go (search.Marking m version) k = absurd k
    go (search.Searching m version phase) k = absurd k
    go (search.Closing m version count) k = absurd k
    go (search.IsClosed m) k = record { node = m; stage = refl; at_node = k }
    go (search.IsGone old) k = absurd k
    go (search.WasRefused old) k = absurd k

-- where the ledger's node is gone, the segment's is asked for once more
pub gone_checks : (x : rule.SegmentArgs) (ledger : ℕ) (y : search.RecoveryArgs) (s : search.RecoveryStage) (next : Next ℕ) (e : Ending)
    → e ≡ ending.Gone → EndsBy y s e → (rule.CheckingSegment ledger, Ask (rule.gets x)) ≡ rule.after_ledger x ledger (s, next)
gone_checks x ledger y s next e is h = go s (subst (EndsBy y s) is h)
  where
    go : (t : search.RecoveryStage) → EndsBy y t ending.Gone
        → (rule.CheckingSegment ledger, Ask (rule.gets x)) ≡ rule.after_ledger x ledger (t, next)
    go (search.GettingNode old) k = absurd k
    go (search.Marking m version) k = absurd k
    go (search.Searching m version phase) k = absurd k
    go (search.Closing m version count) k = absurd k
    go (search.IsClosed m) k = absurd k
    go (search.IsGone old) k = refl
    go (search.WasRefused old) k = absurd k

-- an empty ledger
pub closed_empty : (x : rule.SegmentArgs) (ledger last : ℕ) (m : LedgerNode) → last ≡ x.maxseq.last → m.count ≡ 0
    → rule.completes x ledger 0 0 last ≡ rule.after_closed x ledger m m.count
closed_empty x ledger last m last_is none = ap (rule.completes x ledger 0 0) last_is ∙ sym (ap (rule.after_closed x ledger m) none)

-- a ledger with a last entry
pub closed_some : (x : rule.SegmentArgs) (ledger : ℕ) (m : LedgerNode) (last : ℕ) → m.count ≡ suc last
    → (rule.FetchingEnd ledger m (Fetching last), tells (asks_entry (rule.end_subject x ledger m) last)) ≡ rule.after_closed x ledger m m.count
closed_some x ledger m last some = sym (ap (rule.after_closed x ledger m) some)

-- what the order hears while its ledger is recovered
pub hears_recovering : (x : rule.SegmentArgs) (ledger : ℕ) (s : search.RecoveryStage) (h : Heard)
    → rule.after_ledger x ledger (search.recovery_hears (rule.ledger_args x ledger) s h) ≡ rule.segment_hears x (rule.RecoveringLedger ledger s) h
unfolding rule.segment_hears rule.segment_answers
hears_recovering x ledger s (Reply a) = refl
hears_recovering x ledger s (From b msg) = refl

-- ---- the last entry

-- it has come
pub entry_came : (x : rule.SegmentArgs) (ledger entries : ℕ) (m : LedgerNode) (next : ReaderStage) (g : Got) (bytes : List ℕ)
    → g ≡ got.Entry bytes → g ≡ got_in next → entries ≡ m.count
    → rule.completes x ledger entries (rule.end_in (entry_at bytes)).0 (rule.end_in (entry_at bytes)).1 ≡ rule.after_end x ledger m next
entry_came x ledger entries m Idle g bytes is got_is same = absurd cc
entry_came x ledger entries m (Counting answers) g bytes is got_is same = absurd cc
entry_came x ledger entries m (Counted count) g bytes is got_is same = absurd cc
entry_came x ledger entries m (Fetching entry) g bytes is got_is same = absurd cc
entry_came x ledger entries m (Fetched found) g bytes is got_is same =
    let one : bytes ≡ found = cc in
    ap (λ n. rule.completes x ledger n (rule.end_in (entry_at bytes)).0 (rule.end_in (entry_at bytes)).1) same
    ∙ ap (λ b. rule.completes x ledger m.count (rule.end_in (entry_at b)).0 (rule.end_in (entry_at b)).1) one

-- it hasn't come
pub no_entry : (x : rule.SegmentArgs) (ledger : ℕ) (m : LedgerNode) (next : ReaderStage) (g : Got)
    → ((bytes : List ℕ) → g ≢ got.Entry bytes) → g ≡ got_in next → (rule.FetchingEnd ledger m next, Wait) ≡ rule.after_end x ledger m next
no_entry x ledger m Idle g other is = refl
no_entry x ledger m (Counting answers) g other is = refl
no_entry x ledger m (Counted count) g other is = refl
no_entry x ledger m (Fetching entry) g other is = refl
no_entry x ledger m (Fetched found) g other is = absurd (other found is)
