-- The stage of the rule at which a read stands, by the stage that it keeps.
use Rattle.std.proofs.Common.{◌≡◌, ◌≢◌, ℕ, List, refl, sym, ap, subst}
use Rattle.dl_types.specs.declared.meta_answer.MetaAnswer.{MetaAnswer}
use Rattle.dl_formats.specs.declared.segment.SegmentMeta.{SegmentMeta}
use Rattle.dl_formats.specs.declared.segment_name.SegmentName.{SegmentName}
use Rattle.dl_msg.specs.declared.msg.Msg.{Msg}
use Rattle.dl_rules_ledger.specs.Readers.{ReaderStage}
use Rattle.dl_rules_stream.specs.Orders.{Wait}
use Rattle.dl_rules_stream.specs.LogReaders as rule
use Rattle.dl_reader.specs.declared.span.Span.{Span}
use Rattle.dl_reader.specs.declared.stage.Stage.{Stage}
use Rattle.dl_reader.specs.declared.stage.Stage.TheVariants as kept
use Rattle.dl_reader.specs.declared.step.After.{After}
use Rattle.dl_reader.specs.declared.walk.Walk.{Walk}
use Rattle.dl_reader.specs.Standing.{StageStands}
use Rattle.dl_reader.specs.Steps.{IsAfter}
use Rattle.dl_reader.specs.Walks.{IsWalk}

-- it waits for the list
pub at_listing : (r : rule.Read) (left : List SegmentName) (s : rule.ReadStage) → StageStands r left s kept.ListingCut → s ≡ rule.ListingCut r
at_listing r left rule.NoRead h = absurd h
at_listing r left (rule.ListingCut q) h = ap rule.ListingCut h
at_listing r left (rule.GettingSegment q n rest) h = absurd h
at_listing r left (rule.GettingLedger q m number rest) h = absurd h
at_listing r left (rule.CountingEntries q w inner) h = absurd h
at_listing r left (rule.FetchingEntry q w readable entry inner) h = absurd h

-- it waits for a segment's node
pub at_segment : (r : rule.Read) (left : List SegmentName) (name : SegmentName) (s : rule.ReadStage) → StageStands r left s (kept.GettingSegment name)
    → s ≡ rule.GettingSegment r name left
at_segment r left name rule.NoRead h = absurd h
at_segment r left name (rule.ListingCut q) h = absurd h
at_segment r left name (rule.GettingSegment q n rest) h = cc
at_segment r left name (rule.GettingLedger q m number rest) h = absurd h
at_segment r left name (rule.CountingEntries q w inner) h = absurd h
at_segment r left name (rule.FetchingEntry q w readable entry inner) h = absurd h

-- What is known of a read that waits for the node of a ledger: the number of the segment's name is kept nowhere.
pub record IsAtLedger (r : rule.Read) (left : List SegmentName) (m : SegmentMeta) (s : rule.ReadStage) : Type 0 where
  pub number : ℕ
  pub stage : s ≡ rule.GettingLedger r m number left

-- it waits for the node of a segment's ledger
pub at_ledger : (r : rule.Read) (left : List SegmentName) (m : SegmentMeta) (s : rule.ReadStage) → StageStands r left s (kept.GettingLedger m)
    → IsAtLedger r left m s
at_ledger r left m rule.NoRead h = absurd h
at_ledger r left m (rule.ListingCut q) h = absurd h
at_ledger r left m (rule.GettingSegment q n rest) h = absurd h
at_ledger r left m (rule.GettingLedger q k number rest) h = record { number = number; stage = cc }
at_ledger r left m (rule.CountingEntries q w inner) h = absurd h
at_ledger r left m (rule.FetchingEntry q w readable entry inner) h = absurd h

-- What is known of a read that counts entries.
pub record IsAtCounting (r : rule.Read) (left : List SegmentName) (k : Walk) (s : rule.ReadStage) : Type 0 where
  pub walk : rule.Walk
  pub inner : ReaderStage
  pub stage : s ≡ rule.CountingEntries r walk inner
  pub rest : walk.rest ≡ left
  pub stands : IsWalk walk inner k

-- it waits for the count of entries
pub at_counting : (r : rule.Read) (left : List SegmentName) (k : Walk) (s : rule.ReadStage) → StageStands r left s (kept.Counting k)
    → IsAtCounting r left k s
at_counting r left k rule.NoRead h = absurd h
at_counting r left k (rule.ListingCut q) h = absurd h
at_counting r left k (rule.GettingSegment q n rest) h = absurd h
at_counting r left k (rule.GettingLedger q m number rest) h = absurd h
at_counting r left k (rule.CountingEntries q w inner) h =
    record { walk = w; inner = inner; stage = ap (λ p. rule.CountingEntries p w inner) h.0.read; rest = h.0.left_are; stands = h.1 }
at_counting r left k (rule.FetchingEntry q w readable entry inner) h = absurd h

-- What is known of a read that fetches an entry.
pub record IsAtFetching (r : rule.Read) (left : List SegmentName) (k : Walk) (span : Span) (s : rule.ReadStage) : Type 0 where
  pub walk : rule.Walk
  pub inner : ReaderStage
  pub stage : s ≡ rule.FetchingEntry r walk span.readable span.entry inner
  pub rest : walk.rest ≡ left
  pub stands : IsWalk walk inner k

-- it waits for an entry
pub at_fetching : (r : rule.Read) (left : List SegmentName) (k : Walk) (span : Span) (s : rule.ReadStage) → StageStands r left s (kept.Fetching k span)
    → IsAtFetching r left k span s
at_fetching r left k span rule.NoRead h = absurd h
at_fetching r left k span (rule.ListingCut q) h = absurd h
at_fetching r left k span (rule.GettingSegment q n rest) h = absurd h
at_fetching r left k span (rule.GettingLedger q m number rest) h = absurd h
at_fetching r left k span (rule.CountingEntries q w inner) h = absurd h
at_fetching r left k span (rule.FetchingEntry q w readable entry inner) h =
    record { walk = w; inner = inner; stage = cc; rest = h.0.left_are; stands = h.1.0 }

-- ---- what it asked for

-- an answer about the list
pub answers_list : (x : rule.ReaderArgs) (r : rule.Read) (left : List SegmentName) (k : Stage) (a : MetaAnswer) (after : After) → k ≡ kept.ListingCut
    → IsAfter x r left (rule.ListingCut r) (rule.read_answers x (rule.ListingCut r) a) after
    → (s : rule.ReadStage) → StageStands r left s k → IsAfter x r left s (rule.read_answers x s a) after
answers_list x r left k a after is hears s stands =
    subst (λ (t : rule.ReadStage). IsAfter x r left t (rule.read_answers x t a) after)
    (sym (at_listing r left s (subst (StageStands r left s) is stands))) hears

-- one about a segment
pub answers_segment : (x : rule.ReaderArgs) (r : rule.Read) (left : List SegmentName) (k : Stage) (name : SegmentName) (a : MetaAnswer) (after : After)
    → k ≡ kept.GettingSegment name
    → IsAfter x r left (rule.GettingSegment r name left) (rule.read_answers x (rule.GettingSegment r name left) a) after
    → (s : rule.ReadStage) → StageStands r left s k → IsAfter x r left s (rule.read_answers x s a) after
answers_segment x r left k name a after is hears s stands =
    subst (λ (t : rule.ReadStage). IsAfter x r left t (rule.read_answers x t a) after)
    (sym (at_segment r left name s (subst (StageStands r left s) is stands))) hears

-- one about a segment's ledger
pub answers_ledger : (x : rule.ReaderArgs) (r : rule.Read) (left : List SegmentName) (k : Stage) (m : SegmentMeta) (a : MetaAnswer) (after : After)
    → k ≡ kept.GettingLedger m
    → ((number : ℕ) → IsAfter x r left (rule.GettingLedger r m number left) (rule.read_answers x (rule.GettingLedger r m number left) a) after)
    → (s : rule.ReadStage) → StageStands r left s k → IsAfter x r left s (rule.read_answers x s a) after
answers_ledger x r left k m a after is hears s stands =
    let at = at_ledger r left m s (subst (StageStands r left s) is stands) in
    subst (λ (t : rule.ReadStage). IsAfter x r left t (rule.read_answers x t a) after) (sym at.stage) (hears at.number)

-- a message, while it counts
pub told_count : (x : rule.ReaderArgs) (r : rule.Read) (left : List SegmentName) (k : Stage) (walk : Walk) (bookie : ℕ) (msg : Msg) (after : After)
    → k ≡ kept.Counting walk
    → ((w : rule.Walk) (inner : ReaderStage) → IsWalk w inner walk → w.rest ≡ left
    → IsAfter x r left (rule.CountingEntries r w inner) (rule.read_told x (rule.CountingEntries r w inner) bookie msg) after)
    → (s : rule.ReadStage) → StageStands r left s k → IsAfter x r left s (rule.read_told x s bookie msg) after
told_count x r left k walk bookie msg after is hears s stands =
    let at = at_counting r left walk s (subst (StageStands r left s) is stands) in
    subst (λ (t : rule.ReadStage). IsAfter x r left t (rule.read_told x t bookie msg) after) (sym at.stage)
    (hears at.walk at.inner at.stands at.rest)

-- one while it fetches
pub told_entry : (x : rule.ReaderArgs) (r : rule.Read) (left : List SegmentName) (k : Stage) (walk : Walk) (span : Span) (bookie : ℕ) (msg : Msg)
    (after : After) → k ≡ kept.Fetching walk span
    → ((w : rule.Walk) (inner : ReaderStage) → IsWalk w inner walk → w.rest ≡ left
    → IsAfter x r left (rule.FetchingEntry r w span.readable span.entry inner)
    (rule.read_told x (rule.FetchingEntry r w span.readable span.entry inner) bookie msg) after)
    → (s : rule.ReadStage) → StageStands r left s k → IsAfter x r left s (rule.read_told x s bookie msg) after
told_entry x r left k walk span bookie msg after is hears s stands =
    let at = at_fetching r left walk span s (subst (StageStands r left s) is stands) in
    subst (λ (t : rule.ReadStage). IsAfter x r left t (rule.read_told x t bookie msg) after) (sym at.stage)
    (hears at.walk at.inner at.stands at.rest)

-- ---- what it didn't ask for

-- an answer, where it waits for none
pub answers_stay : (x : rule.ReaderArgs) (r : rule.Read) (left : List SegmentName) (s : rule.ReadStage) (k : Stage) (a : MetaAnswer) → StageStands r left s k
    → k ≢ kept.ListingCut → ((name : SegmentName) → k ≢ kept.GettingSegment name) → ((m : SegmentMeta) → k ≢ kept.GettingLedger m)
    → rule.read_answers x s a ≡ (s, Wait)
unfolding rule.read_answers
answers_stay x r left rule.NoRead k a h list name ledger = refl
answers_stay x r left (rule.CountingEntries q w inner) k a h list name ledger = refl
answers_stay x r left (rule.FetchingEntry q w readable entry inner) k a h list name ledger = refl
answers_stay x r left (rule.ListingCut q) kept.NoRead a h list name ledger = absurd h
answers_stay x r left (rule.ListingCut q) kept.ListingCut a h list name ledger = absurd (list refl)
answers_stay x r left (rule.ListingCut q) (kept.GettingSegment n) a h list name ledger = absurd h
answers_stay x r left (rule.ListingCut q) (kept.GettingLedger m) a h list name ledger = absurd h
answers_stay x r left (rule.ListingCut q) (kept.Counting walk) a h list name ledger = absurd h
answers_stay x r left (rule.ListingCut q) (kept.Fetching walk span) a h list name ledger = absurd h
answers_stay x r left (rule.GettingSegment q o rest) kept.NoRead a h list name ledger = absurd h
answers_stay x r left (rule.GettingSegment q o rest) kept.ListingCut a h list name ledger = absurd h
answers_stay x r left (rule.GettingSegment q o rest) (kept.GettingSegment n) a h list name ledger = absurd (name n refl)
answers_stay x r left (rule.GettingSegment q o rest) (kept.GettingLedger m) a h list name ledger = absurd h
answers_stay x r left (rule.GettingSegment q o rest) (kept.Counting walk) a h list name ledger = absurd h
answers_stay x r left (rule.GettingSegment q o rest) (kept.Fetching walk span) a h list name ledger = absurd h
answers_stay x r left (rule.GettingLedger q o number rest) kept.NoRead a h list name ledger = absurd h
answers_stay x r left (rule.GettingLedger q o number rest) kept.ListingCut a h list name ledger = absurd h
answers_stay x r left (rule.GettingLedger q o number rest) (kept.GettingSegment n) a h list name ledger = absurd h
answers_stay x r left (rule.GettingLedger q o number rest) (kept.GettingLedger m) a h list name ledger = absurd (ledger m refl)
answers_stay x r left (rule.GettingLedger q o number rest) (kept.Counting walk) a h list name ledger = absurd h
answers_stay x r left (rule.GettingLedger q o number rest) (kept.Fetching walk span) a h list name ledger = absurd h

-- a message, where it walks no segment
pub messages_stay : (x : rule.ReaderArgs) (r : rule.Read) (left : List SegmentName) (s : rule.ReadStage) (k : Stage) (bookie : ℕ) (msg : Msg)
    → StageStands r left s k → ((walk : Walk) → k ≢ kept.Counting walk) → ((walk : Walk) (span : Span) → k ≢ kept.Fetching walk span)
    → rule.read_told x s bookie msg ≡ (s, Wait)
messages_stay x r left rule.NoRead k bookie msg h count fetch = refl
messages_stay x r left (rule.ListingCut q) k bookie msg h count fetch = refl
messages_stay x r left (rule.GettingSegment q n rest) k bookie msg h count fetch = refl
messages_stay x r left (rule.GettingLedger q m number rest) k bookie msg h count fetch = refl
messages_stay x r left (rule.CountingEntries q w inner) kept.NoRead bookie msg h count fetch = absurd h
messages_stay x r left (rule.CountingEntries q w inner) kept.ListingCut bookie msg h count fetch = absurd h
messages_stay x r left (rule.CountingEntries q w inner) (kept.GettingSegment n) bookie msg h count fetch = absurd h
messages_stay x r left (rule.CountingEntries q w inner) (kept.GettingLedger m) bookie msg h count fetch = absurd h
messages_stay x r left (rule.CountingEntries q w inner) (kept.Counting walk) bookie msg h count fetch = absurd (count walk refl)
messages_stay x r left (rule.CountingEntries q w inner) (kept.Fetching walk span) bookie msg h count fetch = absurd h
messages_stay x r left (rule.FetchingEntry q w readable entry inner) kept.NoRead bookie msg h count fetch = absurd h
messages_stay x r left (rule.FetchingEntry q w readable entry inner) kept.ListingCut bookie msg h count fetch = absurd h
messages_stay x r left (rule.FetchingEntry q w readable entry inner) (kept.GettingSegment n) bookie msg h count fetch = absurd h
messages_stay x r left (rule.FetchingEntry q w readable entry inner) (kept.GettingLedger m) bookie msg h count fetch = absurd h
messages_stay x r left (rule.FetchingEntry q w readable entry inner) (kept.Counting walk) bookie msg h count fetch = absurd h
messages_stay x r left (rule.FetchingEntry q w readable entry inner) (kept.Fetching walk span) bookie msg h count fetch = absurd (fetch walk span refl)
