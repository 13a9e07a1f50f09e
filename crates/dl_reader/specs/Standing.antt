-- A read stands at a stage of the rule.
use Rattle.std.specs.Prelude.{◌≡◌, ℕ, List}
use Rattle.dl_formats.specs.declared.segment_name.SegmentName.{SegmentName}
use Rattle.dl_rules_stream.specs.LogReaders as rule
use Rattle.dl_reader.specs.declared.stage.Stage.{Stage}
use Rattle.dl_reader.specs.declared.stage.Stage.TheVariants as kept
use Rattle.dl_reader.specs.declared.span.Span.{Span}
use Rattle.dl_reader.specs.Walks.{IsWalk}

-- a stage of the rule is that of this read, with these segments left
pub record IsOf (r : rule.Read) (left : List SegmentName) (q : rule.Read) (rest : List SegmentName) : Type 0 where
  pub read : q ≡ r
  pub left_are : rest ≡ left

-- the entry that is fetched, and the count of those that can be read
pub record IsSpan (readable entry : ℕ) (k : Span) : Type 0 where
  pub readable_is : k.readable ≡ readable
  pub entry_is : k.entry ≡ entry

-- a kept stage stands for a stage of the rule, beside this read and the segments that are left
abbrev pub StageStands : rule.Read → List SegmentName → rule.ReadStage → Stage → Type 0
StageStands r left rule.NoRead kept.NoRead = Unit {0}
StageStands r left (rule.ListingCut q) kept.ListingCut = q ≡ r
StageStands r left (rule.GettingSegment q segment rest) (kept.GettingSegment s) = IsOf r left q rest × (s ≡ segment)
StageStands r left (rule.GettingLedger q m number rest) (kept.GettingLedger s) = IsOf r left q rest × (s ≡ m)
StageStands r left (rule.CountingEntries q w s) (kept.Counting walk) = IsOf r left q w.rest × IsWalk w s walk
StageStands r left (rule.FetchingEntry q w readable entry s) (kept.Fetching walk span) = IsOf r left q w.rest × (IsWalk w s walk × IsSpan readable entry span)
StageStands r left _ _ = ⊥
