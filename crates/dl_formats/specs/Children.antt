-- The names of the children of a stream's nodes `segs` and `lock`.
use Rattle.std.specs.Prelude.{ℕ, ◌≤◌, List, ◌++◌, codes}
use Rattle.dl_formats.specs.declared.segment_name.SegmentName.{SegmentName}
use Rattle.dl_formats.specs.declared.segment_name.SegmentName.TheVariants.{Progress, Completed}
use Rattle.dl_fields.specs.Digits.{digits, HasTenDigits}

-- the name of a segment's node: a letter that says whether the segment is complete, and its number
abbrev pub segment_name : SegmentName → List ℕ
segment_name (Progress k) = codes "p" ++ digits 10 k
segment_name (Completed k) = codes "c" ++ digits 10 k

-- the number of a segment has ten digits, and isn't 0
abbrev pub IsSegmentNumber : ℕ → Type 0
IsSegmentNumber k = (1 ≤ k) × HasTenDigits k

-- the names of segments whose number has that form
abbrev pub IsSegmentName : SegmentName → Type 0
IsSegmentName (Progress k) = IsSegmentNumber k
IsSegmentName (Completed k) = IsSegmentNumber k

-- the name of a member's node
abbrev pub member_name : ℕ → List ℕ
member_name n = codes "m-" ++ digits 10 n
