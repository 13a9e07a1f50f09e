-- What holds of the names of children, and of log writers.
use Rattle.std.specs.Prelude.{◌≡◌, ℕ, List, Some, length}
use Rattle.dl_formats.specs.declared.segment_name.SegmentName.{SegmentName}
use Rattle.dl_fields.specs.Digits.{HasTenDigits}
use Rattle.dl_formats.specs.Children.{segment_name, IsSegmentName, member_name}
use Rattle.dl_rules_stream.specs.Listings.{segment_in, member_in}
use Rattle.dl_rules_stream.specs.LogWriters.{LogArgs, LogCall, log_of, sent_count}

-- A name is read as the segment or the member that it names, and what is read is named so.
pub record NamesAreRead : Type 0 where
  pub segment : (x : SegmentName) → IsSegmentName x → segment_in (segment_name x) ≡ Some x
  pub member : (n : ℕ) → HasTenDigits n → member_in (member_name n) ≡ Some n
  pub segment_found : (name : List ℕ) (x : SegmentName) → segment_in name ≡ Some x → IsSegmentName x × (name ≡ segment_name x)
  pub member_found : (name : List ℕ) (n : ℕ) → member_in name ≡ Some n → HasTenDigits n × (name ≡ member_name n)

-- as many entries are kept of a log writer with their rows as its ledger's writer has sent
abbrev pub EntriesAreSent : Type 0
EntriesAreSent = (x : LogArgs) (calls : List LogCall) → length (log_of x calls).entries ≡ sent_count (log_of x calls)
