-- Names of children are read as the rules say.
use Rattle.std.proofs.Common.{◌≡◌, ℕ, List, Option, Some, None, IfSome, refl, sym, subst}
use Rattle.dl_fields.specs.Digits.{HasTenDigits}
use Rattle.dl_formats.specs.declared.segment_name.SegmentName.{SegmentName}
use Rattle.dl_formats.specs.Children.{segment_name, IsSegmentName, member_name}
use Rattle.dl_rules_stream.specs.Listings.{segment_in, member_in}
use Rattle.dl_rules_stream.proofs.NameLaws.{names_are_read}

-- what is read of a member's name, and only of that, is what the rule reads
pub member_same : (name : List ℕ) (read : Option ℕ) → IfSome read (λ n. HasTenDigits n × (name ≡ member_name n))
    → ((n : ℕ) → HasTenDigits n → name ≡ member_name n → read ≡ Some n) → read ≡ member_in name
member_same name None found only = go (member_in name) refl
  where
    go : (rule : Option ℕ) → member_in name ≡ rule → None ≡ rule
    go None e = refl
    go (Some n) e = let f = names_are_read.member_found name n e in only n f.0 f.1
member_same name (Some n) found only =
    subst (λ xs. Some n ≡ member_in xs) (sym found.1) (sym (names_are_read.member n found.0))

-- what is read of a segment's name, and only of that, is what the rule reads
pub segment_same : (name : List ℕ) (read : Option SegmentName) → IfSome read (λ x. IsSegmentName x × (name ≡ segment_name x))
    → ((x : SegmentName) → IsSegmentName x → name ≡ segment_name x → read ≡ Some x) → read ≡ segment_in name
segment_same name None found only = go (segment_in name) refl
  where
    go : (rule : Option SegmentName) → segment_in name ≡ rule → None ≡ rule
    go None e = refl
    go (Some x) e = let f = names_are_read.segment_found name x e in only x f.0 f.1
segment_same name (Some x) found only =
    subst (λ xs. Some x ≡ segment_in xs) (sym found.1) (sym (names_are_read.segment x found.0))
