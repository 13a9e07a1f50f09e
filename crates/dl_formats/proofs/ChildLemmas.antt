-- The names of children say one thing each.
use Rattle.std.proofs.Common.{◌≡◌, ℕ, ◌-◌, List, length, take, drop, get_or, Option, Some, None, MatchOption, sym, ap, ◌∙◌, arith}
use Rattle.std.proofs.lemmas.List.{take_rest}
use Rattle.dl_formats.specs.declared.segment_name.SegmentName.{SegmentName}
use Rattle.dl_formats.specs.declared.segment_name.SegmentName.TheVariants.{Progress, Completed}
use Rattle.dl_fields.specs.Digits.{digits, HasTenDigits}
use Rattle.dl_formats.specs.Children.{segment_name, IsSegmentName, member_name}
use Rattle.dl_fields.proofs.DigitLemmas.{same_digits}

-- what stands behind the first bytes, as a pattern takes it
abbrev pub behind : ℕ → List ℕ → List ℕ
behind n name = take (length name - n) (drop n name)

-- What stands behind the first bytes is the rest.
behind_is : (n : ℕ) (name : List ℕ) → behind n name ≡ drop n name
behind_is n name = take_rest name n

-- Ten digits spell one number.
same_number : (text : List ℕ) (k n : ℕ) → HasTenDigits k → text ≡ digits 10 k → HasTenDigits n → text ≡ digits 10 n → k ≡ n
same_number text k n a e b f = same_digits 10 k n a b (sym e ∙ f)

-- Where a search for ten digits behind two bytes has this result, a member's name gives that member.
pub member_only : (name : List ℕ) (result : Option ℕ)
    → MatchOption result ((k : ℕ) → behind 2 name ≡ digits 10 k → ⊥) (λ k. HasTenDigits k × (behind 2 name ≡ digits 10 k)) → (n : ℕ) → HasTenDigits n
    → name ≡ member_name n → result ≡ Some n
member_only name None h n ten spelt = absurd (h n (behind_is 2 name ∙ ap (drop 2) spelt))
member_only name (Some k) h n ten spelt = ap Some (same_number (drop 2 name) k n h.0 (sym (behind_is 2 name) ∙ h.1) ten (ap (drop 2) spelt))

-- the digits of a segment's name are those of its number, which isn't 0
pub zero_only : (name : List ℕ) (k : ℕ) → HasTenDigits k → behind 1 name ≡ digits 10 k → k ≡ 0 → (s : SegmentName) → IsSegmentName s → name ≡ segment_name s → ⊥
zero_only name k ten text zero (Progress n) valid spelt = let same : k ≡ n =
    same_number (drop 1 name) k n ten (sym (behind_is 1 name) ∙ text) valid.1 (ap (drop 1) spelt) in omega (arith, valid.0)
zero_only name k ten text zero (Completed n) valid spelt = let same : k ≡ n =
    same_number (drop 1 name) k n ten (sym (behind_is 1 name) ∙ text) valid.1 (ap (drop 1) spelt) in omega (arith, valid.0)

-- A name that begins with `p` is that of the segment in progress with the number that its digits spell.
pub progress_only : (name : List ℕ) (k : ℕ) → HasTenDigits k → behind 1 name ≡ digits 10 k → get_or name 0 0 ≡ 112 → (s : SegmentName)
    → IsSegmentName s → name ≡ segment_name s → Progress k ≡ s
progress_only name k ten text letter (Progress n) valid spelt =
    ap Progress (same_number (drop 1 name) k n ten (sym (behind_is 1 name) ∙ text) valid.1 (ap (drop 1) spelt))
progress_only name k ten text letter (Completed n) valid spelt = let other : get_or name 0 0 ≡ 99 = ap (λ (t : List ℕ). get_or t 0 0) spelt in
    absurd (omega (arith, other, letter))

-- A name that begins with `c` is that of the completed segment with the number that its digits spell.
pub completed_only : (name : List ℕ) (k : ℕ) → HasTenDigits k → behind 1 name ≡ digits 10 k → get_or name 0 0 ≡ 99 → (s : SegmentName)
    → IsSegmentName s → name ≡ segment_name s → Completed k ≡ s
completed_only name k ten text letter (Completed n) valid spelt =
    ap Completed (same_number (drop 1 name) k n ten (sym (behind_is 1 name) ∙ text) valid.1 (ap (drop 1) spelt))
completed_only name k ten text letter (Progress n) valid spelt = let other : get_or name 0 0 ≡ 112 = ap (λ (t : List ℕ). get_or t 0 0) spelt in
    absurd (omega (arith, other, letter))
