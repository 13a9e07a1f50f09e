-- The payloads of a line are no longer than the line.
use Rattle.std.proofs.Common.{◌≡◌, ℕ, suc, ◌+◌, ◌*◌, ◌≤◌, List, [], ◌∷◌, ◌++◌, length, length-append, ap, arith}
use Rattle.std.proofs.lemmas.List.Sums.{sum_by-cons}
use Rattle.std.specs.Prelude.{sum_by}
use Rattle.dl_text.specs.Hex.{pairs, hex}
use Rattle.dl_text.specs.ListFields.{list_field}
use Rattle.dl_text.specs.Numbers.{number}
use Rattle.dl_schedule.specs.declared.step.Step.{Step}
use Rattle.dl_schedule.specs.declared.step.Step.TheVariants as step
use Rattle.dl_schedule.specs.StepLines.{step_line, other_words, first_word_of, space, line_feed}
use Rattle.dl_schedule.specs.Words.{first_text}
use Rattle.dl_rules_client.specs.EventRanges.{IsCountable}
use Rattle.dl_machine.specs.Limits.{most_schedule}

-- two digits a byte
pairs_long : (bytes : List ℕ) → length bytes ≤ length (pairs bytes)
pairs_long [] = omega arith
pairs_long (b ∷ bytes) = omega (arith, pairs_long bytes)

-- a field of bytes is longer than the bytes
hex_long : (end : ℕ) (bytes : List ℕ) → suc (length bytes) ≤ length (hex end bytes)
hex_long end [] = omega arith
hex_long end (b ∷ bytes) = omega (arith, pairs_long (b ∷ bytes), length-append (pairs (b ∷ bytes)) (end ∷ []))

-- the fields of payloads
list_long : (payloads : List (List ℕ)) → sum_by (λ payload. 4 + length payload) payloads ≤ 5 * length (list_field hex payloads)
list_long [] = omega arith
list_long (p ∷ []) = omega (arith, hex_long line_feed p)
list_long (p ∷ q ∷ others) =
    let first = sum_by-cons (λ payload. 4 + length payload) p (q ∷ others) in
    omega (arith, first, hex_long space p, list_long (q ∷ others), length-append (hex space p) (list_field hex (q ∷ others)))

-- the last of three words is no longer than all of them
third_long : (a b c : List ℕ) → length c ≤ length (a ++ (b ++ c))
third_long a b c = omega (arith, length-append a (b ++ c), length-append b c)

-- a line is no shorter than its words behind the first
words_long : (x : Step) (line : List ℕ) → line ≡ step_line x → length (other_words x) ≤ length line
words_long x line e =
    let same : length line ≡ length (step_line x) = ap length e in omega (arith, same, length-append (first_text (first_word_of x)) (other_words x))

-- the payloads of a line of a schedule
pub line_countable : (x : Step) (line : List ℕ) → line ≡ step_line x → length line ≤ most_schedule → IsCountable x
line_countable (step.Append c t p) line e few =
    omega (arith, few, words_long (step.Append c t p) line e, hex_long line_feed p, third_long (number space c) (number space t) (hex line_feed p))
line_countable (step.Set c t ps) line e few =
    omega (arith, few, words_long (step.Set c t ps) line e, list_long ps, third_long (number space c) (number space t) (list_field hex ps))
line_countable x line e few = tt
