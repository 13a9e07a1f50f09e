-- Each line of an early schedule is read exactly.
use Rattle.std.proofs.Common.{◌≡◌, ℕ, ◌<◌, List, [], ◌∷◌, ◌++◌, Option, Some, None, Ok, refl, sym, ap, lit<, lit≤}
use Rattle.std.specs.List.{AllByRecursion}
use Rattle.dl_text.specs.Readers.{Exact}
use Rattle.dl_text.specs.Numbers.{number, IsWithin}
use Rattle.dl_text.specs.Hex.{AllBytes}
use Rattle.dl_text.specs.Words.{words_from}
use Rattle.dl_text.proofs.ReaderLemmas.{then_exact, made_exact}
use Rattle.dl_text.proofs.NumberLemmas.{number_exact}
use Rattle.dl_text.proofs.PlaceLemmas.{low_byte}
use Rattle.dl_text.proofs.HexLemmas.{hex_exact}
use Rattle.dl_text.proofs.WordLemmas.{words_exact, one_word_exact}
use Rattle.dl_schedule.specs.declared.step.Step.{Step}
use Rattle.dl_schedule.specs.declared.step.Step.TheVariants.{Append, Flush, Settle}
use Rattle.dl_schedule.specs.declared.words.FirstWord.{FirstWord}
use Rattle.dl_schedule.specs.declared.words.FirstWord.TheVariants as word
use Rattle.dl_schedule.specs.declared.opening.Opening.{Opening}
use Rattle.dl_schedule.specs.Words.{first_text}
use Rattle.dl_schedule.specs.StepLines.{space, line_feed, first_word_of, other_words, step_line, IsTxid}
use Rattle.dl_schedule.specs.EarlyLines.{opening_step, opening_text, opening_at, IsFree, IsSaidBy, IsEarly}
use Rattle.dl_schedule.specs.EarlyReading.{only_client_at, free_append_at, free_flush_at, free_words, free_rest_at, free_at, fixed_at, said_at}
use Rattle.dl_schedule.proofs.FieldExactness.{nothing_exact, txid}

-- first words

-- a free line begins with this word
abbrev IsFreeWord : FirstWord → Type 0
IsFreeWord word.Append = Unit {0}
IsFreeWord word.Flush = Unit {0}
IsFreeWord word.Settle = Unit {0}
IsFreeWord _ = ⊥

-- the first word of a free line is read as itself, whatever follows
word_again : (w : FirstWord) (rest : List ℕ) → IsFreeWord w → words_from first_text 0 free_words (first_text w ++ rest) ≡ Ok (w, rest)
word_again word.Append rest u = refl
word_again word.Flush rest u = refl
word_again word.Settle rest u = refl
word_again _ rest u = absurd u

-- what holds of each first word in the list holds of each first word of a free line
every_word : (P : FirstWord → Type 0) → AllByRecursion P free_words → (w : FirstWord) → IsFreeWord w → P w
every_word P all word.Append u = all.0
every_word P all word.Flush u = all.1.0
every_word P all word.Settle u = all.1.1.0
every_word P all _ u = absurd u

-- the first word of a free line is read exactly
word_exact : Exact IsFreeWord first_text (words_from first_text 0 free_words)
word_exact = words_exact IsFreeWord first_text word.Append (word.Flush ∷ word.Settle ∷ []) (tt, (tt, (tt, tt))) word_again every_word

-- free lines behind their first words

-- the number of the only client is read exactly
only_client : (end : ℕ) → end < 48 → Exact (IsWithin 0 0) (number end) (only_client_at end)
only_client end low = number_exact 0 0 end (record { low_high = lit≤ tt; low_small = lit≤ tt; high_fits = lit< tt; end_apart = low_byte end low })

-- a step of a free line that begins with this word
abbrev IsLine : FirstWord → Step → Type 0
IsLine w s = IsFree s × (first_word_of s ≡ w)

-- an append of the only client is read exactly behind its first word
append_exact : Exact (IsLine word.Append) other_words free_append_at
append_exact = made_exact _ _ _ (λ x. Append x.0 x.1.0 x.1.1) (IsLine word.Append) other_words
    (then_exact _ _ _ _ _ _ (only_client space (lit< tt)) (λ c v. then_exact _ _ _ _ _ _ (txid space (lit< tt)) (λ t w. hex_exact line_feed (lit< tt))))
    (λ x v. ((v, refl), refl)) from
  where
    from : (s : Step) → IsLine word.Append s → (x : ℕ × (ℕ × List ℕ)) × (IsWithin 0 0 x.0 × (IsTxid x.1.0 × AllBytes x.1.1)) × (Append x.0 x.1.0 x.1.1 ≡ s)
    from (Append c t p) w = ((c, (t, p)), w.0, refl)
    from _ w = absurd (let e = w.1 in cc)

-- a flush of the only client is read exactly behind its first word
flush_exact : Exact (IsLine word.Flush) other_words free_flush_at
flush_exact = made_exact _ _ _ Flush (IsLine word.Flush) other_words (only_client line_feed (lit< tt)) (λ c v. ((v, refl), refl)) from
  where
    from : (s : Step) → IsLine word.Flush s → (c : ℕ) × IsWithin 0 0 c × (Flush c ≡ s)
    from (Flush c) w = (c, w.0, refl)
    from _ w = absurd (let e = w.1 in cc)

-- a settle is read exactly behind its first word
settle_exact : Exact (IsLine word.Settle) other_words (free_rest_at word.Settle)
settle_exact = nothing_exact Settle (IsLine word.Settle) other_words (tt, refl) refl only
  where
    only : (s : Step) → IsLine word.Settle s → s ≡ Settle
    only Settle w = refl
    only _ w = absurd (let e = w.1 in cc)

-- free lines

-- a free line is read exactly behind its first word
rest_exact : (w : FirstWord) → IsFreeWord w → Exact (IsLine w) other_words (free_rest_at w)
rest_exact word.Append u = append_exact
rest_exact word.Flush u = flush_exact
rest_exact word.Settle u = settle_exact
rest_exact _ u = absurd u

-- a free line is read exactly
free_exact : Exact IsFree step_line free_at
free_exact = made_exact _ _ _ (λ x. x.1) IsFree step_line
    (then_exact _ _ _ IsLine (λ w. other_words) free_rest_at word_exact rest_exact)
    (λ x v. (v.1.0, ap (λ (w : FirstWord). first_text w ++ other_words x.1) v.1.1)) from
  where
    from : (s : Step) → IsFree s → (x : FirstWord × Step) × (IsFreeWord x.0 × IsLine x.0 x.1) × (x.1 ≡ s)
    from (Append c t p) w = ((word.Append, Append c t p), (tt, (w, refl)), refl)
    from (Flush c) w = ((word.Flush, Flush c), (tt, (w, refl)), refl)
    from Settle w = ((word.Settle, Settle), (tt, (w, refl)), refl)
    from _ w = absurd w

-- opening lines

-- an opening line is read exactly, as its step
fixed_exact : (o : Opening) → Exact (λ s. s ≡ opening_step o) step_line (fixed_at o)
fixed_exact o = made_exact _ _ _ opening_step (λ s. s ≡ opening_step o) step_line (one_word_exact opening_text o)
    (λ k v. (ap opening_step v, refl)) (λ s w. (o, refl, sym w))

-- the opening line, or a free line where there is none, is read exactly
said_exact : (o : Option Opening) → Exact (IsSaidBy o) step_line (said_at o)
said_exact (Some o) = fixed_exact o
said_exact None = free_exact

-- The line of each number is read exactly.
pub early_exact : (n : ℕ) → Exact (IsEarly n) step_line (said_at (opening_at n))
early_exact n = said_exact (opening_at n)
