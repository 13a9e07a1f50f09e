-- The lines of a text whose bytes come in pieces.
use Rattle.std.proofs.Common.{◌≡◌, ℕ, zero, suc, ◌+◌, ◌<◌, ◌≤◌, false, eqb, List, [], ◌∷◌, ◌++◌, length, take}
use Rattle.std.proofs.Common.{drop, get_or, Some, None, refl, sym, ap, ◌∙◌, append_assoc, arith, add-one}
use Rattle.std.proofs.lemmas.Bool.{or_parts, ne_eqb, eq-eqb, eqb-true}
use Rattle.std.proofs.lemmas.List.{take-append-drop, take_more, take_all}
use Rattle.memchr.specs.Find.{IsFirstByte, Nowhere, Passes, is_byte}
use Rattle.dl_text.specs.TextLines.{onto_first, lines_of, has_feed, IsFirstLine}

-- bytes without a line feed have none in front and none behind
feed_parts : (b : ℕ) (bytes : List ℕ) → has_feed (b ∷ bytes) ≡ false → (eqb b 10 ≡ false) × (has_feed bytes ≡ false)
feed_parts b bytes h = or_parts (eqb b 10) (has_feed bytes) h

-- two texts without a line feed have none together
pub feed_both : (a b : List ℕ) → has_feed a ≡ false → has_feed b ≡ false → has_feed (a ++ b) ≡ false
feed_both [] b h k = k
feed_both (x ∷ a) b h k = let p = feed_parts x a h in rw p.0 (feed_both a b p.1 k)

-- a byte that is no line feed stands in front of the first line of what follows
no_feed : (b : ℕ) (bytes : List ℕ) → eqb b 10 ≡ false → lines_of (b ∷ bytes) ≡ onto_first b (lines_of bytes)
no_feed b bytes h = rw h refl

-- a line feed ends the first line
pub lines_first : (init rest : List ℕ) → has_feed init ≡ false → lines_of (init ++ 10 ∷ rest) ≡ (init ++ 10 ∷ []) ∷ lines_of rest
lines_first [] rest h = refl
lines_first (b ∷ init) rest h = let p = feed_parts b init h in no_feed b (init ++ 10 ∷ rest) p.0 ∙ ap (onto_first b) (lines_first init rest p.1)

-- bytes without a line feed are one line
pub lines_last : (b : ℕ) (bytes : List ℕ) → has_feed (b ∷ bytes) ≡ false → lines_of (b ∷ bytes) ≡ (b ∷ bytes) ∷ []
lines_last b [] h = no_feed b [] (feed_parts b [] h).0
lines_last b (c ∷ bytes) h = let p = feed_parts b (c ∷ bytes) h in no_feed b (c ∷ bytes) p.0 ∙ ap (onto_first b) (lines_last c bytes p.1)

-- the first line of a text that begins so
pub record BeginsLine (front more : List ℕ) : Type 0 where
  pub tail : List ℕ
  pub later : List (List ℕ)
  pub parts : lines_of (front ++ more) ≡ (front ++ tail) ∷ later

-- a byte that is no line feed begins the first line, whatever the lines behind it are
begins_go : (b : ℕ) (more : List ℕ) (ls : List (List ℕ)) → lines_of (b ∷ more) ≡ onto_first b ls → BeginsLine (b ∷ []) more
begins_go b more [] e = record { tail = []; later = []; parts = e }
begins_go b more (l ∷ ls) e = record { tail = l; later = ls; parts = e }

-- bytes without a line feed begin the first line, whatever follows
pub lines_begin : (b : ℕ) (bytes more : List ℕ) → has_feed (b ∷ bytes) ≡ false → BeginsLine (b ∷ bytes) more
lines_begin b [] more h = begins_go b more (lines_of more) (no_feed b more (feed_parts b [] h).0)
lines_begin b (c ∷ bytes) more h =
    let p = feed_parts b (c ∷ bytes) h in
    let w = lines_begin c bytes more p.1 in
    record { tail = w.tail; later = w.later; parts = no_feed b (c ∷ bytes ++ more) p.0 ∙ ap (onto_first b) w.parts }

-- the first line of what is pending, a piece and what follows it
pub lines_split : (pending rest line after more : List ℕ) → has_feed pending ≡ false → IsFirstLine rest line after
    → lines_of (pending ++ (rest ++ more)) ≡ (pending ++ line) ∷ lines_of (after ++ more)
lines_split pending rest line after more plain first =
    let whole : pending ++ (rest ++ more) ≡ (pending ++ first.init) ++ 10 ∷ (after ++ more) =
    ap (λ (t : List ℕ). pending ++ (t ++ more)) (first.parts ∙ ap (λ (t : List ℕ). t ++ after) first.feed) ∙ regroup pending first.init after more in
    let line_is : (pending ++ first.init) ++ 10 ∷ [] ≡ pending ++ line = append_assoc pending first.init (10 ∷ [])
    ∙ ap (λ (t : List ℕ). pending ++ t) (sym first.feed) in
    ap lines_of whole ∙ lines_first (pending ++ first.init) (after ++ more) (feed_both pending first.init plain first.plain)
    ∙ ap (λ (t : List ℕ). t ∷ lines_of (after ++ more)) line_is
  where
    regroup : (a b c d : List ℕ) → a ++ (((b ++ 10 ∷ []) ++ c) ++ d) ≡ (a ++ b) ++ 10 ∷ (c ++ d)
    regroup a b c d = ap (λ (t : List ℕ). a ++ t) (ap (λ (t : List ℕ). t ++ d) (append_assoc b (10 ∷ []) c) ∙ append_assoc b (10 ∷ c) d)
        ∙ sym (append_assoc a b (10 ∷ (c ++ d)))

-- a search goes on past a byte that is no line feed
pub search_on : (text : List ℕ) (i : ℕ) → i < length text → has_feed (take i text) ≡ false → (get_or text i 0 ≡ 10 → ⊥) → has_feed (take (i + 1) text) ≡ false
search_on text i within plain other =
    ap has_feed (take_more text i 0 within) ∙ feed_both (take i text) (get_or text i 0 ∷ []) plain (rw (ne_eqb (get_or text i 0) 10 other) refl)

-- no line feed stands where a search met none
none_before : (text : List ℕ) (n : ℕ) → n ≤ length text → Nowhere (Passes (is_byte 10) text) 0 n → has_feed (take n text) ≡ false
none_before text zero within none = refl
none_before text (suc n) within none =
    let more : has_feed (take (n + 1) text) ≡ false = search_on text n (omega arith)
    (none_before text n (omega arith) (λ k low high. none k low (omega arith)))
    (λ is. none n (omega arith) (omega arith) (eq-eqb (get_or text n 0) 10 is)) in
    rw add-one at more

-- a search that met no line feed
pub no_line : (text : List ℕ) → IsFirstByte (is_byte 10) text None → has_feed text ≡ false
no_line text none = ap has_feed (sym (take_all (length text) text (omega arith))) ∙ none_before text (length text) (omega arith) none

-- a search that met a line feed first at this place has met the end of the first line
pub first_line_at : (text line rest : List ℕ) (k : ℕ) → IsFirstByte (is_byte 10) text (Some k) → line ≡ take (k + 1) text → rest ≡ drop (k + 1) text
    → IsFirstLine text line rest
first_line_at text line rest k met front back = record {
  init = take k text;
  plain = none_before text k (omega (arith, met.0.high)) met.0.before;
  feed = front ∙ take_more text k 0 met.0.high ∙ ap (λ (b : ℕ). take k text ++ b ∷ []) (eqb-true (get_or text k 0) 10 met.1);
  parts = sym (take-append-drop (k + 1) text) ∙ ap (λ (t : List ℕ). t ++ drop (k + 1) text) (sym front) ∙ ap (λ (t : List ℕ). line ++ t) (sym back);
}

-- a text is its first line and the lines of the rest
pub first_then_rest : (text line rest : List ℕ) → IsFirstLine text line rest → lines_of text ≡ line ∷ lines_of rest
first_then_rest text line rest first =
    ap lines_of (first.parts ∙ ap (λ (t : List ℕ). t ++ rest) first.feed ∙ append_assoc first.init (10 ∷ []) rest)
    ∙ lines_first first.init rest first.plain ∙ ap (λ (t : List ℕ). t ∷ lines_of rest) (sym first.feed)
