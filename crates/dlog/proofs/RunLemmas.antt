-- A run under way, a line and a piece at a time.
use Rattle.std.proofs.Common.{◌≡◌, ℕ, ◌+◌, ◌<◌, ◌≤◌, Bool, true, false, cond, eqb, nat_le, nat_lt, List, [], ◌∷◌, ◌++◌, length, Option}
use Rattle.std.proofs.Common.{Some, None, Result, Ok, Err, refl, sym, ap, ◌∙◌, subst, append_assoc, arith, length-append}
use Rattle.std.proofs.lemmas.Bool.{leb-false, ltb-false, ltb-true, lt-ltb, eqb-false}
use Rattle.std.proofs.lemmas.List.{append-nil, nil_from_length}
use Rattle.std.proofs.lemmas.Grind.{flat_map-append}
use Rattle.dl_types.specs.declared.limit.LimitName.TheVariants.{Lines, Schedule as Bytes}
use Rattle.dl_schedule.specs.declared.step.Step.{Step}
use Rattle.dl_schedule.specs.Faults.{parsed_early}
use Rattle.dl_transcript.specs.declared.event.Event.{Event}
use Rattle.dl_transcript.specs.Lines.{print_event, print_all, print_transcript, at_line}
use Rattle.dlog.specs.declared.ended.Ended.{Ended}
use Rattle.dlog.specs.declared.ended.Ended.TheVariants.{Done, BadLine, Limit}
use Rattle.dl_text.specs.TextLines.{lines_of}
use Rattle.dlog.specs.Machine.{one}
use Rattle.dlog.specs.Run.{Schedule, line_limit, schedule_limit, no_steps, with_line, schedule_from, shown_from}
use Rattle.dlog.specs.RunStates.{RunState, with_front, outcome_of, behind, after_lines, ends_as, outcome_at}
use Rattle.dlog.specs.RunStates.{size_of, limit_of, IsReady, IsStop, TakesLine, Feeds}
use Rattle.dl_text.specs.TextLines.{has_feed, IsFirstLine}
use Rattle.dl_text.proofs.TextLineLemmas.{feed_both, lines_last, lines_begin, lines_split}
use Rattle.dlog.proofs.MachineLemmas.{one_within}

-- printing

-- the events of one line are printed one after another
print_numbered : (line : ℕ) (events : List Event) → print_transcript (at_line line events) ≡ print_all line events
print_numbered line [] = refl
print_numbered line (e ∷ events) = ap (λ (t : List ℕ). print_event line e ++ t) (print_numbered line events)

-- the events of a line, and those of later ones
print_more : (line : ℕ) (events : List Event) (later : List (ℕ × Event))
    → print_transcript (at_line line events ++ later) ≡ print_all line events ++ print_transcript later
print_more line events later =
    flat_map-append (λ (x : ℕ × Event). print_event x.0 x.1) (at_line line events) later
    ∙ ap (λ (t : List ℕ). t ++ print_transcript later) (print_numbered line events)

-- one line of a schedule

-- a line past a limit is the stop
pub schedule_stop : (n bytes : ℕ) (line : List ℕ) (lines : List (List ℕ)) (ended : Ended) → limit_of n (bytes + length line) ≡ Some ended
    → schedule_from n bytes (line ∷ lines) ≡ no_steps ended
unfolding schedule_from
schedule_stop n bytes line lines ended h = go (nat_le line_limit n) (nat_lt schedule_limit (bytes + length line)) (Limit Lines line_limit)
    (Limit Bytes schedule_limit) _ h
  where
    go : (a b : Bool) (x y : Ended) (later : Schedule) → cond a (Some x) (cond b (Some y) None) ≡ Some ended
        → cond a (no_steps x) (cond b (no_steps y) later) ≡ no_steps ended
    go true b x y later e = ap no_steps (let f : Some x ≡ Some ended = e in cc)
    go false true x y later e = ap no_steps (let f : Some y ≡ Some ended = e in cc)
    go false false x y later e = absurd cc

-- a line within the limits says what the reader answers
pub schedule_goes : (n bytes : ℕ) (line : List ℕ) (lines : List (List ℕ)) → limit_of n (bytes + length line) ≡ None
    → schedule_from n bytes (line ∷ lines) ≡ with_line (n + 1) (parsed_early (n + 1) line) (schedule_from (n + 1) (bytes + length line) lines)
unfolding schedule_from
schedule_goes n bytes line lines h = go (nat_le line_limit n) (nat_lt schedule_limit (bytes + length line)) (Limit Lines line_limit)
    (Limit Bytes schedule_limit) _ h
  where
    go : (a b : Bool) (x y : Ended) (later : Schedule) → cond {A = Option Ended} a (Some x) (cond b (Some y) None) ≡ None
        → cond a (no_steps x) (cond b (no_steps y) later) ≡ later
    go true b x y later e = absurd cc
    go false true x y later e = absurd cc
    go false false x y later e = refl

-- a run that stops prints no more
stop_prints : (p : RunState) (said : Schedule) (ended : Ended) → said ≡ no_steps ended
    → with_front p.text (outcome_of p.state p.lines said) ≡ outcome_at p ended
unfolding shown_from
stop_prints p said ended e =
    ap (λ (x : Schedule). with_front p.text (outcome_of p.state p.lines x)) e
    ∙ ap (λ (t : List ℕ). record { text = t; ended = ended }) (append-nil p.text)

-- so a run stops at a line past a limit
pub limit_stops : (p : RunState) (line : List ℕ) (ended : Ended) → limit_of p.lines (p.bytes + length line) ≡ Some ended → (lines : List (List ℕ))
    → after_lines p (line ∷ lines) ≡ outcome_at p ended
limit_stops p line ended h lines = stop_prints p (schedule_from p.lines p.bytes (line ∷ lines)) ended (schedule_stop p.lines p.bytes line lines ended h)

-- and at a line outside the grammar
pub bad_line_stops : (p : RunState) (line : List ℕ) (column : ℕ) → limit_of p.lines (p.bytes + length line) ≡ None
    → parsed_early (p.lines + 1) line ≡ Err column
    → (lines : List (List ℕ)) → after_lines p (line ∷ lines) ≡ outcome_at p (BadLine (p.lines + 1) column)
bad_line_stops p line column h bad lines =
    stop_prints p (schedule_from p.lines p.bytes (line ∷ lines)) (BadLine (p.lines + 1) column)
    (schedule_goes p.lines p.bytes line lines h
    ∙ ap (λ (r : Result Step ℕ). with_line (p.lines + 1) r (schedule_from (p.lines + 1) (p.bytes + length line) lines)) bad)

-- a step prints what it shows, before what follows
step_prints : (p : RunState) (length : ℕ) (step : Step) (later : Schedule)
    → with_front p.text (outcome_of p.state p.lines (with_line (p.lines + 1) (Ok step) later)) ≡ with_front (behind p length step).text
    (outcome_of (one p.state step).0 (p.lines + 1) later)
unfolding shown_from
step_prints p length step later =
    let front = print_all (p.lines + 1) (one p.state step).1 in
    let back = print_transcript (shown_from (one p.state step).0 (p.lines + 1) later.steps) in
    ap (λ (t : List ℕ). record { text = p.text ++ t; ended = later.ended })
    (print_more (p.lines + 1) (one p.state step).1 (shown_from (one p.state step).0 (p.lines + 1) later.steps))
    ∙ ap (λ (t : List ℕ). record { text = t; ended = later.ended }) (sym (append_assoc p.text front back))

-- a run goes on behind a line of the grammar
line_goes : (p : RunState) (line : List ℕ) (step : Step) → limit_of p.lines (p.bytes + length line) ≡ None → parsed_early (p.lines + 1) line ≡ Ok step
    → (lines : List (List ℕ)) → after_lines p (line ∷ lines) ≡ after_lines (behind p (length line) step) lines
line_goes p line step h good lines =
    let later = schedule_from (p.lines + 1) (p.bytes + length line) lines in
    ap (λ (x : Schedule). with_front p.text (outcome_of p.state p.lines x)) (schedule_goes p.lines p.bytes line lines h
    ∙ ap (λ (r : Result Step ℕ). with_line (p.lines + 1) r later) good)
    ∙ step_prints p (length line) step later

-- the limits that a line keeps

-- a line that passes no limit keeps both
pub within_limits : (n bytes : ℕ) → limit_of n bytes ≡ None → (n < line_limit) × (bytes ≤ schedule_limit)
within_limits n bytes h = go (nat_le line_limit n) (nat_lt schedule_limit bytes) refl refl h
  where
    go : (a b : Bool) → nat_le line_limit n ≡ a → nat_lt schedule_limit bytes ≡ b
        → cond {A = Option Ended} a (Some (Limit Lines line_limit)) (cond b (Some (Limit Bytes schedule_limit)) None) ≡ None
        → (n < line_limit) × (bytes ≤ schedule_limit)
    go true b s t e = absurd cc
    go false true s t e = absurd cc
    go false false s t e = (leb-false line_limit n s, ltb-false schedule_limit bytes t)

-- a limit is a stop
limit_is_stop : (n bytes : ℕ) (ended : Ended) → limit_of n bytes ≡ Some ended → IsStop ended
limit_is_stop n bytes ended h = go (nat_le line_limit n) (nat_lt schedule_limit bytes) h
  where
    go : (a b : Bool) → cond a (Some (Limit Lines line_limit)) (cond b (Some (Limit Bytes schedule_limit)) None) ≡ Some ended → IsStop ended
    go true b e = subst IsStop (let f : Some (Limit Lines line_limit) ≡ Some ended = e in let g : Limit Lines line_limit ≡ ended = cc in g) tt
    go false true e = subst IsStop (let f : Some (Limit Bytes schedule_limit) ≡ Some ended = e in let g : Limit Bytes schedule_limit ≡ ended = cc in g) tt
    go false false e = absurd cc

-- the clauses of a run that takes a line

-- a line past a limit is taken as the stop
pub takes_limit : (p : RunState) (line : List ℕ) (ended : Ended) → limit_of p.lines (p.bytes + length line) ≡ Some ended → TakesLine p p line (Some ended)
takes_limit p line ended h = (limit_is_stop p.lines (p.bytes + length line) ended h, limit_stops p line ended h)

-- a line of so many bytes that keeps the limits
pub record Keeps (p : RunState) (size : ℕ) (back : List ℕ) : Type 0 where
  pub whole : size ≡ length p.pending + length back
  pub free : limit_of p.lines (p.bytes + size) ≡ None

-- the bytes of the whole line
line_size : (p : RunState) (size : ℕ) (back : List ℕ) → Keeps p size back → size ≡ length (p.pending ++ back)
line_size p size back k = k.whole ∙ sym (length-append p.pending back)

-- the whole line passes no limit
line_free : (p : RunState) (size : ℕ) (back : List ℕ) → Keeps p size back → limit_of p.lines (p.bytes + length (p.pending ++ back)) ≡ None
line_free p size back k = ap (λ (n : ℕ). limit_of p.lines (p.bytes + n)) (sym (line_size p size back k)) ∙ k.free

-- a line outside the grammar is taken as the stop
pub takes_bad : (p : RunState) (size : ℕ) (back : List ℕ) (column : ℕ) → Keeps p size back → parsed_early (p.lines + 1) (p.pending ++ back) ≡ Err column
    → TakesLine p p (p.pending ++ back) (Some (BadLine (p.lines + 1) column))
takes_bad p size back column k bad = (tt, bad_line_stops p (p.pending ++ back) column (line_free p size back k) bad)

-- a line of the grammar is taken, and the run goes on
pub takes_step : (p q : RunState) (size : ℕ) (back : List ℕ) (step : Step) → Keeps p size back → parsed_early (p.lines + 1) (p.pending ++ back) ≡ Ok step
    → q ≡ behind p size step → TakesLine p q (p.pending ++ back) None
takes_step p q size back step k good e =
    let whole : q ≡ behind p (length (p.pending ++ back)) step = e ∙ ap (λ (n : ℕ). behind p n step) (line_size p size back k) in
    subst (λ (x : RunState). TakesLine p x (p.pending ++ back) None) (sym whole) (refl, line_goes p (p.pending ++ back) step (line_free p size back k) good)

-- its bytes were taken
pub takes_size : (p q : RunState) (size : ℕ) (back : List ℕ) (step : Step) → Keeps p size back → q ≡ behind p size step → size_of q ≡ size_of p + length back
takes_size p q size back step k e = ap size_of e ∙ omega (arith, k.whole)

-- behind it the run can go on
pub ready_behind : (p q : RunState) (size : ℕ) (step : Step) → IsReady p → limit_of p.lines (p.bytes + size) ≡ None → q ≡ behind p size step → IsReady q
ready_behind p q size step ready h e =
    let w = within_limits p.lines (p.bytes + size) h in
    subst IsReady (sym e) (record {
      within = one_within (p.lines + 1) p.state step ready.within;
      plain = refl;
      lines = omega (arith, w.0);
      bytes = omega (arith, w.1);
    })

-- a piece

-- a line of the piece was run
pub feed_goes : (p q : RunState) (rest line after more : List ℕ) → IsReady p → IsFirstLine rest line after → TakesLine p q (p.pending ++ line) None
    → ends_as p (rest ++ more) ≡ ends_as q (after ++ more)
feed_goes p q rest line after more ready first takes =
    ap (after_lines p) (lines_split p.pending rest line after more ready.plain first)
    ∙ takes.1 (lines_of (after ++ more))
    ∙ ap (λ (t : List ℕ). after_lines q (lines_of (t ++ (after ++ more)))) (sym takes.0)

-- a line of the piece is the stop
pub feed_stops : (p q : RunState) (rest line after more : List ℕ) (ended : Ended) → IsReady p → IsFirstLine rest line after
    → TakesLine p q (p.pending ++ line) (Some ended) → ends_as p (rest ++ more) ≡ outcome_at q ended
feed_stops p q rest line after more ended ready first takes =
    ap (after_lines p) (lines_split p.pending rest line after more ready.plain first) ∙ takes.1 (lines_of (after ++ more))

-- what follows a first line is shorter
first_shorter : (rest line after : List ℕ) → IsFirstLine rest line after → length after < length rest
first_shorter rest line after first = omega (arith, ap length first.parts ∙ length-append line after, ap length first.feed ∙ length-append first.init (10 ∷ []))

-- a first line and what follows it
pub first_size : (rest line after : List ℕ) → IsFirstLine rest line after → length rest ≡ length line + length after
first_size rest line after first = ap length first.parts ∙ length-append line after

-- what follows a first line is shorter
pub first_less : (rest line after : List ℕ) → IsFirstLine rest line after → length after < length rest
first_less = first_shorter

-- bytes without a line feed are kept

-- no bytes change nothing
pub keeps_nothing : (p : RunState) (piece : List ℕ) → length p.pending + length piece ≡ 0 → Feeds p p piece None
keeps_nothing p piece h more = ap (λ (t : List ℕ). ends_as p (t ++ more)) (nil_from_length piece (omega arith))

-- a limit that a line passes, a longer one passes too
limit_longer : (n a b : ℕ) (ended : Ended) → a ≤ b → limit_of n a ≡ Some ended → limit_of n b ≡ Some ended
limit_longer n a b ended le h = go (nat_le line_limit n) (nat_lt schedule_limit a) refl h
  where
    go : (s t : Bool) → nat_lt schedule_limit a ≡ t → cond s (Some (Limit Lines line_limit)) (cond t (Some (Limit Bytes schedule_limit)) None) ≡ Some ended
        → cond s (Some (Limit Lines line_limit)) (cond (nat_lt schedule_limit b) (Some (Limit Bytes schedule_limit)) None) ≡ Some ended
    go true t k e = e
    go false true k e = rw (lt-ltb schedule_limit b (omega (arith, ltb-true schedule_limit a k))) e
    go false false k e = absurd cc

-- a line that is past a limit before its end is past it
keeps_limit_go : (p : RunState) (whole more : List ℕ) (ended : Ended) → has_feed whole ≡ false → 0 < length whole
    → limit_of p.lines (p.bytes + length whole) ≡ Some ended → after_lines p (lines_of (whole ++ more)) ≡ outcome_at p ended
keeps_limit_go p [] more ended plain some h = absurd (omega arith)
keeps_limit_go p (b ∷ bytes) more ended plain some h =
    let w = lines_begin b bytes more plain in
    let longer : p.bytes + length (b ∷ bytes) ≤ p.bytes + length (b ∷ bytes ++ w.tail) = omega (arith, length-append (b ∷ bytes) w.tail) in
    ap (after_lines p) w.parts ∙ limit_stops p (b ∷ bytes ++ w.tail) ended
    (limit_longer p.lines (p.bytes + length (b ∷ bytes)) (p.bytes + length (b ∷ bytes ++ w.tail)) ended longer h) w.later

-- pending bytes past a limit are the stop
pub keeps_limit : (p : RunState) (piece : List ℕ) (ended : Ended) → has_feed p.pending ≡ false → has_feed piece ≡ false
    → (length p.pending + length piece ≡ 0 → ⊥)
    → limit_of p.lines (p.bytes + length (p.pending ++ piece)) ≡ Some ended → Feeds p p piece (Some ended)
keeps_limit p piece ended plain other some h = (
  limit_is_stop p.lines (p.bytes + length (p.pending ++ piece)) ended h,
  λ more. ap (λ (t : List ℕ). after_lines p (lines_of t)) (sym (append_assoc p.pending piece more))
      ∙ keeps_limit_go p (p.pending ++ piece) more ended (feed_both p.pending piece plain other) (omega (arith, length-append p.pending piece, some)) h,
)

-- bytes without a line feed are pending
pub keeps_more : (p q : RunState) (piece : List ℕ) → q ≡ record p { pending = p.pending ++ piece } → Feeds p q piece None
keeps_more p q piece e = subst (λ (x : RunState). Feeds p x piece None) (sym e)
    (λ more. ap (λ (t : List ℕ). after_lines p (lines_of t)) (sym (append_assoc p.pending piece more)))

-- and the run can go on
pub ready_more : (p q : RunState) (piece : List ℕ) → IsReady p → has_feed piece ≡ false
    → limit_of p.lines (p.bytes + (length p.pending + length piece)) ≡ None → q ≡ record p { pending = p.pending ++ piece } → IsReady q
ready_more p q piece ready plain h e =
    let w = within_limits p.lines (p.bytes + (length p.pending + length piece)) h in
    subst IsReady (sym e) (record {
      within = ready.within;
      plain = feed_both p.pending piece ready.plain plain;
      lines = ready.lines;
      bytes = omega (arith, w.1, length-append p.pending piece);
    })

-- the end of the bytes

-- nothing is pending: all lines were run
pub ends_empty : (p : RunState) → length p.pending ≡ 0 → ends_as p [] ≡ outcome_at p Done
unfolding schedule_from shown_from
ends_empty p h =
    ap (λ (t : List ℕ). after_lines p (lines_of (t ++ []))) (nil_from_length p.pending h)
    ∙ ap (λ (t : List ℕ). record { text = t; ended = Done }) (append-nil p.text)

-- what is pending is the last line
last_line : (pending : List ℕ) → has_feed pending ≡ false → 0 < length pending → lines_of (pending ++ []) ≡ pending ∷ []
last_line [] plain some = absurd (omega arith)
last_line (b ∷ bytes) plain some = ap lines_of (append-nil (b ∷ bytes)) ∙ lines_last b bytes plain

-- the last line was run
pub ends_last : (p q : RunState) (line : List ℕ) → IsReady p → (length p.pending ≡ 0 → ⊥) → line ≡ p.pending ++ [] → TakesLine p q line None
    → ends_as p [] ≡ outcome_at q Done
unfolding schedule_from shown_from
ends_last p q line ready some e takes =
    ap (after_lines p) (last_line p.pending ready.plain (omega (arith, some)) ∙ ap (λ (t : List ℕ). t ∷ []) (sym (e ∙ append-nil p.pending)))
    ∙ takes.1 [] ∙ ap (λ (t : List ℕ). record { text = t; ended = Done }) (append-nil q.text)

-- the last line is the stop
pub ends_stop : (p q : RunState) (line : List ℕ) (ended : Ended) → IsReady p → (length p.pending ≡ 0 → ⊥) → line ≡ p.pending ++ []
    → TakesLine p q line (Some ended) → ends_as p [] ≡ outcome_at q ended
ends_stop p q line ended ready some e takes =
    ap (after_lines p) (last_line p.pending ready.plain (omega (arith, some)) ∙ ap (λ (t : List ℕ). t ∷ []) (sym (e ∙ append-nil p.pending)))
    ∙ takes.1 []

-- what the code keeps of a run says this of it

-- the limit that the code tests is that of the whole line
pub limit_from : (p : RunState) (lines bytes len : ℕ) (back : List ℕ) (o : Option Ended) → lines ≡ p.lines → bytes ≡ p.bytes → len ≡ length p.pending
    → o ≡ limit_of lines (bytes + (len + length back)) → limit_of p.lines (p.bytes + length (p.pending ++ back)) ≡ o
limit_from p lines bytes len back o a b d e =
    let size : p.bytes + length (p.pending ++ back) ≡ bytes + (len + length back) = omega (arith, length-append p.pending back, b, d) in
    ap (λ (n : ℕ). limit_of p.lines n) size ∙ ap (λ (n : ℕ). limit_of n (bytes + (len + length back))) (sym a) ∙ sym e

-- the line that was read is the one whose bytes came in two pieces
pub read_as : (p : RunState) (lines : ℕ) (front pending back : List ℕ) (r : Result Step ℕ) → lines ≡ p.lines → pending ≡ p.pending → front ≡ pending
    → parsed_early (lines + 1) (front ++ back) ≡ r → parsed_early (p.lines + 1) (p.pending ++ back) ≡ r
read_as p lines front pending back r a b d e =
    ap (λ (n : ℕ). parsed_early (n + 1) (p.pending ++ back)) (sym a) ∙ ap (λ (t : List ℕ). parsed_early (lines + 1) (t ++ back)) (sym (d ∙ b)) ∙ e

-- the line of the fault is the next one
pub bad_at : (p : RunState) (number column : ℕ) (whole : List ℕ) → number ≡ p.lines + 1 → TakesLine p p whole (Some (BadLine (p.lines + 1) column))
    → TakesLine p p whole (Some (BadLine number column))
bad_at p number column whole e takes = subst (λ (n : ℕ). TakesLine p p whole (Some (BadLine n column))) (sym e) takes

-- the code sees that something is pending
pub some_pending : (p : RunState) (t : Bool) (len : ℕ) → len ≡ length p.pending → t ≡ eqb len 0 → t ≡ false → length p.pending ≡ 0 → ⊥
some_pending p t len size test none e = eqb-false len 0 (sym test ∙ none) (size ∙ e)

-- the bytes of a piece were taken
pub fed_size : (p q : RunState) (rest line after : List ℕ) (all : ℕ) → size_of q ≡ size_of p + length line → IsFirstLine rest line after
    → size_of p + length rest ≡ all → size_of q + length after ≡ all
fed_size p q rest line after all grown first before = omega (arith, grown, first_size rest line after first, before)
