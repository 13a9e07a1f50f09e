-- A log writer keeps as many entries as were sent.
use Rattle.std.proofs.Common.{◌≡◌, ℕ, suc, Bool, true, false, cond, List, [], ◌∷◌, ◌++◌, length, Option, Some, None, is_some, refl, arith, length-append}
use Rattle.dl_types.specs.declared.row.Row.{Row}
use Rattle.dl_types.specs.declared.refusal.Refusal.{Refusal}
use Rattle.dl_rules_stream.specs.LogWriters.{LogCall, Appends, AppendsSet, Flushes, Commits, Closes, HearsFrom, LogMode, Open, Committing, Committed}
use Rattle.dl_rules_stream.specs.LogWriters.{Closing, Closable, LogNow, LogMove, stays, sends_parts, flushes, sends_control, mode_goes_on, goes_on}
use Rattle.dl_rules_stream.specs.LogWriters.{makes_room, has_parts, fits, all_confirmed, fenced_at, sent_count, in_mode, past_commit, unless, appends}
use Rattle.dl_rules_stream.specs.LogWriters.{appends_set, log_flushes, commits, closes, log_hears, or_same, after_log_call, log_of}
use Rattle.dl_rules_stream.specs.Laws.{EntriesAreSent}

-- as many entries as were sent
abbrev IsEven : LogNow → Type 0
IsEven w = length w.entries ≡ sent_count w

-- a list with one more at its end has one more
one_more : (entries : List (List Row)) (rows : List Row) (n : ℕ) → length entries ≡ n → length (entries ++ rows ∷ []) ≡ suc n
one_more entries rows n e = omega (arith, e, length-append entries (rows ∷ []))

-- of two moves that keep the count, either keeps it
either : (t : Bool) (a b : LogMove) → IsEven a.now → IsEven b.now → IsEven (cond t a b).now
either true a b x y = x
either false a b x y = y

-- sending the records under way keeps the count
parts_even : (w : LogNow) → IsEven w → IsEven (sends_parts w).now
unfolding sends_parts
parts_even w e = one_more w.entries _ (sent_count w) e

-- sending a control entry keeps the count
control_even : (w : LogNow) → IsEven w → IsEven (sends_control w).now
unfolding sends_control
control_even w e = one_more w.entries [] (sent_count w) e

-- a flush keeps the count
flushes_even : (w : LogNow) → IsEven w → IsEven (flushes w).now
flushes_even w e = either (has_parts w) (sends_parts w) (stays w) (parts_even w e) e

-- making room for a record keeps the count
room_even : (w : LogNow) (size : ℕ) → IsEven w → IsEven (makes_room w size).now
room_even w size e = either (fits w size) (stays w) (sends_parts w) e (parts_even w e)

-- going on with a commit or a close keeps the count
mode_even : (w : LogNow) (m : LogMode) → IsEven w → IsEven (mode_goes_on w m).now
mode_even w (Committing None) e = either (all_confirmed w) (sends_control w) (stays w) (control_even w e) e
mode_even w (Committing (Some n)) e = either _ (stays (record w { mode = Committed n })) (stays w) e e
mode_even w Closing e = either (all_confirmed w) (stays (record w { mode = Closable })) (stays w) e e
mode_even w Open e = e
mode_even w (Committed n) e = e
mode_even w Closable e = e

-- going on keeps the count, fenced or not
goes_even : (w : LogNow) → IsEven w → IsEven (goes_on w).now
unfolding goes_on
goes_even w e = either (is_some (fenced_at w)) (stays w) (mode_goes_on w w.mode) e (mode_even w w.mode e)

-- a call keeps the count, whether it is refused or not
unless_even : (o : Option Refusal) (w : LogNow) (m : LogMove) → IsEven w → IsEven m.now → IsEven (or_same w (unless o m))
unless_even None w m x y = y
unless_even (Some r) w m x y = x

-- each call keeps the count
call_even : (w : LogNow) (call : LogCall) → IsEven w → IsEven (after_log_call w call)
unfolding after_log_call appends appends_set log_flushes commits closes log_hears
call_even w (Appends o txid payload) e = unless_even _ w _ e (room_even w (length payload) e)
call_even w (AppendsSet o txid payloads) e = unless_even _ w _ e (room_even w _ e)
call_even w Flushes e = unless_even _ w _ e (flushes_even (in_mode (past_commit w.mode) w) e)
call_even w Commits e = unless_even _ w _ e (goes_even (flushes (in_mode (Committing None) w)).now (flushes_even (in_mode (Committing None) w) e))
call_even w Closes e = unless_even _ w _ e (goes_even (flushes (in_mode Closing w)).now (flushes_even (in_mode Closing w) e))
call_even w (HearsFrom b m) e = goes_even _ e

-- a log writer keeps as many entries as were sent
pub entries_are_sent : EntriesAreSent
unfolding log_of
entries_are_sent x [] = refl
entries_are_sent x (call ∷ calls) = call_even (log_of x calls) call (entries_are_sent x calls)
