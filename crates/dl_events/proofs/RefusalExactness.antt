-- Refusals are read exactly.
use Rattle.std.proofs.Common.{◌≡◌, ◌≢◌, ℕ, List, [], ◌∷◌, ◌++◌, Ok, refl, ap, subst, lit<}
use Rattle.std.specs.List.{AllByRecursion}
use Rattle.dl_types.specs.declared.dlsn.Dlsn.{Dlsn}
use Rattle.dl_types.specs.declared.refusal.Refusal.{Refusal}
use Rattle.dl_types.specs.declared.refusal.Refusal.TheVariants as refusal
use Rattle.dl_fields.specs.Paths.{IsPathField}
use Rattle.dl_text.specs.declared.refusal_word.RefusalWord.{RefusalWord}
use Rattle.dl_text.specs.declared.refusal_word.RefusalWord.TheVariants as why
use Rattle.dl_text.specs.Ends.{space, line_feed}
use Rattle.dl_text.specs.Readers.{Exact}
use Rattle.dl_text.specs.PlaceFields.{IsPlaceFrom}
use Rattle.dl_text.specs.Refusals.{refusal_text, refusal_word, refusal_rest, refusal_field}
use Rattle.dl_text.specs.Words.{words_from}
use Rattle.dl_text.proofs.ReaderLemmas.{then_exact, made_exact}
use Rattle.dl_text.proofs.WordLemmas.{words_exact}
use Rattle.dl_schedule.specs.StepLines.{IsBookie, IsTxid}
use Rattle.dl_schedule.proofs.FieldExactness.{nothing_exact, bookie, txid}
use Rattle.dl_transcript.specs.Ranges.{IsSession, IsU32, IsU64, IsRefusal}
use Rattle.dl_transcript.specs.Reading.{refusal_words, refusal_rest_at, refusal_at}
use Rattle.dl_events.proofs.Fields.{session, u32, u64, any_place}
use Rattle.dl_events.proofs.PathExactness.{path_exact}

-- an event can tell of a refusal by this word
abbrev pub IsTold : RefusalWord → Type 0
IsTold why.Expired = Unit {0}
IsTold why.Held = Unit {0}
IsTold why.Fenced = Unit {0}
IsTold why.Moved = Unit {0}
IsTold why.NoStream = Unit {0}
IsTold why.StreamExists = Unit {0}
IsTold why.TxidBack = Unit {0}
IsTold why.TooLong = Unit {0}
IsTold why.BeyondEnd = Unit {0}
IsTold why.NoWriter = Unit {0}
IsTold why.Truncated = Unit {0}
IsTold why.NotEmpty = Unit {0}
IsTold why.Busy = Unit {0}
IsTold why.BadName = ⊥
IsTold why.WindowFull = Unit {0}
IsTold why.GaveUp = Unit {0}

-- each of them is read as itself, whatever follows
word_again : (w : RefusalWord) (rest : List ℕ) → IsTold w → words_from refusal_text 0 refusal_words (refusal_text w ++ rest) ≡ Ok (w, rest)
word_again why.Expired rest u = refl
word_again why.Held rest u = refl
word_again why.Fenced rest u = refl
word_again why.Moved rest u = refl
word_again why.NoStream rest u = refl
word_again why.StreamExists rest u = refl
word_again why.TxidBack rest u = refl
word_again why.TooLong rest u = refl
word_again why.BeyondEnd rest u = refl
word_again why.NoWriter rest u = refl
word_again why.Truncated rest u = refl
word_again why.NotEmpty rest u = refl
word_again why.Busy rest u = refl
word_again why.BadName rest u = absurd u
word_again why.WindowFull rest u = refl
word_again why.GaveUp rest u = refl

-- what holds of each word in the list holds of each by which an event can tell
every_word : (P : RefusalWord → Type 0) → AllByRecursion P refusal_words → (w : RefusalWord) → IsTold w → P w
every_word P all why.Expired u = all.0
every_word P all why.Held u = all.1.0
every_word P all why.Fenced u = all.1.1.0
every_word P all why.Moved u = all.1.1.1.0
every_word P all why.NoStream u = all.1.1.1.1.0
every_word P all why.StreamExists u = all.1.1.1.1.1.0
every_word P all why.TxidBack u = all.1.1.1.1.1.1.0
every_word P all why.TooLong u = all.1.1.1.1.1.1.1.0
every_word P all why.BeyondEnd u = all.1.1.1.1.1.1.1.1.0
every_word P all why.NoWriter u = all.1.1.1.1.1.1.1.1.1.0
every_word P all why.Truncated u = all.1.1.1.1.1.1.1.1.1.1.0
every_word P all why.NotEmpty u = all.1.1.1.1.1.1.1.1.1.1.1.0
every_word P all why.Busy u = all.1.1.1.1.1.1.1.1.1.1.1.1.0
every_word P all why.BadName u = absurd u
every_word P all why.WindowFull u = all.1.1.1.1.1.1.1.1.1.1.1.1.1.0
every_word P all why.GaveUp u = all.1.1.1.1.1.1.1.1.1.1.1.1.1.1.0

-- the word of a refusal is read exactly
word_exact : Exact IsTold refusal_text (words_from refusal_text 0 refusal_words)
word_exact = words_exact IsTold refusal_text why.Expired
    (why.Held ∷ why.Fenced ∷ why.Moved ∷ why.NoStream ∷ why.StreamExists ∷ why.TxidBack ∷ why.TooLong ∷ why.BeyondEnd ∷ why.NoWriter ∷ why.Truncated ∷ why.NotEmpty ∷ why.Busy ∷ why.WindowFull ∷ why.GaveUp ∷ [])
    (tt, (tt, (tt, (tt, (tt, (tt, (tt, (tt, (tt, (tt, (tt, (tt, (tt, (tt, (tt, tt))))))))))))))) word_again every_word

-- a word that is read is not the one of a bad name
pub told : (bytes rest : List ℕ) (w : RefusalWord) → words_from refusal_text 0 refusal_words bytes ≡ Ok (w, rest) → w ≢ why.BadName
told bytes rest w e is = let t : IsTold w = (word_exact.found bytes w rest e).0 in subst IsTold is t

-- a refusal of this word
abbrev IsOf : RefusalWord → Refusal → Type 0
IsOf w r = IsRefusal r × (refusal_word r ≡ w)

-- the end of a session is read exactly behind its word
expired_exact : Exact (IsOf why.Expired) refusal_rest (refusal_rest_at why.Expired)
expired_exact = made_exact _ _ _ (refusal.Expired) (IsOf why.Expired) refusal_rest
    (session)
    (λ x v. ((v, refl), refl)) from
  where
    from : (r : Refusal) → IsOf why.Expired r → (x : ℕ) × IsSession x × ((refusal.Expired) x ≡ r)
    from (refusal.Expired k) w = (k, w.0, refl)
    from _ w = absurd (let e = w.1 in cc)

-- a held lock is read exactly behind its word
held_exact : Exact (IsOf why.Held) refusal_rest (refusal_rest_at why.Held)
held_exact = made_exact _ _ _ (refusal.Held) (IsOf why.Held) refusal_rest
    (u64)
    (λ x v. ((v, refl), refl)) from
  where
    from : (r : Refusal) → IsOf why.Held r → (x : ℕ) × IsU64 x × ((refusal.Held) x ≡ r)
    from (refusal.Held k) w = (k, w.0, refl)
    from _ w = absurd (let e = w.1 in cc)

-- a length is read exactly behind its word
too_long_exact : Exact (IsOf why.TooLong) refusal_rest (refusal_rest_at why.TooLong)
too_long_exact = made_exact _ _ _ (refusal.TooLong) (IsOf why.TooLong) refusal_rest
    (u64)
    (λ x v. ((v, refl), refl)) from
  where
    from : (r : Refusal) → IsOf why.TooLong r → (x : ℕ) × IsU64 x × ((refusal.TooLong) x ≡ r)
    from (refusal.TooLong k) w = (k, w.0, refl)
    from _ w = absurd (let e = w.1 in cc)

-- a count of children is read exactly behind its word
not_empty_exact : Exact (IsOf why.NotEmpty) refusal_rest (refusal_rest_at why.NotEmpty)
not_empty_exact = made_exact _ _ _ (refusal.NotEmpty) (IsOf why.NotEmpty) refusal_rest
    (u64)
    (λ x v. ((v, refl), refl)) from
  where
    from : (r : Refusal) → IsOf why.NotEmpty r → (x : ℕ) × IsU64 x × ((refusal.NotEmpty) x ≡ r)
    from (refusal.NotEmpty k) w = (k, w.0, refl)
    from _ w = absurd (let e = w.1 in cc)

-- a fence is read exactly behind its word
fenced_exact : Exact (IsOf why.Fenced) refusal_rest (refusal_rest_at why.Fenced)
fenced_exact = made_exact _ _ _ (refusal.Fenced) (IsOf why.Fenced) refusal_rest
    (bookie line_feed (lit< tt))
    (λ x v. ((v, refl), refl)) from
  where
    from : (r : Refusal) → IsOf why.Fenced r → (x : ℕ) × IsBookie x × ((refusal.Fenced) x ≡ r)
    from (refusal.Fenced b) w = (b, w.0, refl)
    from _ w = absurd (let e = w.1 in cc)

-- a node that moved on is read exactly behind its word
moved_exact : Exact (IsOf why.Moved) refusal_rest (refusal_rest_at why.Moved)
moved_exact = made_exact _ _ _ (λ (x : List ℕ × ℕ). refusal.Moved x.0 x.1) (IsOf why.Moved) refusal_rest
    (then_exact _ _ _ _ _ _ (path_exact space (lit< tt)) (λ p v. u64))
    (λ x v. ((v, refl), refl)) from
  where
    from : (r : Refusal) → IsOf why.Moved r → (x : List ℕ × ℕ) × (IsPathField x.0 × IsU64 x.1) × ((λ (x : List ℕ × ℕ). refusal.Moved x.0 x.1) x ≡ r)
    from (refusal.Moved p v) w = ((p, v), w.0, refl)
    from _ w = absurd (let e = w.1 in cc)

-- an id that goes back is read exactly behind its word
txid_back_exact : Exact (IsOf why.TxidBack) refusal_rest (refusal_rest_at why.TxidBack)
txid_back_exact = made_exact _ _ _ (λ (x : ℕ × ℕ). refusal.TxidBack x.0 x.1) (IsOf why.TxidBack) refusal_rest
    (then_exact _ _ _ _ _ _ (txid space (lit< tt)) (λ t v. txid line_feed (lit< tt)))
    (λ x v. ((v, refl), refl)) from
  where
    from : (r : Refusal) → IsOf why.TxidBack r → (x : ℕ × ℕ) × (IsTxid x.0 × IsTxid x.1) × ((λ (x : ℕ × ℕ). refusal.TxidBack x.0 x.1) x ≡ r)
    from (refusal.TxidBack t u) w = ((t, u), w.0, refl)
    from _ w = absurd (let e = w.1 in cc)

-- an end is read exactly behind its word
beyond_end_exact : Exact (IsOf why.BeyondEnd) refusal_rest (refusal_rest_at why.BeyondEnd)
beyond_end_exact = made_exact _ _ _ (refusal.BeyondEnd) (IsOf why.BeyondEnd) refusal_rest
    (any_place line_feed (lit< tt))
    (λ x v. ((v, refl), refl)) from
  where
    from : (r : Refusal) → IsOf why.BeyondEnd r → (x : Dlsn) × IsPlaceFrom 0 x × ((refusal.BeyondEnd) x ≡ r)
    from (refusal.BeyondEnd d) w = (d, w.0, refl)
    from _ w = absurd (let e = w.1 in cc)

-- a point is read exactly behind its word
truncated_exact : Exact (IsOf why.Truncated) refusal_rest (refusal_rest_at why.Truncated)
truncated_exact = made_exact _ _ _ (refusal.Truncated) (IsOf why.Truncated) refusal_rest
    (any_place line_feed (lit< tt))
    (λ x v. ((v, refl), refl)) from
  where
    from : (r : Refusal) → IsOf why.Truncated r → (x : Dlsn) × IsPlaceFrom 0 x × ((refusal.Truncated) x ≡ r)
    from (refusal.Truncated d) w = (d, w.0, refl)
    from _ w = absurd (let e = w.1 in cc)

-- a line is read exactly behind its word
busy_exact : Exact (IsOf why.Busy) refusal_rest (refusal_rest_at why.Busy)
busy_exact = made_exact _ _ _ (refusal.Busy) (IsOf why.Busy) refusal_rest
    (u32 line_feed (lit< tt))
    (λ x v. ((v, refl), refl)) from
  where
    from : (r : Refusal) → IsOf why.Busy r → (x : ℕ) × IsU32 x × ((refusal.Busy) x ≡ r)
    from (refusal.Busy n) w = (n, w.0, refl)
    from _ w = absurd (let e = w.1 in cc)

-- a path is read exactly behind its word
gave_up_exact : Exact (IsOf why.GaveUp) refusal_rest (refusal_rest_at why.GaveUp)
gave_up_exact = made_exact _ _ _ (refusal.GaveUp) (IsOf why.GaveUp) refusal_rest
    (path_exact line_feed (lit< tt))
    (λ x v. ((v, refl), refl)) from
  where
    from : (r : Refusal) → IsOf why.GaveUp r → (x : List ℕ) × IsPathField x × ((refusal.GaveUp) x ≡ r)
    from (refusal.GaveUp p) w = (p, w.0, refl)
    from _ w = absurd (let e = w.1 in cc)

-- a missing stream is read exactly behind its word
no_stream_exact : Exact (IsOf why.NoStream) refusal_rest (refusal_rest_at why.NoStream)
no_stream_exact = nothing_exact refusal.NoStream (IsOf why.NoStream) refusal_rest (tt, refl) refl only
  where
    only : (r : Refusal) → IsOf why.NoStream r → r ≡ refusal.NoStream
    only refusal.NoStream w = refl
    only _ w = absurd (let e = w.1 in cc)

-- a stream that is there is read exactly behind its word
stream_exists_exact : Exact (IsOf why.StreamExists) refusal_rest (refusal_rest_at why.StreamExists)
stream_exists_exact = nothing_exact refusal.StreamExists (IsOf why.StreamExists) refusal_rest (tt, refl) refl only
  where
    only : (r : Refusal) → IsOf why.StreamExists r → r ≡ refusal.StreamExists
    only refusal.StreamExists w = refl
    only _ w = absurd (let e = w.1 in cc)

-- a missing writer is read exactly behind its word
no_writer_exact : Exact (IsOf why.NoWriter) refusal_rest (refusal_rest_at why.NoWriter)
no_writer_exact = nothing_exact refusal.NoWriter (IsOf why.NoWriter) refusal_rest (tt, refl) refl only
  where
    only : (r : Refusal) → IsOf why.NoWriter r → r ≡ refusal.NoWriter
    only refusal.NoWriter w = refl
    only _ w = absurd (let e = w.1 in cc)

-- a full window is read exactly behind its word
window_full_exact : Exact (IsOf why.WindowFull) refusal_rest (refusal_rest_at why.WindowFull)
window_full_exact = nothing_exact refusal.WindowFull (IsOf why.WindowFull) refusal_rest (tt, refl) refl only
  where
    only : (r : Refusal) → IsOf why.WindowFull r → r ≡ refusal.WindowFull
    only refusal.WindowFull w = refl
    only _ w = absurd (let e = w.1 in cc)

-- each refusal is read exactly behind its word
rest_exact : (w : RefusalWord) → IsTold w → Exact (IsOf w) refusal_rest (refusal_rest_at w)
rest_exact why.Expired u = expired_exact
rest_exact why.Held u = held_exact
rest_exact why.Fenced u = fenced_exact
rest_exact why.Moved u = moved_exact
rest_exact why.NoStream u = no_stream_exact
rest_exact why.StreamExists u = stream_exists_exact
rest_exact why.TxidBack u = txid_back_exact
rest_exact why.TooLong u = too_long_exact
rest_exact why.BeyondEnd u = beyond_end_exact
rest_exact why.NoWriter u = no_writer_exact
rest_exact why.Truncated u = truncated_exact
rest_exact why.NotEmpty u = not_empty_exact
rest_exact why.Busy u = busy_exact
rest_exact why.BadName u = absurd u
rest_exact why.WindowFull u = window_full_exact
rest_exact why.GaveUp u = gave_up_exact

-- a refusal that an event can tell has such a word
told_by : (r : Refusal) → IsRefusal r → IsTold (refusal_word r)
told_by (refusal.Expired x) v = tt
told_by (refusal.Held x) v = tt
told_by (refusal.Fenced x) v = tt
told_by (refusal.Moved x y) v = tt
told_by refusal.NoStream v = tt
told_by refusal.StreamExists v = tt
told_by (refusal.TxidBack x y) v = tt
told_by (refusal.TooLong x) v = tt
told_by (refusal.BeyondEnd x) v = tt
told_by refusal.NoWriter v = tt
told_by (refusal.Truncated x) v = tt
told_by (refusal.NotEmpty x) v = tt
told_by (refusal.Busy x) v = tt
told_by (refusal.BadName x) v = absurd v
told_by refusal.WindowFull v = tt
told_by (refusal.GaveUp x) v = tt

-- A refusal is read exactly.
pub refusal_exact : Exact IsRefusal refusal_field refusal_at
refusal_exact = made_exact _ _ _ (λ x. x.1) IsRefusal refusal_field
    (then_exact _ _ _ IsOf (λ w. refusal_rest) refusal_rest_at word_exact rest_exact)
    (λ x v. (v.1.0, ap (λ (w : RefusalWord). refusal_text w ++ refusal_rest x.1) v.1.1))
    (λ r v. ((refusal_word r, r), (told_by r v, (v, refl)), refl))
