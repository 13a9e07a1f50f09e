-- How a client's own events change what was shown of it.
use Rattle.std.proofs.Common.{◌≡◌, ℕ, suc, ◌+◌, Bool, true, false, not, ◌||◌, ◌==◌, List, [], ◌∷◌, ◌++◌, length, Option, Some, None, refl}
use Rattle.std.proofs.Common.{sym, ap, ◌∙◌, subst, arith, eq-eqb, ne_eqb, length-append}
use Rattle.std.specs.Prelude.{is_some, is_none, option_map, bytes_eq}
use Rattle.std.proofs.lemmas.Bool.{and_from, cond-true, cond-false}
use Rattle.std.proofs.lemmas.Slice.Eq.{bytes_eq-Decides}
use Rattle.dl_types.specs.declared.dlsn.Dlsn.{Dlsn}
use Rattle.dl_types.specs.declared.read_row.ReadRow.{ReadRow}
use Rattle.dl_types.specs.declared.refusal.Refusal.{Refusal}
use Rattle.dl_transcript.specs.declared.event.Event.{Event}
use Rattle.dl_transcript.specs.declared.event.Event.TheVariants.{Took, Ack, OpenedAt, OpenedFrom, Reading, End, Rows, Refused}
use Rattle.dl_transcript.specs.Legal.{History, ReaderHistory, ClientHistory, TakenRecord, At, AtOneOf, EffectOnRead, Leaves, Ends, Passes, effect_on_read}
use Rattle.dl_transcript.specs.Legal.{is_some_and, may_read, may_refuse, after_refusal, place_behind, put_client, keeps, sees}
use Rattle.dl_transcript.specs.Histories.{without_read, with_taken, with_ack}
use Rattle.dl_law_legal.specs.Ruled.{is_ruled, is_ruled_refusal, Leads}
use Rattle.dl_law_legal.proofs.Leads.{leads_one}
use Rattle.dl_law_legal.proofs.Asides.{IsAside, goes_aside}
use Rattle.dl_law_client.specs.Seen.{ReaderSeen, PartsSeen, OthersSeen, SeenOf}

-- ---- what was shown of a client, and of others

-- nothing more was shown
pub others_same : (c : ℕ) (s : History) → OthersSeen c s s
others_same c s = record { sessions = refl; expired = refl; clients = λ d other. refl }

-- one after another
pub others_both : (c : ℕ) (s t u : History) → OthersSeen c s t → OthersSeen c t u → OthersSeen c s u
others_both c s t u h k = record {
  sessions = k.sessions ∙ h.sessions;
  expired = k.expired ∙ h.expired;
  clients = λ d other. k.clients d other ∙ h.clients d other;
}

-- what is put stands there, and others as they did
pub put_seen : (c : ℕ) (s : History) (count : ℕ) (stream : Option (List ℕ)) (reading : Bool) (x : ClientHistory) → PartsSeen count stream reading x
    → SeenOf c s count stream reading (put_client s c x)
put_seen c s count stream reading x h = record {
  client = subst (PartsSeen count stream reading) (sym (cond-true (c == c) x (s.clients c) (eq-eqb c c refl))) h;
  others = record { sessions = refl; expired = refl; clients = λ d other. cond-false (d == c) x (s.clients d) (ne_eqb d c other) };
}

-- one event of a client leads from what was shown of it to what is shown then
abbrev pub Shows : ℕ → History → Event → (count : ℕ) → Option (List ℕ) → Bool → Type 0
Shows c t e count stream reading = Leads is_ruled (SeenOf c t count stream reading) t (e ∷ [])

-- an event that goes aside
pub aside_shows : (c : ℕ) (t : History) (e : Event) (count : ℕ) (stream : Option (List ℕ)) (reading : Bool) → IsAside e
    → PartsSeen count stream reading (t.clients c) → Shows c t e count stream reading
aside_shows c t e count stream reading a h =
    let g = goes_aside t e a in
    leads_one is_ruled (SeenOf c t count stream reading) t e g.keeps (record {
      client = subst (PartsSeen count stream reading) (sym (ap (λ (f : ℕ → ClientHistory). f c) g.stays.clients)) h;
      others = record {
        sessions = g.stays.sessions;
        expired = g.stays.expired;
        clients = λ d other. ap (λ (f : ℕ → ClientHistory). f d) g.stays.clients;
      };
    })

-- ---- records

-- a record is acknowledged
pub ack_shows : (c : ℕ) (t : History) (n : ℕ) (d : Dlsn) (count : ℕ) (stream : Option (List ℕ)) (reading : Bool)
    → PartsSeen count stream reading (t.clients c) → Shows c t (Ack c n d) count stream reading
unfolding keeps sees
ack_shows c t n d count stream reading h =
    leads_one is_ruled (SeenOf c t count stream reading) t (Ack c n d) refl
    (put_seen c t count stream reading (with_ack (t.clients c) n) (record { taken = h.taken; reader = h.reader }))

-- the next record is taken
pub took_shows : (c : ℕ) (t : History) (n : ℕ) (s : List ℕ) (txid : ℕ) (payload : List ℕ) (count : ℕ) (stream : Option (List ℕ)) (reading : Bool)
    → n ≡ suc count → PartsSeen count stream reading (t.clients c) → Shows c t (Took c n s txid payload) (suc count) stream reading
unfolding keeps sees
took_shows c t n s txid payload count stream reading e h =
    let r : TakenRecord = record { stream = s; txid = txid; payload = payload } in
    let more : length ((t.clients c).taken ++ r ∷ []) ≡ suc count = omega (arith, h.taken, length-append (t.clients c).taken (r ∷ [])) in
    leads_one is_ruled (SeenOf c t (suc count) stream reading) t (Took c n s txid payload)
    (eq-eqb n (length (t.clients c).taken + 1) (omega (arith, e, h.taken)))
    (put_seen c t (suc count) stream reading (with_taken (t.clients c) r) (record { taken = more; reader = h.reader }))

-- ---- refusals

-- a refusal keeps its rule, where that is asked for
refused_keeps : (t : History) (reader : Option ReaderHistory) (x : EffectOnRead) → (not (is_ruled_refusal x) || may_refuse t reader x) ≡ true
refused_keeps t reader Leaves = refl
refused_keeps t reader Ends = refl
refused_keeps t reader (Passes d) = refl

-- a reader whose read is over
pub read_over : (stream : Option (List ℕ)) (reading : Bool) (f : ReaderHistory → ReaderHistory) (x : Option ReaderHistory)
    → ((r : ReaderHistory) → (f r).stream ≡ r.stream) → ((r : ReaderHistory) → (f r).read ≡ None) → ReaderSeen stream reading x
    → ReaderSeen stream false (option_map f x)
read_over None reading f None same none h = refl
read_over None reading f (Some x) same none h = absurd h
read_over (Some s) reading f None same none h = absurd h
read_over (Some s) reading f (Some x) same none h = record { stream = same x ∙ h.stream; read = ap is_some (none x) }

-- the read of a client is over
over_seen : (c : ℕ) (t : History) (f : ReaderHistory → ReaderHistory) (count : ℕ) (stream : Option (List ℕ)) (reading : Bool)
    → ((r : ReaderHistory) → (f r).stream ≡ r.stream) → ((r : ReaderHistory) → (f r).read ≡ None) → PartsSeen count stream reading (t.clients c)
    → SeenOf c t count stream false (put_client t c (record (t.clients c) { reader = option_map f (t.clients c).reader }))
over_seen c t f count stream reading same none h =
    put_seen c t count stream false (record (t.clients c) { reader = option_map f (t.clients c).reader })
    (record { taken = h.taken; reader = read_over stream reading f (t.clients c).reader same none h.reader })

-- a refusal that ends a read, where one is under way
ended_seen : (c : ℕ) (t : History) (x : EffectOnRead) (count : ℕ) (stream : Option (List ℕ)) (reading : Bool) → (reading ≡ true → x ≡ Leaves → ⊥)
    → PartsSeen count stream reading (t.clients c) → SeenOf c t count stream false (after_refusal t c x)
ended_seen c t Leaves count stream true ends h = absurd (ends refl refl)
ended_seen c t Leaves count stream false ends h = record { client = h; others = others_same c t }
ended_seen c t Ends count stream reading ends h = over_seen c t without_read count stream reading (λ r. refl) (λ r. refl) h
ended_seen c t (Passes d) count stream reading ends h = over_seen c t without_read count stream reading (λ r. refl) (λ r. refl) h

-- a refusal by which an order ends
pub refused_shows : (c : ℕ) (t : History) (r : Refusal) (count : ℕ) (stream : Option (List ℕ)) (reading : Bool)
    → (reading ≡ true → effect_on_read r ≡ Leaves → ⊥) → PartsSeen count stream reading (t.clients c) → Shows c t (Refused c r) count stream false
unfolding keeps sees
refused_shows c t r count stream reading ends h =
    leads_one is_ruled (SeenOf c t count stream false) t (Refused c r) (refused_keeps t (t.clients c).reader (effect_on_read r))
    (ended_seen c t (effect_on_read r) count stream reading ends h)

-- a refusal beside a read
pub beside_shows : (c : ℕ) (t : History) (r : Refusal) (count : ℕ) (stream : Option (List ℕ)) (reading : Bool) → effect_on_read r ≡ Leaves
    → PartsSeen count stream reading (t.clients c) → Shows c t (Refused c r) count stream reading
unfolding keeps sees
beside_shows c t r count stream reading e h =
    leads_one is_ruled (SeenOf c t count stream reading) t (Refused c r) (refused_keeps t (t.clients c).reader (effect_on_read r))
    (subst (SeenOf c t count stream reading) (sym (ap (after_refusal t c) e)) (record { client = h; others = others_same c t }))

-- ---- readers

-- no read is under way
none_from : (o : Option Dlsn) → is_some o ≡ false → is_none o ≡ true
none_from None e = refl
none_from (Some d) e = absurd cc

-- the reader may begin a read on its stream
may_be_read : (s : List ℕ) (x : Option ReaderHistory) → ReaderSeen (Some s) false x → is_some_and (may_read s) x ≡ true
may_be_read s None h = absurd h
may_be_read s (Some x) h =
    and_from (bytes_eq x.stream s) (is_none x.read) ((bytes_eq-Decides x.stream s).1 h.stream) (none_from x.read h.read)

-- a read has begun
read_begun : (s : List ℕ) (mark : Dlsn) (x : Option ReaderHistory) → ReaderSeen (Some s) false x
    → ReaderSeen (Some s) true (option_map (λ (r : ReaderHistory). record r { read = Some mark }) x)
read_begun s mark None h = absurd h
read_begun s mark (Some x) h = record { stream = h.stream; read = refl }

-- a read begins
pub reading_shows : (c : ℕ) (t : History) (s : List ℕ) (count : ℕ) → PartsSeen count (Some s) false (t.clients c)
    → Shows c t (Reading c s) count (Some s) true
unfolding keeps sees
reading_shows c t s count h =
    let mark : Dlsn = (t.streams s).mark in
    leads_one is_ruled (SeenOf c t count (Some s) true) t (Reading c s) (may_be_read s (t.clients c).reader h.reader)
    (put_seen c t count (Some s) true (record (t.clients c) { reader = option_map (λ (r : ReaderHistory). record r { read = Some mark }) (t.clients c).reader })
    (record { taken = h.taken; reader = read_begun s mark (t.clients c).reader h.reader }))

-- a read finds none
pub end_shows : (c : ℕ) (t : History) (s : List ℕ) (count : ℕ) (stream : Option (List ℕ)) (reading : Bool)
    → PartsSeen count stream reading (t.clients c) → Shows c t (End c s) count stream false
unfolding keeps sees
end_shows c t s count stream reading h =
    leads_one is_ruled (SeenOf c t count stream false) t (End c s) refl (over_seen c t without_read count stream reading (λ r. refl) (λ r. refl) h)

-- a read finds rows
pub rows_shows : (c : ℕ) (t : History) (s : List ℕ) (rows : List ReadRow) (count : ℕ) (stream : Option (List ℕ)) (reading : Bool)
    → PartsSeen count stream reading (t.clients c) → Shows c t (Rows c s rows) count stream false
unfolding keeps sees
rows_shows c t s rows count stream reading h =
    leads_one is_ruled (SeenOf c t count stream false) t (Rows c s rows) refl
    (over_seen c t (λ (r : ReaderHistory). record r { cursor = At (place_behind rows); read = None }) count stream reading (λ r. refl) (λ r. refl) h)

-- a reader stands at a place
pub opened_shows : (c : ℕ) (t : History) (s : List ℕ) (d : Dlsn) (count : ℕ) (stream : Option (List ℕ)) (reading : Bool)
    → PartsSeen count stream reading (t.clients c) → Shows c t (OpenedAt c s d) count (Some s) false
unfolding keeps sees
opened_shows c t s d count stream reading h =
    let reader : ReaderHistory = record { stream = s; cursor = At d; floor = 0; read = None } in
    leads_one is_ruled (SeenOf c t count (Some s) false) t (OpenedAt c s d) refl
    (put_seen c t count (Some s) false (record (t.clients c) { reader = Some reader })
    (record { taken = h.taken; reader = record { stream = refl; read = refl } }))

-- a reader stands at a point, for rows from an id on
pub opened_from_shows : (c : ℕ) (t : History) (s : List ℕ) (txid : ℕ) (count : ℕ) (stream : Option (List ℕ)) (reading : Bool)
    → PartsSeen count stream reading (t.clients c) → Shows c t (OpenedFrom c s txid) count (Some s) false
unfolding keeps sees
opened_from_shows c t s txid count stream reading h =
    let reader : ReaderHistory = record { stream = s; cursor = AtOneOf (t.streams s).points; floor = txid; read = None } in
    leads_one is_ruled (SeenOf c t count (Some s) false) t (OpenedFrom c s txid) refl
    (put_seen c t count (Some s) false (record (t.clients c) { reader = Some reader })
    (record { taken = h.taken; reader = record { stream = refl; read = refl } }))
