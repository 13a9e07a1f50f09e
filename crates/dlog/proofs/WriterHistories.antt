-- What a transcript has shown of a writer, and how the events of its records lead on.
use Rattle.std.proofs.Common.{◌≡◌, ℕ, ◌+◌, ◌-◌, ◌≤◌, Bool, true, false, cond, ◌&&◌, nat_le, ◌==◌, List, [], ◌∷◌, ◌++◌, length}
use Rattle.std.proofs.Common.{map, Some, None, refl, sym, ap, ◌∙◌, subst, arith, eq-eqb, le-leb, append_assoc, append-nil}
use Rattle.std.specs.Prelude.{slice_get, bytes_eq, option_map}
use Rattle.std.specs.List.{list_any, list_all, flat_map}
use Rattle.std.proofs.lemmas.Bool.{and_from, cond-true, cond-false, eqb-true, ne_eqb, not_from_false}
use Rattle.std.proofs.lemmas.List.{length_push, length-map, map_push}
use Rattle.std.proofs.lemmas.Slice.Eq.{bytes_eq-Decides}
use Rattle.std.proofs.lemmas.Option.{slice_get-map}
use Rattle.dl_types.specs.declared.dlsn.Dlsn.{Dlsn}
use Rattle.dl_types.specs.declared.row.Row.{Row}
use Rattle.dl_types.specs.Places.{is_before, is_at_most, is_same, first_place}
use Rattle.dl_transcript.specs.declared.event.Event.TheVariants.{Took, Writer}
use Rattle.dl_transcript.specs.Legal.{History, StreamHistory, ClientHistory, TakenRecord, new_stream, new_client, sees}
use Rattle.dl_transcript.specs.Legal.{put_stream, put_client, last_or, is_from, is_taken, taken_at, stands_at}
use Rattle.dl_transcript.specs.Histories.{put_reader}
use Rattle.dlog.specs.Machine.{segment, grow, ack, entry_events}
use Rattle.dlog.proofs.Leads.{Leads, leads_none, leads_one, leads_both}
use Rattle.dlog.proofs.Rules.{keeps_took, MayGrow, keeps_grow, MayAck, keeps_ack}
use Rattle.dlog.proofs.Rows.{Follows, InTurn, follows_at, all_weaker, le_more, none_above, any_at, slice_get_at, not_before_first}

-- what was put stands there

-- of the stream
put_stream_there : (s : History) (name : List ℕ) (x : StreamHistory) → (put_stream s name x).streams name ≡ x
put_stream_there s name x = cond-true (bytes_eq name name) x (s.streams name) ((bytes_eq-Decides name name).1 refl)

-- of the client
put_client_there : (s : History) (c d : ℕ) (x : ClientHistory) → d ≡ c → (put_client s c x).clients d ≡ x
put_client_there s c d x e = cond-true (d == c) x (s.clients d) (eq-eqb d c e)

-- how far a writer of the first segment has come: the sessions, the client and its stream; all rows that were taken,
-- the first of them, that stand in the stream, and how many of these are acknowledged
pub record WriterHistory : Type 0 where
  pub sessions : ℕ
  pub client : ℕ
  pub stream : List ℕ
  pub taken : List Row
  pub grown : List Row
  pub acked : ℕ

-- the record that a row of the stream was
abbrev pub as_taken : List ℕ → Row → TakenRecord
as_taken stream r = record { stream = stream; txid = r.txid; payload = r.payload }

-- a stream that has these rows, in its first segment
pub record StreamFits (rows : List Row) (x : StreamHistory) : Type 0 where
  pub grown : x.rows ≡ rows
  pub closed : x.closed ≡ 0
  pub mark : x.mark ≡ first_place

-- a client from which these rows were taken, and of whose records no more than so many are acknowledged
pub record ClientFits (stream : List ℕ) (rows : List Row) (acks : ℕ) (x : ClientHistory) : Type 0 where
  pub taken : x.taken ≡ map (as_taken stream) rows
  pub acked : list_all (λ n. nat_le n acks) x.acked ≡ true

-- this was seen of the writer
pub record Fits (w : WriterHistory) (s : History) : Type 0 where
  pub joined : s.sessions ≡ w.sessions
  pub rows : StreamFits w.grown (s.streams w.stream)
  pub records : ClientFits w.stream w.taken w.acked (s.clients w.client)

-- a client that joins anew keeps its records
pub records_stay : (s : History) (c d : ℕ) (stream : List ℕ) (rows : List Row) (acks : ℕ) → ClientFits stream rows acks (s.clients d)
    → ClientFits stream rows acks ((put_reader s c None).clients d)
records_stay s c d stream rows acks f = go (d == c) refl
  where
    go : (t : Bool) → (d == c) ≡ t → ClientFits stream rows acks (cond t (record (s.clients c) { reader = None }) (s.clients d))
    go true e = record {
      taken = ap (λ x. (s.clients x).taken) (sym (eqb-true d c e)) ∙ f.taken;
      acked = ap (λ x. list_all (λ n. nat_le n acks) (s.clients x).acked) (sym (eqb-true d c e)) ∙ f.acked;
    }
    go false e = f

-- what was seen of the client that a row names
of_client : (w : WriterHistory) (s : History) (c : ℕ) → c ≡ w.client → Fits w s → ClientFits w.stream w.taken w.acked (s.clients c)
of_client w s c e f = subst (λ x. ClientFits w.stream w.taken w.acked (s.clients x)) (sym e) f.records

-- a record's number finds it among those that were taken
taken_there : (s : History) (c n : ℕ) (stream : List ℕ) (rows front : List Row) (r : Row) (back : List Row) → (s.clients c).taken ≡ map (as_taken stream) rows
    → rows ≡ front ++ r ∷ back → n ≡ length front + 1 → taken_at s c n ≡ Some (as_taken stream r)
taken_there s c n stream rows front r back seen parts number =
    let zero_not : (n == 0) ≡ false = ne_eqb n 0 (λ e. omega arith) in
    let place : n - 1 ≡ length front = omega arith in
    cond-false (n == 0) None (slice_get (s.clients c).taken (n - 1)) zero_not
    ∙ ap (λ xs. slice_get xs (n - 1)) seen
    ∙ slice_get-map (as_taken stream) rows (n - 1)
    ∙ ap (option_map (as_taken stream)) (ap (slice_get rows) place ∙ ap (λ xs. slice_get xs (length front)) parts ∙ slice_get_at front r back)

-- it is the one that a growing row asks for
stream_same : (stream : List ℕ) (r : Row) → is_taken (Some (as_taken stream r)) stream r.txid r.payload ≡ true
stream_same stream r = and_from _ _ (and_from _ _ ((bytes_eq-Decides stream stream).1 refl) (eq-eqb r.txid r.txid refl))
    ((bytes_eq-Decides r.payload r.payload).1 refl)

-- a record is taken
took_fits : (w : WriterHistory) (s : History) (call : ℕ) (r : Row) → Fits w s
    → Fits (record w { taken = w.taken ++ r ∷ [] }) (sees s (Took w.client call w.stream r.txid r.payload))
unfolding sees
took_fits w s call r f =
    let then : ClientHistory = record (s.clients w.client) { taken = (s.clients w.client).taken ++ as_taken w.stream r ∷ [] } in
    record {
      joined = f.joined;
      rows = f.rows;
      records = subst (ClientFits w.stream (w.taken ++ r ∷ []) w.acked) (sym (put_client_there s w.client w.client then refl)) (record {
        taken = ap (λ xs. xs ++ as_taken w.stream r ∷ []) f.records.taken ∙ sym (map_push (as_taken w.stream) w.taken r);
        acked = f.records.acked;
      });
    }

-- so a record that is taken leads on
pub took_leads : (w : WriterHistory) (s : History) (call : ℕ) (r : Row) → call ≡ length w.taken + 1 → Fits w s
    → Leads (Fits (record w { taken = w.taken ++ r ∷ [] })) s (Took w.client call w.stream r.txid r.payload ∷ [])
took_leads w s call r number f =
    let count : length (s.clients w.client).taken ≡ length w.taken = ap length f.records.taken ∙ length-map w.taken (as_taken w.stream) in
    leads_one (Fits (record w { taken = w.taken ++ r ∷ [] })) s (Took w.client call w.stream r.txid r.payload)
    (keeps_took s w.client call w.stream r.txid r.payload (record { next = number ∙ ap (λ n. n + 1) (sym count) })) (took_fits w s call r f)

-- the next row grows
may_grow : (w : WriterHistory) (s : History) (r : Row) (back : List Row) → Follows w.client w.grown r → w.taken ≡ w.grown ++ r ∷ back → Fits w s
    → MayGrow s w.stream r
may_grow w s r back t parts f = record {
  segment = t.in_segment ∙ ap (λ n. n + 1) (sym f.rows.closed);
  above = subst (λ rows. list_all (λ (x : Row). is_before x.place r.place) rows ≡ true) (sym f.rows.grown) t.above;
  mark = subst (λ d. is_at_most d r.place ≡ true) (sym f.rows.mark) (not_from_false (is_before r.place first_place) (not_before_first r.place t.in_segment));
  txid = subst (λ rows. last_or 0 (map (λ (x : Row). x.txid) rows) ≤ r.txid) (sym f.rows.grown) t.ids;
  taken = ap (λ o. is_taken o w.stream r.txid r.payload) (taken_there s r.origin.client r.origin.call w.stream w.taken w.grown r back
      (of_client w s r.origin.client t.client f).taken parts t.call)
      ∙ stream_same w.stream r;
  fresh = subst (λ rows. list_any (is_from r.origin.client r.origin.call) rows ≡ false) (sym f.rows.grown) t.fresh;
}

-- a row has grown
grown_fits : (w : WriterHistory) (s : History) (r : Row) → Fits w s → Fits (record w { grown = w.grown ++ r ∷ [] }) (sees s (grow w.stream r))
unfolding sees
grown_fits w s r f = record {
  joined = f.joined;
  rows = subst (StreamFits (w.grown ++ r ∷ [])) (sym (put_stream_there s w.stream (record (s.streams w.stream) { rows = (s.streams w.stream).rows ++ r ∷ [] })))
      (record { grown = ap (λ rows. rows ++ r ∷ []) f.rows.grown; closed = f.rows.closed; mark = f.rows.mark });
  records = f.records;
}

-- so a row that grows leads on
grow_leads : (w : WriterHistory) (s : History) (r : Row) (back : List Row) → InTurn w.client [] w.taken → w.taken ≡ w.grown ++ r ∷ back → Fits w s
    → Leads (Fits (record w { grown = w.grown ++ r ∷ [] })) s (grow w.stream r ∷ [])
grow_leads w s r back t parts f =
    leads_one (Fits (record w { grown = w.grown ++ r ∷ [] })) s (grow w.stream r)
    (keeps_grow s w.stream r (may_grow w s r back (follows_at w.client w.taken w.grown r back parts t) parts f)) (grown_fits w s r f)

-- the next rows grow, one after another
grows_lead : (rows back : List Row) (w : WriterHistory) (s : History) → InTurn w.client [] w.taken → w.taken ≡ w.grown ++ (rows ++ back) → Fits w s
    → Leads (Fits (record w { grown = w.grown ++ rows })) s (map (grow w.stream) rows)
grows_lead [] back w s t parts f = leads_none (Fits (record w { grown = w.grown ++ [] })) s
    (subst (λ g. Fits (record w { grown = g }) s) (sym (append-nil w.grown)) f)
grows_lead (r ∷ rows) back w s t parts f =
    let now : WriterHistory = record w { grown = w.grown ++ r ∷ [] } in
    subst (λ g. Leads (Fits (record w { grown = g })) s (map (grow w.stream) (r ∷ rows))) (append_assoc w.grown (r ∷ []) rows)
    (leads_both (Fits now) (Fits (record now { grown = now.grown ++ rows })) s (grow w.stream r ∷ []) (map (grow w.stream) rows)
    (grow_leads w s r (rows ++ back) t parts f)
    (λ u h. grows_lead rows back now u t (parts ∙ sym (append_assoc w.grown (r ∷ []) (rows ++ back))) h))

-- a place is itself
same_place : (d : Dlsn) → is_same d d ≡ true
same_place d = and_from _ _ (and_from _ _ (eq-eqb d.segment d.segment refl) (eq-eqb d.entry d.entry refl)) (eq-eqb d.slot d.slot refl)

-- a row that was taken and stands in its stream is found there
stands_there : (s : History) (c n : ℕ) (stream : List ℕ) (rows front : List Row) (r : Row) (back : List Row) → taken_at s c n ≡ Some (as_taken stream r)
    → r.origin.client ≡ c → r.origin.call ≡ n → (s.streams stream).rows ≡ rows → rows ≡ front ++ r ∷ back → stands_at s (taken_at s c n) c n r.place ≡ true
stands_there s c n stream rows front r back taken client call seen parts =
    let here : (is_from c n r && is_same r.place r.place) ≡ true =
    and_from (is_from c n r) (is_same r.place r.place) (and_from (r.origin.client == c) (r.origin.call == n) (eq-eqb r.origin.client c client)
    (eq-eqb r.origin.call n call)) (same_place r.place) in
    ap (λ o. stands_at s o c n r.place) taken
    ∙ ap (list_any (λ x. is_from c n x && is_same x.place r.place)) (seen ∙ parts)
    ∙ any_at (λ (x : Row). is_from c n x && is_same x.place r.place) front r back here

-- the first row that isn't acknowledged may be
may_ack : (w : WriterHistory) (s : History) (front : List Row) (r : Row) (back later : List Row) → Follows w.client front r → w.taken ≡ front ++ r ∷ later
    → w.grown ≡ front ++ r ∷ back → w.acked ≡ length front → Fits w s → MayAck s r
may_ack w s front r back later t all parts acks f =
    let mine : ClientFits w.stream w.taken w.acked (s.clients r.origin.client) = of_client w s r.origin.client t.client f in
    record {
      stands = stands_there s r.origin.client r.origin.call w.stream w.grown front r back
          (taken_there s r.origin.client r.origin.call w.stream w.taken front r later mine.taken all t.call) refl refl f.rows.grown parts;
      fresh = none_above w.acked r.origin.call (s.clients r.origin.client).acked (omega (arith, t.call, acks)) mine.acked;
    }

-- a row is acknowledged
acked_fits : (w : WriterHistory) (s : History) (r : Row) → r.origin.client ≡ w.client → r.origin.call ≡ w.acked + 1 → Fits w s
    → Fits (record w { acked = w.acked + 1 }) (sees s (ack r))
unfolding sees
acked_fits w s r client call f =
    let mine : ClientFits w.stream w.taken w.acked (s.clients r.origin.client) = of_client w s r.origin.client client f in
    let then : ClientHistory = record (s.clients r.origin.client) { acked = r.origin.call ∷ (s.clients r.origin.client).acked } in
    record {
      joined = f.joined;
      rows = f.rows;
      records = subst (ClientFits w.stream w.taken (w.acked + 1)) (sym (put_client_there s r.origin.client w.client then (sym client))) (record {
        taken = mine.taken;
        acked = and_from (nat_le r.origin.call (w.acked + 1)) (list_all (λ n. nat_le n (w.acked + 1)) (s.clients r.origin.client).acked)
            (le-leb r.origin.call (w.acked + 1) (omega (arith, call)))
            (all_weaker (λ n. nat_le n w.acked) (λ n. nat_le n (w.acked + 1)) (λ n h. le_more w.acked (w.acked + 1) n (omega arith) h)
            (s.clients r.origin.client).acked mine.acked);
      });
    }

-- so an acknowledgement leads on
ack_leads : (w : WriterHistory) (s : History) (front : List Row) (r : Row) (back later : List Row) → InTurn w.client [] w.taken
    → w.taken ≡ front ++ r ∷ later → w.grown ≡ front ++ r ∷ back → w.acked ≡ length front → Fits w s
    → Leads (Fits (record w { acked = w.acked + 1 })) s (ack r ∷ [])
ack_leads w s front r back later t all parts acks f =
    let turn : Follows w.client front r = follows_at w.client w.taken front r later all t in
    leads_one (Fits (record w { acked = w.acked + 1 })) s (ack r) (keeps_ack s r (may_ack w s front r back later turn all parts acks f))
    (acked_fits w s r turn.client (turn.call ∙ ap (λ n. n + 1) (sym acks)) f)

-- the rows that stand and aren't acknowledged are, one after another
acks_lead : (rows front later : List Row) (w : WriterHistory) (s : History) → InTurn w.client [] w.taken → w.taken ≡ w.grown ++ later
    → w.grown ≡ front ++ rows → w.acked ≡ length front → Fits w s
    → Leads (Fits (record w { acked = length w.grown })) s (map ack rows)
acks_lead [] front later w s t all parts acks f =
    let same : w.acked ≡ length w.grown = acks ∙ ap length (sym (append-nil front)) ∙ ap length (sym parts) in
    leads_none (Fits (record w { acked = length w.grown })) s (subst (λ n. Fits (record w { acked = n }) s) same f)
acks_lead (r ∷ rows) front later w s t all parts acks f =
    let now : WriterHistory = record w { acked = w.acked + 1 } in
    let with_later : w.taken ≡ front ++ r ∷ (rows ++ later) = all ∙ ap (λ xs. xs ++ later) parts ∙ append_assoc front (r ∷ rows) later in
    leads_both (Fits now) (Fits (record now { acked = length now.grown })) s (ack r ∷ []) (map ack rows)
    (ack_leads w s front r rows (rows ++ later) t with_later parts acks f)
    (λ u h. acks_lead rows (front ++ r ∷ []) later now u t all (parts ∙ sym (append_assoc front (r ∷ []) rows)) (ap (λ n. n + 1) acks
    ∙ sym (length_push front r)) h)

-- all that stands is acknowledged
abbrev pub upto : WriterHistory → List Row → WriterHistory
upto w rows = record w { grown = rows; acked = length rows }

-- an entry is confirmed
confirmed_leads : (rows back grown : List Row) (w : WriterHistory) (s : History) → InTurn w.client [] w.taken → w.taken ≡ grown ++ (rows ++ back)
    → Fits (upto w grown) s
    → Leads (Fits (upto w (grown ++ rows))) s (entry_events w.stream rows)
confirmed_leads rows back grown w s t parts f =
    leads_both (Fits (record (upto w grown) { grown = grown ++ rows })) (Fits (upto w (grown ++ rows))) s (map (grow w.stream) rows) (map ack rows)
    (grows_lead rows back (upto w grown) s t parts f)
    (λ u h. acks_lead rows grown back (record (upto w grown) { grown = grown ++ rows }) u t (parts ∙ sym (append_assoc grown rows back)) refl refl h)

-- entries are confirmed, one after another
pub entries_lead : (entries : List (List Row)) (back grown : List Row) (w : WriterHistory) (s : History) → InTurn w.client [] w.taken
    → w.taken ≡ grown ++ (flat_map (λ rows. rows) entries ++ back) → Fits (upto w grown) s
    → Leads (Fits (upto w (grown ++ flat_map (λ rows. rows) entries))) s (flat_map (entry_events w.stream) entries)
entries_lead [] back grown w s t parts f =
    leads_none (Fits (upto w (grown ++ []))) s (subst (λ g. Fits (upto w g) s) (sym (append-nil grown)) f)
entries_lead (rows ∷ entries) back grown w s t parts f =
    let rest : List Row = flat_map (λ (x : List Row). x) entries in
    let now : w.taken ≡ grown ++ (rows ++ (rest ++ back)) = parts ∙ ap (λ xs. grown ++ xs) (append_assoc rows rest back) in
    subst (λ g. Leads (Fits (upto w g)) s (entry_events w.stream rows ++ flat_map (entry_events w.stream) entries)) (append_assoc grown rows rest)
    (leads_both (Fits (upto w (grown ++ rows))) (Fits (upto w ((grown ++ rows) ++ rest))) s (entry_events w.stream rows)
    (flat_map (entry_events w.stream) entries)
    (confirmed_leads rows (rest ++ back) grown w s t now f)
    (λ u h. entries_lead entries back (grown ++ rows) w u t (now ∙ sym (append_assoc grown rows (rest ++ back))) h))

-- a writer begins a stream of which nothing was seen
pub writer_fits : (sessions c : ℕ) (stream : List ℕ) (s : History) → s.sessions ≡ sessions → s.streams stream ≡ new_stream → s.clients c ≡ new_client
    → Fits (record { sessions = sessions; client = c; stream = stream; taken = []; grown = []; acked = 0 }) (sees s (Writer c stream segment))
unfolding sees
writer_fits sessions c stream s joined streams clients =
    let then : StreamHistory = record (s.streams stream) { writers = segment ∷ (s.streams stream).writers } in
    record {
      joined = joined;
      rows = subst (StreamFits []) (sym (put_stream_there s stream then)) (record {
        grown = ap (λ (x : StreamHistory). x.rows) streams;
        closed = ap (λ (x : StreamHistory). x.closed) streams;
        mark = ap (λ (x : StreamHistory). x.mark) streams;
      });
      records = subst (ClientFits stream [] 0) (sym clients) (record { taken = refl; acked = refl });
    }
