-- Each form of a transcript's line is read exactly.
use Rattle.std.proofs.Common.{◌≡◌, ℕ, ◌-◌, List, [], ◌∷◌, ◌++◌, Ok, Err, ◌⊎◌, inl, inr, refl, sym, ap, subst, lit<}
use Rattle.std.specs.Prelude.{codes}
use Rattle.std.specs.List.{AllByRecursion}
use Rattle.dl_types.specs.declared.address.Address.{Address}
use Rattle.dl_types.specs.declared.dlsn.Dlsn.{Dlsn}
use Rattle.dl_types.specs.declared.read_row.ReadRow.{ReadRow}
use Rattle.dl_types.specs.declared.refusal.Refusal.{Refusal}
use Rattle.dl_text.specs.Readers.{Exact, map_at}
use Rattle.dl_text.specs.Choices.{or_at}
use Rattle.dl_text.specs.Fields.{place_field}
use Rattle.dl_text.specs.Hex.{AllBytes}
use Rattle.dl_text.specs.ListFields.{AreUpTo, list_at}
use Rattle.dl_text.specs.NameFields.{IsName}
use Rattle.dl_text.specs.Numbers.{number, IsWithin, most_u32}
use Rattle.dl_text.specs.PlaceFields.{IsPlaceFrom}
use Rattle.dl_text.specs.Words.{words_from}
use Rattle.dl_text.proofs.ReaderLemmas.{then_exact, made_exact}
use Rattle.dl_text.proofs.ChoiceLemmas.{either_exact}
use Rattle.dl_text.proofs.HexLemmas.{hex_exact}
use Rattle.dl_text.proofs.NameLemmas.{name_exact}
use Rattle.dl_text.proofs.WordLemmas.{words_exact, one_word_exact}
use Rattle.dl_schedule.specs.declared.up_to.TheConstants.{MAX_ROWS}
use Rattle.dl_schedule.specs.StepLines.{letter_of, IsClient, IsTxid}
use Rattle.dl_schedule.specs.StepReading.{letters, other_letters, txid_at}
use Rattle.dl_schedule.proofs.FieldExactness.{nothing_exact, client, txid}
use Rattle.dl_schedule.proofs.FieldExactness.{IsAddress, IsLetter, any_letter, IsOtherLetter, other_letter, link_ends, ends_link, address_exact}
use Rattle.dl_transcript.specs.declared.event.Event.{Event}
use Rattle.dl_transcript.specs.declared.event.Event.TheVariants.{Joined, Expired, Created, Removed, Released, Whole, Writer, Took, Sent, Grow, Ack, Committed}
use Rattle.dl_transcript.specs.declared.event.Event.TheVariants.{Closed, Recovered, Point, Truncated, Purged, OpenedAt, OpenedFrom, Reading, End, Rows}
use Rattle.dl_transcript.specs.declared.event.Event.TheVariants.{Refused, Mail, Nothing}
use Rattle.dl_transcript.specs.declared.verb.Verb.{Verb}
use Rattle.dl_transcript.specs.declared.verb.Verb.TheVariants as verb
use Rattle.dl_transcript.specs.Lines.{space, line_feed, verb_of, print_order, print_fields}
use Rattle.dl_transcript.specs.Verbs.{verb_text}
use Rattle.dl_transcript.specs.Ranges.{IsSession, IsU32, IsU64, IsRefusal, IsReadRow, IsEvent, IsLine}
use Rattle.dl_transcript.specs.Reading.{behind_at, any_place_at, order_event, order_event_with, stream_event_with, session_at, u64_at, row_at, joined_at}
use Rattle.dl_transcript.specs.Reading.{took_at}
use Rattle.dl_transcript.specs.Reading.{sent_at, grow_at, ack_at, opened_at, refused_at, mail_at, fields_at, verbs, event_at, line_at}
use Rattle.dl_events.specs.Faults.{event_line}
use Rattle.dl_events.proofs.Fields.{session, u32, u64, segment, any_place, count, row_list}
use Rattle.dl_events.proofs.RefusalExactness.{refusal_exact}

-- first words

-- each first word may begin an event
abbrev IsVerb : Verb → Type 0
IsVerb w = Unit {0}

-- each first word is read as itself, whatever follows
verb_again : (w : Verb) (rest : List ℕ) → IsVerb w → words_from verb_text 0 verbs (verb_text w ++ rest) ≡ Ok (w, rest)
verb_again verb.Joined rest u = refl
verb_again verb.Expired rest u = refl
verb_again verb.Created rest u = refl
verb_again verb.Removed rest u = refl
verb_again verb.Released rest u = refl
verb_again verb.Whole rest u = refl
verb_again verb.Writer rest u = refl
verb_again verb.Took rest u = refl
verb_again verb.Sent rest u = refl
verb_again verb.Grow rest u = refl
verb_again verb.Ack rest u = refl
verb_again verb.Committed rest u = refl
verb_again verb.Closed rest u = refl
verb_again verb.Recovered rest u = refl
verb_again verb.Point rest u = refl
verb_again verb.Truncated rest u = refl
verb_again verb.Purged rest u = refl
verb_again verb.Opened rest u = refl
verb_again verb.Reading rest u = refl
verb_again verb.End rest u = refl
verb_again verb.Rows rest u = refl
verb_again verb.Refused rest u = refl
verb_again verb.Mail rest u = refl
verb_again verb.Nothing rest u = refl

-- what holds of each first word in the list holds of each first word
every_verb : (P : Verb → Type 0) → AllByRecursion P verbs → (w : Verb) → IsVerb w → P w
every_verb P all verb.Joined u = all.0
every_verb P all verb.Expired u = all.1.0
every_verb P all verb.Created u = all.1.1.0
every_verb P all verb.Removed u = all.1.1.1.0
every_verb P all verb.Released u = all.1.1.1.1.0
every_verb P all verb.Whole u = all.1.1.1.1.1.0
every_verb P all verb.Writer u = all.1.1.1.1.1.1.0
every_verb P all verb.Took u = all.1.1.1.1.1.1.1.0
every_verb P all verb.Sent u = all.1.1.1.1.1.1.1.1.0
every_verb P all verb.Grow u = all.1.1.1.1.1.1.1.1.1.0
every_verb P all verb.Ack u = all.1.1.1.1.1.1.1.1.1.1.0
every_verb P all verb.Committed u = all.1.1.1.1.1.1.1.1.1.1.1.0
every_verb P all verb.Closed u = all.1.1.1.1.1.1.1.1.1.1.1.1.0
every_verb P all verb.Recovered u = all.1.1.1.1.1.1.1.1.1.1.1.1.1.0
every_verb P all verb.Point u = all.1.1.1.1.1.1.1.1.1.1.1.1.1.1.0
every_verb P all verb.Truncated u = all.1.1.1.1.1.1.1.1.1.1.1.1.1.1.1.0
every_verb P all verb.Purged u = all.1.1.1.1.1.1.1.1.1.1.1.1.1.1.1.1.0
every_verb P all verb.Opened u = all.1.1.1.1.1.1.1.1.1.1.1.1.1.1.1.1.1.0
every_verb P all verb.Reading u = all.1.1.1.1.1.1.1.1.1.1.1.1.1.1.1.1.1.1.0
every_verb P all verb.End u = all.1.1.1.1.1.1.1.1.1.1.1.1.1.1.1.1.1.1.1.0
every_verb P all verb.Rows u = all.1.1.1.1.1.1.1.1.1.1.1.1.1.1.1.1.1.1.1.1.0
every_verb P all verb.Refused u = all.1.1.1.1.1.1.1.1.1.1.1.1.1.1.1.1.1.1.1.1.1.0
every_verb P all verb.Mail u = all.1.1.1.1.1.1.1.1.1.1.1.1.1.1.1.1.1.1.1.1.1.1.0
every_verb P all verb.Nothing u = all.1.1.1.1.1.1.1.1.1.1.1.1.1.1.1.1.1.1.1.1.1.1.1.0

-- each first word of a list may begin an event
are_verbs : (words : List Verb) → AllByRecursion IsVerb words
are_verbs [] = tt
are_verbs (w ∷ words) = (tt, are_verbs words)

-- the first word of an event is read exactly
verb_exact : Exact IsVerb verb_text (words_from verb_text 0 verbs)
verb_exact = words_exact IsVerb verb_text verb.Joined
    (verb.Expired ∷ verb.Created ∷ verb.Removed ∷ verb.Released ∷ verb.Whole ∷ verb.Writer ∷ verb.Took ∷ verb.Sent ∷ verb.Grow ∷ verb.Ack ∷ verb.Committed ∷ verb.Closed
    ∷ verb.Recovered ∷ verb.Point ∷ verb.Truncated ∷ verb.Purged ∷ verb.Opened ∷ verb.Reading ∷ verb.End ∷ verb.Rows ∷ verb.Refused ∷ verb.Mail ∷ verb.Nothing ∷ [])
    (are_verbs verbs) verb_again every_verb

-- events behind their first words

-- an event whose first word is this
abbrev IsOf : Verb → Event → Type 0
IsOf w e = IsEvent e × (verb_of e ≡ w)

-- a session is read exactly behind its first word
joined_exact : Exact (IsOf verb.Joined) print_fields (joined_at)
joined_exact = made_exact _ _ _ (λ (x : ℕ × ℕ). Joined x.0 x.1) (IsOf verb.Joined) print_fields
    (then_exact _ _ _ _ _ _ (client space (lit< tt)) (λ c v. session))
    (λ x v. ((v, refl), refl)) from
  where
    from : (e : Event) → IsOf verb.Joined e → (x : ℕ × ℕ) × (IsClient x.0 × IsSession x.1) × ((λ (x : ℕ × ℕ). Joined x.0 x.1) x ≡ e)
    from (Joined c k) w = ((c, k), w.0, refl)
    from _ w = absurd (let e = w.1 in cc)

-- an expiry is read exactly behind its first word
expired_exact : Exact (IsOf verb.Expired) print_fields (map_at Expired (session_at line_feed))
expired_exact = made_exact _ _ _ (Expired) (IsOf verb.Expired) print_fields
    (session)
    (λ x v. ((v, refl), refl)) from
  where
    from : (e : Event) → IsOf verb.Expired e → (x : ℕ) × IsSession x × ((Expired) x ≡ e)
    from (Expired k) w = (k, w.0, refl)
    from _ w = absurd (let e = w.1 in cc)

-- a creation is read exactly behind its first word
created_exact : Exact (IsOf verb.Created) print_fields (order_event Created)
created_exact = made_exact _ _ _ (λ (x : ℕ × List ℕ). Created x.0 x.1) (IsOf verb.Created) print_fields
    (then_exact _ _ _ _ _ _ (client space (lit< tt)) (λ c v. name_exact line_feed (lit< tt)))
    (λ x v. ((v, refl), refl)) from
  where
    from : (e : Event) → IsOf verb.Created e → (x : ℕ × List ℕ) × (IsClient x.0 × IsName x.1) × ((λ (x : ℕ × List ℕ). Created x.0 x.1) x ≡ e)
    from (Created c s) w = ((c, s), w.0, refl)
    from _ w = absurd (let e = w.1 in cc)

-- a removal is read exactly behind its first word
removed_exact : Exact (IsOf verb.Removed) print_fields (order_event Removed)
removed_exact = made_exact _ _ _ (λ (x : ℕ × List ℕ). Removed x.0 x.1) (IsOf verb.Removed) print_fields
    (then_exact _ _ _ _ _ _ (client space (lit< tt)) (λ c v. name_exact line_feed (lit< tt)))
    (λ x v. ((v, refl), refl)) from
  where
    from : (e : Event) → IsOf verb.Removed e → (x : ℕ × List ℕ) × (IsClient x.0 × IsName x.1) × ((λ (x : ℕ × List ℕ). Removed x.0 x.1) x ≡ e)
    from (Removed c s) w = ((c, s), w.0, refl)
    from _ w = absurd (let e = w.1 in cc)

-- a release is read exactly behind its first word
released_exact : Exact (IsOf verb.Released) print_fields (order_event Released)
released_exact = made_exact _ _ _ (λ (x : ℕ × List ℕ). Released x.0 x.1) (IsOf verb.Released) print_fields
    (then_exact _ _ _ _ _ _ (client space (lit< tt)) (λ c v. name_exact line_feed (lit< tt)))
    (λ x v. ((v, refl), refl)) from
  where
    from : (e : Event) → IsOf verb.Released e → (x : ℕ × List ℕ) × (IsClient x.0 × IsName x.1) × ((λ (x : ℕ × List ℕ). Released x.0 x.1) x ≡ e)
    from (Released c s) w = ((c, s), w.0, refl)
    from _ w = absurd (let e = w.1 in cc)

-- a stream with nothing to recover is read exactly behind its first word
whole_exact : Exact (IsOf verb.Whole) print_fields (order_event Whole)
whole_exact = made_exact _ _ _ (λ (x : ℕ × List ℕ). Whole x.0 x.1) (IsOf verb.Whole) print_fields
    (then_exact _ _ _ _ _ _ (client space (lit< tt)) (λ c v. name_exact line_feed (lit< tt)))
    (λ x v. ((v, refl), refl)) from
  where
    from : (e : Event) → IsOf verb.Whole e → (x : ℕ × List ℕ) × (IsClient x.0 × IsName x.1) × ((λ (x : ℕ × List ℕ). Whole x.0 x.1) x ≡ e)
    from (Whole c s) w = ((c, s), w.0, refl)
    from _ w = absurd (let e = w.1 in cc)

-- a read is read exactly behind its first word
reading_exact : Exact (IsOf verb.Reading) print_fields (order_event Reading)
reading_exact = made_exact _ _ _ (λ (x : ℕ × List ℕ). Reading x.0 x.1) (IsOf verb.Reading) print_fields
    (then_exact _ _ _ _ _ _ (client space (lit< tt)) (λ c v. name_exact line_feed (lit< tt)))
    (λ x v. ((v, refl), refl)) from
  where
    from : (e : Event) → IsOf verb.Reading e → (x : ℕ × List ℕ) × (IsClient x.0 × IsName x.1) × ((λ (x : ℕ × List ℕ). Reading x.0 x.1) x ≡ e)
    from (Reading c s) w = ((c, s), w.0, refl)
    from _ w = absurd (let e = w.1 in cc)

-- the end of a read is read exactly behind its first word
end_exact : Exact (IsOf verb.End) print_fields (order_event End)
end_exact = made_exact _ _ _ (λ (x : ℕ × List ℕ). End x.0 x.1) (IsOf verb.End) print_fields
    (then_exact _ _ _ _ _ _ (client space (lit< tt)) (λ c v. name_exact line_feed (lit< tt)))
    (λ x v. ((v, refl), refl)) from
  where
    from : (e : Event) → IsOf verb.End e → (x : ℕ × List ℕ) × (IsClient x.0 × IsName x.1) × ((λ (x : ℕ × List ℕ). End x.0 x.1) x ≡ e)
    from (End c s) w = ((c, s), w.0, refl)
    from _ w = absurd (let e = w.1 in cc)

-- a writer is read exactly behind its first word
writer_exact : Exact (IsOf verb.Writer) print_fields (order_event_with Writer (u64_at line_feed))
writer_exact = made_exact _ _ _ (λ (x : (ℕ × List ℕ) × ℕ). Writer x.0.0 x.0.1 x.1) (IsOf verb.Writer) print_fields
    (then_exact _ _ _ _ _ _ (then_exact _ _ _ _ _ _ (client space (lit< tt)) (λ c v. name_exact space (lit< tt))) (λ o v. u64))
    (λ x v. (((v.0.0, (v.0.1, v.1)), refl), refl)) from
  where
    from : (e : Event) → IsOf verb.Writer e → (x : (ℕ × List ℕ) × ℕ) × ((IsClient x.0.0 × IsName x.0.1) × IsU64 x.1) × ((λ (x : (ℕ × List ℕ)
        × ℕ). Writer x.0.0 x.0.1 x.1) x ≡ e)
    from (Writer c s a) w = (((c, s), a), ((w.0.0, w.0.1.0), w.0.1.1), refl)
    from _ w = absurd (let e = w.1 in cc)

-- a purge is read exactly behind its first word
purged_exact : Exact (IsOf verb.Purged) print_fields (order_event_with Purged (u64_at line_feed))
purged_exact = made_exact _ _ _ (λ (x : (ℕ × List ℕ) × ℕ). Purged x.0.0 x.0.1 x.1) (IsOf verb.Purged) print_fields
    (then_exact _ _ _ _ _ _ (then_exact _ _ _ _ _ _ (client space (lit< tt)) (λ c v. name_exact space (lit< tt))) (λ o v. u64))
    (λ x v. (((v.0.0, (v.0.1, v.1)), refl), refl)) from
  where
    from : (e : Event) → IsOf verb.Purged e → (x : (ℕ × List ℕ) × ℕ) × ((IsClient x.0.0 × IsName x.0.1) × IsU64 x.1) × ((λ (x : (ℕ × List ℕ)
        × ℕ). Purged x.0.0 x.0.1 x.1) x ≡ e)
    from (Purged c s a) w = (((c, s), a), ((w.0.0, w.0.1.0), w.0.1.1), refl)
    from _ w = absurd (let e = w.1 in cc)

-- a recovery is read exactly behind its first word
recovered_exact : Exact (IsOf verb.Recovered) print_fields (order_event_with Recovered (any_place_at line_feed))
recovered_exact = made_exact _ _ _ (λ (x : (ℕ × List ℕ) × Dlsn). Recovered x.0.0 x.0.1 x.1) (IsOf verb.Recovered) print_fields
    (then_exact _ _ _ _ _ _ (then_exact _ _ _ _ _ _ (client space (lit< tt)) (λ c v. name_exact space (lit< tt))) (λ o v. any_place line_feed (lit< tt)))
    (λ x v. (((v.0.0, (v.0.1, v.1)), refl), refl)) from
  where
    from : (e : Event) → IsOf verb.Recovered e → (x : (ℕ × List ℕ) × Dlsn) × ((IsClient x.0.0 × IsName x.0.1) × IsPlaceFrom 0 x.1) × ((λ (x : (ℕ
        × List ℕ) × Dlsn). Recovered x.0.0 x.0.1 x.1) x ≡ e)
    from (Recovered c s a) w = (((c, s), a), ((w.0.0, w.0.1.0), w.0.1.1), refl)
    from _ w = absurd (let e = w.1 in cc)

-- a truncation is read exactly behind its first word
truncated_exact : Exact (IsOf verb.Truncated) print_fields (order_event_with Truncated (any_place_at line_feed))
truncated_exact = made_exact _ _ _ (λ (x : (ℕ × List ℕ) × Dlsn). Truncated x.0.0 x.0.1 x.1) (IsOf verb.Truncated) print_fields
    (then_exact _ _ _ _ _ _ (then_exact _ _ _ _ _ _ (client space (lit< tt)) (λ c v. name_exact space (lit< tt))) (λ o v. any_place line_feed (lit< tt)))
    (λ x v. (((v.0.0, (v.0.1, v.1)), refl), refl)) from
  where
    from : (e : Event) → IsOf verb.Truncated e → (x : (ℕ × List ℕ) × Dlsn) × ((IsClient x.0.0 × IsName x.0.1) × IsPlaceFrom 0 x.1) × ((λ (x : (ℕ
        × List ℕ) × Dlsn). Truncated x.0.0 x.0.1 x.1) x ≡ e)
    from (Truncated c s a) w = (((c, s), a), ((w.0.0, w.0.1.0), w.0.1.1), refl)
    from _ w = absurd (let e = w.1 in cc)

-- a read of rows is read exactly behind its first word
rows_exact : Exact (IsOf verb.Rows) print_fields (order_event_with Rows (list_at row_at (MAX_ROWS - 1)))
rows_exact = made_exact _ _ _ (λ (x : (ℕ × List ℕ) × List ReadRow). Rows x.0.0 x.0.1 x.1) (IsOf verb.Rows) print_fields
    (then_exact _ _ _ _ _ _ (then_exact _ _ _ _ _ _ (client space (lit< tt)) (λ c v. name_exact space (lit< tt))) (λ o v. row_list (MAX_ROWS - 1)))
    (λ x v. (((v.0.0, (v.0.1, v.1)), refl), refl)) from
  where
    from : (e : Event) → IsOf verb.Rows e → (x : (ℕ × List ℕ) × List ReadRow) × ((IsClient x.0.0 × IsName x.0.1) × AreUpTo IsReadRow (MAX_ROWS - 1) x.1) ×
        ((λ (x : (ℕ × List ℕ) × List ReadRow). Rows x.0.0 x.0.1 x.1) x ≡ e)
    from (Rows c s a) w = (((c, s), a), ((w.0.0, w.0.1.0), w.0.1.1), refl)
    from _ w = absurd (let e = w.1 in cc)

-- a mark is read exactly behind its first word
committed_exact : Exact (IsOf verb.Committed) print_fields (stream_event_with Committed (any_place_at line_feed))
committed_exact = made_exact _ _ _ (λ (x : List ℕ × Dlsn). Committed x.0 x.1) (IsOf verb.Committed) print_fields
    (then_exact _ _ _ _ _ _ (name_exact space (lit< tt)) (λ s v. any_place line_feed (lit< tt)))
    (λ x v. ((v, refl), refl)) from
  where
    from : (e : Event) → IsOf verb.Committed e → (x : List ℕ × Dlsn) × (IsName x.0 × IsPlaceFrom 0 x.1) × ((λ (x : List ℕ × Dlsn). Committed x.0 x.1) x ≡ e)
    from (Committed s a) w = ((s, a), w.0, refl)
    from _ w = absurd (let e = w.1 in cc)

-- a closed segment is read exactly behind its first word
closed_exact : Exact (IsOf verb.Closed) print_fields (stream_event_with Closed (u64_at line_feed))
closed_exact = made_exact _ _ _ (λ (x : List ℕ × ℕ). Closed x.0 x.1) (IsOf verb.Closed) print_fields
    (then_exact _ _ _ _ _ _ (name_exact space (lit< tt)) (λ s v. u64))
    (λ x v. ((v, refl), refl)) from
  where
    from : (e : Event) → IsOf verb.Closed e → (x : List ℕ × ℕ) × (IsName x.0 × IsU64 x.1) × ((λ (x : List ℕ × ℕ). Closed x.0 x.1) x ≡ e)
    from (Closed s a) w = ((s, a), w.0, refl)
    from _ w = absurd (let e = w.1 in cc)

-- a point is read exactly behind its first word
point_exact : Exact (IsOf verb.Point) print_fields (stream_event_with Point (any_place_at line_feed))
point_exact = made_exact _ _ _ (λ (x : List ℕ × Dlsn). Point x.0 x.1) (IsOf verb.Point) print_fields
    (then_exact _ _ _ _ _ _ (name_exact space (lit< tt)) (λ s v. any_place line_feed (lit< tt)))
    (λ x v. ((v, refl), refl)) from
  where
    from : (e : Event) → IsOf verb.Point e → (x : List ℕ × Dlsn) × (IsName x.0 × IsPlaceFrom 0 x.1) × ((λ (x : List ℕ × Dlsn). Point x.0 x.1) x ≡ e)
    from (Point s a) w = ((s, a), w.0, refl)
    from _ w = absurd (let e = w.1 in cc)

-- a record that was taken is read exactly behind its first word
took_exact : Exact (IsOf verb.Took) print_fields (took_at)
took_exact = made_exact _ _ _ (λ (x : ℕ × (ℕ × (List ℕ × (ℕ × List ℕ)))). Took x.0 x.1.0 x.1.1.0 x.1.1.1.0 x.1.1.1.1) (IsOf verb.Took) print_fields
    (then_exact _ _ _ _ _ _ (client space (lit< tt)) (λ c v. then_exact _ _ _ _ _ _ (u32 space (lit< tt)) (λ n v. then_exact _ _ _ _ _ _ (name_exact space
    (lit< tt))
    (λ s v. then_exact _ _ _ _ _ _ (txid space (lit< tt)) (λ t v. hex_exact line_feed (lit< tt))))))
    (λ x v. ((v, refl), refl)) from
  where
    from : (e : Event) → IsOf verb.Took e → (x : ℕ × (ℕ × (List ℕ × (ℕ × List ℕ)))) × (IsClient x.0 × (IsU32 x.1.0 × (IsName x.1.1.0 × (IsTxid x.1.1.1.0
        × AllBytes x.1.1.1.1)))) × ((λ (x : ℕ × (ℕ × (List ℕ × (ℕ × List ℕ)))). Took x.0 x.1.0 x.1.1.0 x.1.1.1.0 x.1.1.1.1) x ≡ e)
    from (Took c n s t p) w = ((c, (n, (s, (t, p)))), w.0, refl)
    from _ w = absurd (let e = w.1 in cc)

-- an entry that was sent is read exactly behind its first word
sent_exact : Exact (IsOf verb.Sent) print_fields (sent_at)
sent_exact = made_exact _ _ _ (λ (x : ℕ × (ℕ × ℕ)). Sent x.0 x.1.0 x.1.1) (IsOf verb.Sent) print_fields
    (then_exact _ _ _ _ _ _ (client space (lit< tt)) (λ c v. then_exact _ _ _ _ _ _ segment (λ k v. u64)))
    (λ x v. ((v, refl), refl)) from
  where
    from : (e : Event) → IsOf verb.Sent e → (x : ℕ × (ℕ × ℕ)) × (IsClient x.0 × (IsU64 x.1.0 × IsU64 x.1.1)) × ((λ (x : ℕ × (ℕ
        × ℕ)). Sent x.0 x.1.0 x.1.1) x ≡ e)
    from (Sent c k e) w = ((c, (k, e)), w.0, refl)
    from _ w = absurd (let e = w.1 in cc)

-- a row that grew is read exactly behind its first word
grow_exact : Exact (IsOf verb.Grow) print_fields (grow_at)
grow_exact = made_exact _ _ _ (λ (x : List ℕ × (Dlsn × (ℕ × (ℕ × (ℕ × List ℕ))))). Grow x.0 x.1.0 x.1.1.0 x.1.1.1.0 x.1.1.1.1.0 x.1.1.1.1.1)
    (IsOf verb.Grow) print_fields
    (then_exact _ _ _ _ _ _ (name_exact space (lit< tt)) (λ s v. then_exact _ _ _ _ _ _ (any_place space (lit< tt)) (λ d v. then_exact _ _ _ _ _ _
    (txid space (lit< tt))
    (λ t v. then_exact _ _ _ _ _ _ (client space (lit< tt)) (λ c v. then_exact _ _ _ _ _ _ (u32 space (lit< tt)) (λ n v. hex_exact line_feed (lit< tt)))))))
    (λ x v. ((v, refl), refl)) from
  where
    from : (e : Event) → IsOf verb.Grow e → (x : List ℕ × (Dlsn × (ℕ × (ℕ × (ℕ × List ℕ))))) × (IsName x.0 × (IsPlaceFrom 0 x.1.0 × (IsTxid x.1.1.0 ×
        (IsClient x.1.1.1.0 × (IsU32 x.1.1.1.1.0 × AllBytes x.1.1.1.1.1))))) × ((λ (x : List ℕ × (Dlsn × (ℕ × (ℕ × (ℕ
        × List ℕ))))). Grow x.0 x.1.0 x.1.1.0 x.1.1.1.0 x.1.1.1.1.0 x.1.1.1.1.1) x ≡ e)
    from (Grow s d t c n p) w = ((s, (d, (t, (c, (n, p))))), w.0, refl)
    from _ w = absurd (let e = w.1 in cc)

-- an acknowledgement is read exactly behind its first word
ack_exact : Exact (IsOf verb.Ack) print_fields (ack_at)
ack_exact = made_exact _ _ _ (λ (x : ℕ × (ℕ × Dlsn)). Ack x.0 x.1.0 x.1.1) (IsOf verb.Ack) print_fields
    (then_exact _ _ _ _ _ _ (client space (lit< tt)) (λ c v. then_exact _ _ _ _ _ _ (u32 space (lit< tt)) (λ n v. any_place line_feed (lit< tt))))
    (λ x v. ((v, refl), refl)) from
  where
    from : (e : Event) → IsOf verb.Ack e → (x : ℕ × (ℕ × Dlsn)) × (IsClient x.0 × (IsU32 x.1.0 × IsPlaceFrom 0 x.1.1)) × ((λ (x : ℕ × (ℕ
        × Dlsn)). Ack x.0 x.1.0 x.1.1) x ≡ e)
    from (Ack c n d) w = ((c, (n, d)), w.0, refl)
    from _ w = absurd (let e = w.1 in cc)

-- a refusal is read exactly behind its first word
refused_exact : Exact (IsOf verb.Refused) print_fields (refused_at)
refused_exact = made_exact _ _ _ (λ (x : ℕ × Refusal). Refused x.0 x.1) (IsOf verb.Refused) print_fields
    (then_exact _ _ _ _ _ _ (client space (lit< tt)) (λ c v. refusal_exact))
    (λ x v. ((v, refl), refl)) from
  where
    from : (e : Event) → IsOf verb.Refused e → (x : ℕ × Refusal) × (IsClient x.0 × IsRefusal x.1) × ((λ (x : ℕ × Refusal). Refused x.0 x.1) x ≡ e)
    from (Refused c r) w = ((c, r), w.0, refl)
    from _ w = absurd (let e = w.1 in cc)

-- how many messages a link has is read exactly behind its first word
mail_exact : Exact (IsOf verb.Mail) print_fields mail_at
mail_exact = made_exact _ _ _ (λ x. Mail x.0 x.1.0 x.1.1) (IsOf verb.Mail) print_fields
    (then_exact _ _ _ _ _ _ (address_exact space (lit< tt) IsLetter letters any_letter)
    (λ f v. then_exact _ _ _ _ _ _ (address_exact space (lit< tt) (IsOtherLetter f) (other_letters f) (other_letter f)) (λ g u. count)))
    (λ x v. (((ends_link x.0 x.1.0 (v.0, v.1.0), v.1.1), refl), refl)) from
  where
    from : (e : Event) → IsOf verb.Mail e → (x : Address × (Address × ℕ))
        × ((IsAddress x.0 × Unit {0}) × ((IsAddress x.1.0 × IsOtherLetter x.0 (letter_of x.1.0)) × IsWithin 1 most_u32 x.1.1)) × (Mail x.0 x.1.0 x.1.1 ≡ e)
    from (Mail f g n) w = let e = link_ends f g w.0.0 in ((f, (g, n)), (e.0, (e.1, w.0.1)), refl)
    from _ w = absurd (let e = w.1 in cc)

-- nothing is read exactly behind its first word
nothing_at_exact : Exact (IsOf verb.Nothing) print_fields (fields_at verb.Nothing)
nothing_at_exact = nothing_exact Nothing (IsOf verb.Nothing) print_fields (tt, refl) refl only
  where
    only : (e : Event) → IsOf verb.Nothing e → e ≡ Nothing
    only Nothing w = refl
    only _ w = absurd (let e = w.1 in cc)

-- where a reader is opened

-- a reader of the client is opened at a place of the stream
abbrev IsOpenedAt : ℕ × List ℕ → Event → Type 0
IsOpenedAt order e = (d : Dlsn) × IsPlaceFrom 0 d × (OpenedAt order.0 order.1 d ≡ e)

-- a reader of the client is opened from an id on
abbrev IsOpenedFrom : ℕ × List ℕ → Event → Type 0
IsOpenedFrom order e = (t : ℕ) × IsTxid t × (OpenedFrom order.0 order.1 t ≡ e)

-- where a reader is opened, to the end of the line
abbrev print_start : Event → List ℕ
print_start (OpenedAt c s d) = place_field line_feed d
print_start (OpenedFrom c s t) = codes "txid " ++ number line_feed t
print_start e = []

-- the id from which a reader is opened, behind its word
abbrev print_id : Event → List ℕ
print_id (OpenedFrom c s t) = number line_feed t
print_id e = []

-- the place at which a reader is opened is read exactly
at_exact : (order : ℕ × List ℕ) → Exact (IsOpenedAt order) print_start (map_at (OpenedAt order.0 order.1) (any_place_at line_feed))
at_exact order = made_exact _ _ _ (OpenedAt order.0 order.1) (IsOpenedAt order) print_start (any_place line_feed (lit< tt))
    (λ d v. ((d, v, refl), refl)) (λ e w. w)

-- the id from which it is opened is read exactly
from_exact : (order : ℕ × List ℕ)
    → Exact (IsOpenedFrom order) print_start (behind_at (codes "txid ") (map_at (OpenedFrom order.0 order.1) (txid_at line_feed)))
from_exact order = made_exact _ _ _ (λ x. x.1) (IsOpenedFrom order) print_start
    (then_exact _ _ _ _ _ _ (one_word_exact (λ w. w) (codes "txid "))
    (λ w u. made_exact _ _ _ (OpenedFrom order.0 order.1) (IsOpenedFrom order) print_id (txid line_feed (lit< tt)) (λ t v. ((t, v, refl), refl)) (λ e w. w)))
    to (λ e w. ((codes "txid ", e), (refl, w), refl))
  where
    to : (x : List ℕ × Event) → (x.0 ≡ codes "txid ") × IsOpenedFrom order x.1 → IsOpenedFrom order x.1 × (print_start x.1 ≡ x.0 ++ print_id x.1)
    to (word, e) (is, (t, v, same)) = (
      (t, v, same),
      subst (λ (y : Event). print_start y ≡ word ++ print_id y) same (ap (λ
          (u : List ℕ). u ++ number line_feed t) (sym is)),
    )

-- no line opens a reader at a place and from an id
start_apart : (order : ℕ × List ℕ) (e : Event) (rest : List ℕ) → IsOpenedFrom order e
    → (left : ℕ) × (map_at (OpenedAt order.0 order.1) (any_place_at line_feed) (print_start e ++ rest) ≡ Err left)
start_apart order e rest (t, v, same) =
    let P : Event → Type 0 = λ y. (left : ℕ) × (map_at (OpenedAt order.0 order.1) (any_place_at line_feed) (print_start y ++ rest) ≡ Err left) in
    subst P same (_, refl)

-- where a reader is opened is read exactly
start_exact : (order : ℕ × List ℕ) → Exact (λ e. IsOpenedAt order e ⊎ IsOpenedFrom order e) print_start
    (or_at (map_at (OpenedAt order.0 order.1) (any_place_at line_feed)) (behind_at (codes "txid ") (map_at (OpenedFrom order.0 order.1) (txid_at line_feed))))
start_exact order = either_exact _ _ print_start _ _ (at_exact order) (from_exact order) (start_apart order)

-- an opened reader is read exactly behind its first word
opened_exact : Exact (IsOf verb.Opened) print_fields opened_at
opened_exact = made_exact _ _ _ (λ x. x.1) (IsOf verb.Opened) print_fields
    (then_exact _ _ _ (λ o e. IsOpenedAt o e ⊎ IsOpenedFrom o e) (λ o. print_start) _
    (then_exact _ _ _ _ _ _ (client space (lit< tt)) (λ c v. name_exact space (lit< tt))) (λ o v. start_exact o))
    to from
  where
    to : (x : (ℕ × List ℕ) × Event) → (IsClient x.0.0 × IsName x.0.1) × (IsOpenedAt x.0 x.1 ⊎ IsOpenedFrom x.0 x.1)
        → IsOf verb.Opened x.1 × (print_fields x.1 ≡ print_order x.0.0 x.0.1 space ++ print_start x.1)
    to (o, e) (v, inl (d, w, same)) =
        subst (λ (y : Event). IsOf verb.Opened y × (print_fields y ≡ print_order o.0 o.1 space ++ print_start y)) same (((v.0, (v.1, w)), refl), refl)
    to (o, e) (v, inr (t, w, same)) =
        subst (λ (y : Event). IsOf verb.Opened y × (print_fields y ≡ print_order o.0 o.1 space ++ print_start y)) same (((v.0, (v.1, w)), refl), refl)

    from : (e : Event) → IsOf verb.Opened e
        → (x : (ℕ × List ℕ) × Event) × ((IsClient x.0.0 × IsName x.0.1) × (IsOpenedAt x.0 x.1 ⊎ IsOpenedFrom x.0 x.1)) × (x.1 ≡ e)
    from (OpenedAt c s d) w = (((c, s), OpenedAt c s d), ((w.0.0, w.0.1.0), inl (d, w.0.1.1, refl)), refl)
    from (OpenedFrom c s t) w = (((c, s), OpenedFrom c s t), ((w.0.0, w.0.1.0), inr (t, w.0.1.1, refl)), refl)
    from _ w = absurd (let e = w.1 in cc)

-- lines

-- each event is read exactly behind its first word
fields_exact : (w : Verb) → Exact (IsOf w) print_fields (fields_at w)
fields_exact verb.Joined = joined_exact
fields_exact verb.Expired = expired_exact
fields_exact verb.Created = created_exact
fields_exact verb.Removed = removed_exact
fields_exact verb.Released = released_exact
fields_exact verb.Whole = whole_exact
fields_exact verb.Writer = writer_exact
fields_exact verb.Took = took_exact
fields_exact verb.Sent = sent_exact
fields_exact verb.Grow = grow_exact
fields_exact verb.Ack = ack_exact
fields_exact verb.Committed = committed_exact
fields_exact verb.Closed = closed_exact
fields_exact verb.Recovered = recovered_exact
fields_exact verb.Point = point_exact
fields_exact verb.Truncated = truncated_exact
fields_exact verb.Purged = purged_exact
fields_exact verb.Opened = opened_exact
fields_exact verb.Reading = reading_exact
fields_exact verb.End = end_exact
fields_exact verb.Rows = rows_exact
fields_exact verb.Refused = refused_exact
fields_exact verb.Mail = mail_exact
fields_exact verb.Nothing = nothing_at_exact

-- an event is read exactly
event_exact : Exact IsEvent (λ e. verb_text (verb_of e) ++ print_fields e) event_at
event_exact = made_exact _ _ _ (λ x. x.1) IsEvent (λ e. verb_text (verb_of e) ++ print_fields e)
    (then_exact _ _ _ IsOf (λ w. print_fields) fields_at verb_exact (λ w u. fields_exact w))
    (λ x v. (v.1.0, ap (λ (w : Verb). verb_text w ++ print_fields x.1) v.1.1))
    (λ e w. ((verb_of e, e), (tt, (w, refl)), refl))

-- A line is read exactly.
pub line_exact : Exact IsLine event_line line_at
unfolding line_at
line_exact = then_exact _ _ _ _ _ _ (u32 space (lit< tt)) (λ n v. event_exact)
