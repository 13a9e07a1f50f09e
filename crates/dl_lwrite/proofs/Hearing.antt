-- A writer that hears a message stands for the view with it.
use Rattle.std.proofs.Common.{◌≡◌, ℕ, ◌+◌, ◌-◌, ◌<◌, ◌≤◌, Bool, true, false, ◌&&◌, ◌||◌, ◌==◌, List, ◌∷◌, length, drop, get_or, slice_index}
use Rattle.std.proofs.Common.{Option, Some, None, cond, refl, sym, ap, ◌∙◌, subst, arith, inl, inr, ◌⊎◌, lt-ltb, ap₂, add_assoc}
use Rattle.std.proofs.lemmas.Bool.{cases_lt}
use Rattle.std.proofs.lemmas.List.{get_or-drop}
use Rattle.dl_quorum.specs.Sizes.{sizes_of}
use Rattle.dl_quorum.specs.WriteSets.{confirms}
use Rattle.dl_quorum.specs.Places.{holds}
use Rattle.dl_quorum.specs.Pieces.{Pieces, acks, ensemble_members}
use Rattle.dl_msg.specs.declared.msg.Msg.{Msg}
use Rattle.dl_rules_ledger.specs.Leading.{leading_count}
use Rattle.dl_rules_ledger.specs.Writers.{Hears, WriterView, with_call, sent_count, has_acked, has_ack_quorum}
use Rattle.dl_rules_ledger.specs.Writers.{is_add_ok, is_add_fenced, or_else, confirmed_count}
use Rattle.dl_rules_ledger.proofs.LeadingLemmas.{leading_count-is, leading_count-le, leading_count-below, leading_count-stops}
use Rattle.dl_rules_ledger.proofs.WriterLaws.{acks-more, confirmed_is_greatest}
use Rattle.dl_lwrite.specs.Answering.{Gains}
use Rattle.dl_lwrite.specs.Facts.{WriterFacts}
use Rattle.dl_lwrite.specs.Standing.{StandsFor}
use Rattle.dl_lwrite.proofs.AckLemmas.{acks_at_places}

-- what holds beside a test that passes is the whole
and_with : (s t : Bool) → t ≡ true → (s && t) ≡ s
and_with true t h = h
and_with false t h = refl

-- whether a message of a bookie acknowledges the entry at an index of the window for a place
abbrev pub answers_at : WriterFacts → ℕ → Msg → ℕ → ℕ → Bool
answers_at w bookie msg i place = bookie == slice_index (ensemble_members w.ensemble) place && is_add_ok w.ledger (w.confirmed + i) msg

module _ (v : WriterView) (w : WriterFacts) (stands : StandsFor v w) (long : w.confirmed + length w.answers ≡ w.sent)
    (bookie : ℕ) (msg : Msg) (answers : List ℕ) (gained : Gains w.q.e (answers_at w bookie msg) w.answers answers) where
  -- the view with the message
  abbrev after : WriterView
  after = with_call v (Hears bookie msg)

  -- who has acknowledged the entry at an index of the window, with the message
  abbrev has_answered : ℕ → ℕ → Bool
  has_answered i = has_acked v.ledger (Hears bookie msg ∷ v.calls) (w.confirmed + i)

  -- what is kept for an entry of the window is what the view says of it
  kept_is : (i place : ℕ) → i < length w.answers → place < w.q.e
      → holds (get_or answers i 0) place ≡ has_answered i (slice_index (ensemble_members w.ensemble) place)
  kept_is i place within few =
      gained.places i place within few
      ∙ ap (λ l. (bookie == slice_index (ensemble_members w.ensemble) place && is_add_ok l (w.confirmed + i) msg) || holds (get_or w.answers i 0) place)
      stands.ledger
      ∙ ap₂ (λ s t. s || t) (sym (and_with _ _ (lt-ltb (w.confirmed + i) (sent_count v.calls) (omega (arith, stands.sent)))))
      (stands.answers i place (omega arith) few)

  -- whether the set of places at an index of the window has an ack quorum
  abbrev passes : ℕ → Bool
  passes i = confirms (sizes_of w.q) (w.confirmed + i) (holds (get_or answers i 0))

  -- an entry of the window has an ack quorum exactly where its set of places has
  passes_is : (i : ℕ) → i < length w.answers → has_ack_quorum after (w.confirmed + i) ≡ passes i
  passes_is i within =
      ap (λ (p : Pieces). acks p (w.confirmed + i) (has_answered i)) (sym stands.pieces)
      ∙ acks_at_places (sizes_of w.q) w.ensemble (w.confirmed + i) (has_answered i) (holds (get_or answers i 0)) w.q.rule
      (λ place few. kept_is i place within few)

  module _ (passed : ℕ) (is : passed ≡ leading_count (λ i. confirms (sizes_of w.q) (w.confirmed + i) (holds (get_or answers i 0))) (length w.answers)) where
    -- no more are taken off than there are
    few_passed : passed ≤ length w.answers
    few_passed = subst (λ n. n ≤ length w.answers) (sym is) (leading_count-le passes (length w.answers))

    -- what was confirmed stays so, and what is taken off has an ack quorum
    below_is : (e : ℕ) → (e < w.confirmed) ⊎ (w.confirmed ≤ e) → e < w.confirmed + passed → has_ack_quorum after e ≡ true
    below_is e (inl h) below = acks-more v (Hears bookie msg) e ((confirmed_is_greatest v).below e (omega (arith, h, stands.confirmed)))
    below_is e (inr h) below =
        let k : w.confirmed + (e - w.confirmed) ≡ e = omega arith in
        let i : e - w.confirmed < passed = omega arith in
        subst (λ n. has_ack_quorum after n ≡ true) k
        (passes_is (e - w.confirmed) (omega (arith, few_passed))
        ∙ leading_count-below passes (length w.answers) (e - w.confirmed) (subst (λ n. e - w.confirmed < n) is i))

    -- the first entry that stays has none
    at_end : w.confirmed + passed < sent_count v.calls → has_ack_quorum after (w.confirmed + passed) ≡ false
    at_end within =
        let inside : passed < length w.answers = omega (arith, within, stands.sent, long) in
        passes_is passed inside ∙ ap passes is ∙ leading_count-stops passes (length w.answers) (subst (λ n. n < length w.answers) is inside)

    -- so many are confirmed
    pub confirmed_is : w.confirmed + passed ≡ confirmed_count after
    unfolding confirmed_count
    confirmed_is =
        sym (leading_count-is (has_ack_quorum after) (sent_count v.calls) (w.confirmed + passed) (omega (arith, stands.sent, long, few_passed))
        (λ e below. below_is e (cases_lt e w.confirmed) below) at_end)

    -- what the writer keeps then
    abbrev facts_after : Option ℕ → WriterFacts
    facts_after fenced = record w { confirmed = w.confirmed + passed; answers = drop passed answers; fenced = fenced }

    -- the writer stands for the view with the message
    pub stands_after : (fenced : Option ℕ) → fenced ≡ or_else w.fenced (cond (is_add_fenced w.ledger msg) (Some bookie) None)
        → StandsFor after (facts_after fenced)
    stands_after fenced told = record {
      ledger = stands.ledger;
      pieces = stands.pieces;
      sent = stands.sent;
      confirmed = confirmed_is;
      fenced = told ∙ ap₂ (λ (o : Option ℕ) (l : ℕ). or_else o (cond (is_add_fenced l msg) (Some bookie) None)) stands.fenced stands.ledger;
      answers = λ i place within inside.
          ap (λ n. holds n place) (get_or-drop passed answers i 0) ∙ kept_is (passed + i) place (omega (arith, gained.size, long)) inside
          ∙ ap (λ n. has_acked v.ledger (Hears bookie msg ∷ v.calls) n (slice_index (ensemble_members w.ensemble) place))
          (sym (add_assoc w.confirmed passed i));
    }
