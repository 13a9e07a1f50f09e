-- Recoveries and writers of ledgers promise nothing but what they heard promised.
use Rattle.std.proofs.Common.{◌≡◌, ℕ, ◌+◌, ◌<◌, ◌≤◌, max, Bool, true, false, cond, ◌&&◌, ◌==◌, List, [], ◌∷◌, map, Option, Some, None, refl, sym}
use Rattle.std.proofs.Common.{subst, subst₂, arith, inl, inr, ◌⊎◌}
use Rattle.std.specs.Prelude.{nat_le, nat_lt, IfSome}
use Rattle.std.specs.List.{AllByRecursion}
use Rattle.std.proofs.lemmas.Bool.{true≢false, eqb-true, and_parts, or_cases, cases_lt, cases_eq, cond_both}
use Rattle.std.proofs.lemmas.Option.{same_Some, none-some}
use Rattle.dl_quorum.specs.Pieces.{members, last_piece, acks, blocks, covers}
use Rattle.dl_msg.specs.declared.msg.Msg.{Msg}
use Rattle.dl_msg.specs.declared.msg.Msg.TheVariants as msg
use Rattle.dl_rules_ledger.specs.Subjects.{Subject, among, has_answered, greatest_count, known_count, tell_each, is_in_last_piece, is_in_write_set, is_about}
use Rattle.dl_rules_ledger.specs.Subjects.{is_about_entry}
use Rattle.dl_rules_ledger.specs.Recoveries.{Phase, Fencing, Reading, Copying, Ended, Exhausted, greatest_entry, reads, after_answer, after_denial}
use Rattle.dl_rules_ledger.specs.Recoveries.{after_entry, after_copy, recovers}
use Rattle.dl_rules_ledger.specs.Writers.{Sends, Hears, WriterView, with_call, sent_count, is_add_ok, is_add_fenced, has_acked, or_else, first_fence}
use Rattle.dl_rules_ledger.specs.Writers.{confirmed_count, closing_count, add_to, add_letters}
use Rattle.dl_rules_ledger.proofs.WriterLaws.{confirmed_is_greatest}
use Rattle.dl_law_nodes.specs.Disks.{Nodes, stores, holds, fences, denies}
use Rattle.dl_law_nodes.specs.Promises.{Shapes, Stored, Held, Sealed, LastPiecesFollow, AskHolds, AnswerHolds, ToldHold, FoundUpTo, PhaseHolds, WriterHolds}
use Rattle.dl_law_nodes.specs.Laws.{MoveHolds, AllRecoveriesHold, AllWritersHold}
use Rattle.dl_law_nodes.proofs.Placement.{acks_more, blocks_more, covers_more}
use Rattle.dl_law_nodes.proofs.Survival.{AnswerKept}
use Rattle.dl_law_nodes.proofs.Meetings.{stored_is_replicated}

module _ (shape : Shapes) (k : Nodes) where
  -- ---- counts

  -- no entry is below zero
  pub stored_none : (l : ℕ) → Stored shape k l 0
  stored_none l = record { each = λ e below. absurd (omega arith) }

  -- the greater of two counts
  pub stored_max : (l m n : ℕ) → Stored shape k l m → Stored shape k l n → Stored shape k l (max m n)
  stored_max l m n a b = record { each = λ e below. pick e below (cases_lt e m) }
    where
      pick : (e : ℕ) → e < max m n → (e < m) ⊎ (m ≤ e) → acks (shape l) e (stores k l e) ≡ true
      pick e below (inl h) = a.each e h
      pick e below (inr h) = b.each e (omega arith)

  -- the greatest count that was told
  stored_greatest : (l : ℕ) (answers : List (ℕ × ℕ)) → AllByRecursion (AnswerKept shape k l) answers → Stored shape k l (greatest_count answers)
  stored_greatest l [] h = stored_none l
  stored_greatest l (x ∷ xs) h = stored_max l x.1 (greatest_count xs) h.0.1 (stored_greatest l xs h.1)

  -- what is held, and one entry more
  held_more : (l n : ℕ) → Held shape k l n → acks (shape l) n (holds k l n) ≡ true → Held shape k l (n + 1)
  held_more l n h a = record { each = λ e below. pick e below (cases_eq e n) }
    where
      pick : (e : ℕ) → e < n + 1 → (e ≡ n) ⊎ (e ≡ n → ⊥) → acks (shape l) e (holds k l e) ≡ true
      pick e below (inl same) = subst (λ x. acks (shape l) x (holds k l x) ≡ true) (sym same) a
      pick e below (inr other) = h.each e (omega (arith, other))

  -- ---- recoveries

  -- what is told each of these bookies
  pub told_each : (bookies : List ℕ) (m : Msg) → AskHolds shape k m → ToldHold shape k (tell_each bookies m)
  told_each [] m h = tt
  told_each (b ∷ bookies) m h = (h, told_each bookies m h)

  -- what holds of each of these bookies holds of one among them
  among_each : (P : ℕ → Type 0) (xs : List ℕ) → AllByRecursion P xs → (b : ℕ) → among xs b ≡ true → P b
  among_each P [] h b a = absurd (true≢false (sym a))
  among_each P (x ∷ xs) h b a = go (or_cases (x == b) (among xs b) a) (among_each P xs h.1 b)
    where
      go : ((x == b) ≡ true) ⊎ (among xs b ≡ true) → (among xs b ≡ true → P b) → P b
      go (inl s) rest = subst P (eqb-true x b s) h.0
      go (inr s) rest = rest s

  -- who answered has a fence
  answered_fenced : (l : ℕ) (answers : List (ℕ × ℕ)) → AllByRecursion (AnswerKept shape k l) answers → (b : ℕ) → has_answered answers b ≡ true
      → fences k l b ≡ true
  answered_fenced l [] h b a = absurd (true≢false (sym a))
  answered_fenced l (x ∷ xs) h b a = go (or_cases (x.0 == b) (has_answered xs b) a) (answered_fenced l xs h.1 b)
    where
      go : ((x.0 == b) ≡ true) ⊎ (has_answered xs b ≡ true) → (has_answered xs b ≡ true → fences k l b ≡ true) → fences k l b ≡ true
      go (inl s) rest = subst (λ c. fences k l c ≡ true) (eqb-true x.0 b s) h.0.0
      go (inr s) rest = rest s

  module _ (x : Subject) where
    -- an entry is asked for
    reads_hold : (start entry : ℕ) → FoundUpTo shape k x.ledger start entry → MoveHolds shape k x.ledger (reads x start entry)
    reads_hold start entry h =
        cond_both (nat_le entry greatest_entry) _ (Exhausted, []) (MoveHolds shape k x.ledger)
        (λ _. record { phase = (h, tt); told = told_each (members x.pieces entry) (msg.AskEntry x.tag x.ledger entry) tt })
        (λ _. record { phase = tt; told = tt })

    -- an entry that is found is copied
    entry_holds : (start entry : ℕ) (bytes : List ℕ) → FoundUpTo shape k x.ledger start entry
        → MoveHolds shape k x.ledger (after_entry x start entry bytes)
    entry_holds start entry bytes h = record {
      phase = (h, tt);
      told = told_each (members x.pieces entry) (msg.Copy x.tag x.ledger entry start bytes) h.start;
    }

    -- the ledger and the entry that an answer is about
    about_ledger : (b tag l : ℕ) → is_about x b tag l ≡ true → l ≡ x.ledger
    about_ledger b tag l w =
        let first = (and_parts (tag == x.tag && l == x.ledger) (is_in_last_piece x b) w).0 in
        eqb-true l x.ledger (and_parts (tag == x.tag) (l == x.ledger) first).1

    about_entry : (entry b tag l e : ℕ) → is_about_entry x entry b tag l e ≡ true → (l ≡ x.ledger) × (e ≡ entry)
    about_entry entry b tag l e w =
        let first = (and_parts (tag == x.tag && l == x.ledger && e == entry) (is_in_write_set x entry b) w).0 in
        let parts = and_parts (tag == x.tag && l == x.ledger) (e == entry) first in
        (eqb-true l x.ledger (and_parts (tag == x.tag) (l == x.ledger) parts.0).1, eqb-true e entry parts.1)

    module _ (own : x.pieces ≡ shape x.ledger) (follow : LastPiecesFollow shape k) where
      -- the start of a recovery, once those that answered cover
      start_found : (answers : List (ℕ × ℕ)) → AllByRecursion (AnswerKept shape k x.ledger) answers → covers x.pieces (has_answered answers) ≡ true
          → FoundUpTo shape k x.ledger (known_count x answers) (known_count x answers)
      start_found answers h c = record {
        fenced = covers_more (shape x.ledger) (has_answered answers) (fences k x.ledger) (answered_fenced x.ledger answers h)
            (subst (λ w. covers w (has_answered answers) ≡ true) own c);
        start = start;
        found = (stored_is_replicated shape k x.ledger (known_count x answers) start).held;
      }
        where
          start : Stored shape k x.ledger (known_count x answers)
          start =
              stored_max x.ledger (last_piece x.pieces).from (greatest_count answers)
              (subst (λ w. Stored shape k x.ledger (last_piece w).from) (sym own) (follow x.ledger))
              (stored_greatest x.ledger answers h)

      -- an answer that was fenced
      answer_holds : (answers : List (ℕ × ℕ)) → AllByRecursion (AnswerKept shape k x.ledger) answers
          → MoveHolds shape k x.ledger (after_answer x answers)
      answer_holds answers h =
          cond_both (covers x.pieces (has_answered answers)) (reads x (known_count x answers) (known_count x answers)) (Fencing answers, [])
          (MoveHolds shape k x.ledger)
          (λ c. reads_hold (known_count x answers) (known_count x answers) (start_found answers h c))
          (λ _. record { phase = h; told = tt })

      -- a denial
      denial_holds : (start entry : ℕ) (denials : List ℕ) → FoundUpTo shape k x.ledger start entry
          → AllByRecursion (λ b. denies k x.ledger entry b ≡ true) denials → MoveHolds shape k x.ledger (after_denial x start entry denials)
      denial_holds start entry denials f h =
          cond_both (blocks x.pieces entry (among denials)) (Ended entry, []) (Reading start entry denials, []) (MoveHolds shape k x.ledger)
          (λ w. record { phase = record { fenced = f.fenced; found = f.found; sealed = sealed w }; told = tt })
          (λ _. record { phase = (f, h); told = tt })
        where
          sealed : blocks x.pieces entry (among denials) ≡ true → Sealed shape k x.ledger entry
          sealed w = record {
            blocked =
                blocks_more (shape x.ledger) entry (among denials) (denies k x.ledger entry)
                (among_each (λ b. denies k x.ledger entry b ≡ true) denials h)
                (subst (λ p. blocks p entry (among denials) ≡ true) own w);
          }

      -- a copy that is stored
      copy_holds : (start entry : ℕ) (copied : List ℕ) → FoundUpTo shape k x.ledger start entry
          → AllByRecursion (λ b. holds k x.ledger entry b ≡ true) copied → MoveHolds shape k x.ledger (after_copy x start entry copied)
      copy_holds start entry copied f h =
          cond_both (acks x.pieces entry (among copied)) (reads x start (entry + 1)) (Copying start entry copied, []) (MoveHolds shape k x.ledger)
          (λ w. reads_hold start (entry + 1) (record { fenced = f.fenced; start = f.start; found = found w }))
          (λ _. record { phase = (f, h); told = tt })
        where
          found : acks x.pieces entry (among copied) ≡ true → Held shape k x.ledger (entry + 1)
          found w =
              held_more x.ledger entry f.found
              (acks_more (shape x.ledger) entry (among copied) (holds k x.ledger entry)
              (among_each (λ b. holds k x.ledger entry b ≡ true) copied h)
              (subst (λ p. acks p entry (among copied) ≡ true) own w))

      -- a message of a bookie
      recovers_hold : (p : Phase) (b : ℕ) (m : Msg) → PhaseHolds shape k x.ledger p → AnswerHolds shape k b m
          → MoveHolds shape k x.ledger (recovers x p b m)
      unfolding recovers
      recovers_hold (Fencing answers) b (msg.LacIs t l true n) h a =
          cond_both (is_about x b t l) (after_answer x ((b, n) ∷ answers)) (Fencing answers, []) (MoveHolds shape k x.ledger)
          (λ w. answer_holds ((b, n) ∷ answers) (subst (λ i. AnswerKept shape k i (b, n)) (about_ledger b t l w) a, h))
          (λ _. record { phase = h; told = tt })
      recovers_hold (Reading start entry denials) b (msg.NoEntry t l e true) h a =
          cond_both (is_about_entry x entry b t l e) (after_denial x start entry (b ∷ denials)) (Reading start entry denials, [])
          (MoveHolds shape k x.ledger)
          (λ w. let same = about_entry entry b t l e w in
          denial_holds start entry (b ∷ denials) h.0 (subst₂ (λ i j. denies k i j b ≡ true) same.0 same.1 a, h.1))
          (λ _. record { phase = h; told = tt })
      recovers_hold (Reading start entry denials) b (msg.EntryIs t l e bytes) h a =
          cond_both (is_about_entry x entry b t l e) (after_entry x start entry bytes) (Reading start entry denials, []) (MoveHolds shape k x.ledger)
          (λ _. entry_holds start entry bytes h.0)
          (λ _. record { phase = h; told = tt })
      recovers_hold (Copying start entry copied) b (msg.CopyOk t l e) h a =
          cond_both (is_about_entry x entry b t l e) (after_copy x start entry (b ∷ copied)) (Copying start entry copied, [])
          (MoveHolds shape k x.ledger)
          (λ w. let same = about_entry entry b t l e w in
          copy_holds start entry (b ∷ copied) h.0 (subst₂ (λ i j. holds k i j b ≡ true) same.0 same.1 a, h.1))
          (λ _. record { phase = h; told = tt })
      recovers_hold p b m h a = record { phase = h; told = tt }

  -- ---- writers

  -- what a bookie acknowledges it stores
  ok_stored : (l e b : ℕ) (m : Msg) → AnswerHolds shape k b m → is_add_ok l e m ≡ true → stores k l e b ≡ true
  ok_stored l e b (msg.AddOk i j) a w =
      let p = and_parts (i == l) (j == e) w in subst₂ (λ x y. stores k x y b ≡ true) (eqb-true i l p.0) (eqb-true j e p.1) a
  ok_stored l e b _ a w = absurd (true≢false (sym w))

  -- who says that a ledger is fenced has its fence
  fenced_there : (l b : ℕ) (m : Msg) → AnswerHolds shape k b m → is_add_fenced l m ≡ true → fences k l b ≡ true
  fenced_there l b (msg.AddFenced i j) a w = subst (λ x. fences k x b ≡ true) (eqb-true i l w) a
  fenced_there l b _ a w = absurd (true≢false (sym w))

  -- the first fence, with one message more
  first_fence_more : (P : ℕ → Type 0) (o : Option ℕ) (t : Bool) (b c : ℕ) → ((d : ℕ) → o ≡ Some d → P d) → (t ≡ true → P b)
      → or_else o (cond t (Some b) None) ≡ Some c → P c
  first_fence_more P (Some d) t b c old new e = old c e
  first_fence_more P None true b c old new e = subst P (same_Some b c e) (new refl)
  first_fence_more P None false b c old new e = absurd (none-some c e)

  -- a writer hears a message
  writer_hears : (v : WriterView) (b : ℕ) (m : Msg) → WriterHolds k v → AnswerHolds shape k b m → WriterHolds k (with_call v (Hears b m))
  writer_hears v b m h a = record {
    acked = λ e c w. go e c (or_cases _ (has_acked v.ledger v.calls e c) w);
    fenced = λ c w.
        first_fence_more (λ d. fences k v.ledger d ≡ true) (first_fence v.ledger v.calls) (is_add_fenced v.ledger m) b c h.fenced
        (fenced_there v.ledger b m a) w;
  }
    where
      go : (e c : ℕ) → ((b == c && is_add_ok v.ledger e m && nat_lt e (sent_count v.calls)) ≡ true) ⊎ (has_acked v.ledger v.calls e c ≡ true)
          → stores k v.ledger e c ≡ true
      go e c (inl s) =
          let first = (and_parts (b == c && is_add_ok v.ledger e m) (nat_lt e (sent_count v.calls)) s).0 in
          let parts = and_parts (b == c) (is_add_ok v.ledger e m) first in
          subst (λ j. stores k v.ledger e j ≡ true) (eqb-true b c parts.0) (ok_stored v.ledger e b m a parts.1)
      go e c (inr s) = h.acked e c s

  -- a writer sends an entry
  writer_sends : (v : WriterView) (bytes : List ℕ) → WriterHolds k v → WriterHolds k (with_call v (Sends bytes))
  writer_sends v bytes h = record { acked = λ e b w. h.acked e b w; fenced = λ b w. h.fenced b w }

  -- what a writer has confirmed is stored
  pub confirmed_stored : (v : WriterView) → v.pieces ≡ shape v.ledger → WriterHolds k v → Stored shape k v.ledger (confirmed_count v)
  confirmed_stored v own h = record {
    each = λ e below.
        acks_more (shape v.ledger) e (has_acked v.ledger v.calls e) (stores k v.ledger e) (h.acked e)
        (subst (λ w. acks w e (has_acked v.ledger v.calls e) ≡ true) own ((confirmed_is_greatest v).below e below));
  }

  -- the messages by which an entry is sent
  adds_hold : (l e n : ℕ) (bytes bookies : List ℕ) → Stored shape k l n → ToldHold shape k (map (add_to l e n bytes) bookies)
  adds_hold l e n bytes [] h = tt
  adds_hold l e n bytes (b ∷ bookies) h = (h, adds_hold l e n bytes bookies h)

  -- all that a writer tells
  writer_tells : (v : WriterView) (bytes : List ℕ) → v.pieces ≡ shape v.ledger → WriterHolds k v → ToldHold shape k (add_letters v bytes)
  unfolding add_letters
  writer_tells v bytes own h =
      adds_hold v.ledger (sent_count v.calls) (confirmed_count v) bytes (members v.pieces (sent_count v.calls)) (confirmed_stored v own h)

  -- the count at which a writer closes
  closing_stored : (v : WriterView) → v.pieces ≡ shape v.ledger → WriterHolds k v → IfSome (closing_count v) (Stored shape k v.ledger)
  closing_stored v own h =
      cond_both (confirmed_count v == sent_count v.calls) (Some (sent_count v.calls)) None (λ (o : Option ℕ). IfSome o (Stored shape k v.ledger))
      (λ w. subst (Stored shape k v.ledger) (eqb-true (confirmed_count v) (sent_count v.calls) w) (confirmed_stored v own h))
      (λ _. tt)

-- recoveries hold
pub all_recoveries_hold : AllRecoveriesHold
all_recoveries_hold shape k x = record {
  begun = record { phase = tt; told = told_each shape k (last_piece x.pieces).members (msg.AskLac x.tag x.ledger true) tt };
  heard = λ own follow p b m h a. recovers_hold shape k x own follow p b m h a;
}

-- writers hold
pub all_writers_hold : AllWritersHold
all_writers_hold = record {
  begun = λ k l w. record { acked = λ e b a. absurd (true≢false (sym a)); fenced = λ b a. absurd (none-some b a) };
  each = λ shape k v. record {
    heard = writer_hears shape k v;
    sent = writer_sends shape k v;
    told = writer_tells shape k v;
    confirmed = confirmed_stored shape k v;
    closing = closing_stored shape k v;
  };
}
