-- A segment stays on its ledger, and is started once, where those who start segments and complete them have read what they suppose.
use Rattle.std.proofs.Common.{◌≡◌, ℕ, ◌+◌, ◌≤◌, Bool, true, false, cond, nat_lt, List, [], ◌∷◌, Option, Some, None, is_some, refl, sym, ap, ◌∙◌, subst}
use Rattle.std.proofs.Common.{arith, inl, inr, ◌⊎◌}
use Rattle.std.proofs.lemmas.Bool.{cond-false, cases_eq, ltb-true, ltb-false}
use Rattle.std.proofs.lemmas.Option.{same_Some, none-some}
use Rattle.dl_fields.specs.Digits.{HasTenDigits}
use Rattle.dl_formats.specs.declared.segment.SegmentMeta.TheVariants as meta
use Rattle.dl_formats.specs.Children.{IsSegmentNumber}
use Rattle.dl_formats.specs.Keys.{MaxSeq, Progress, Completed, NoSlash}
use Rattle.dl_formats.specs.NodeBytes.{segment_bytes}
use Rattle.dl_formats.specs.Reading.{segment_at}
use Rattle.dl_tree.specs.declared.node.Node.{Node}
use Rattle.dl_tree.specs.Laws.{set_node}
use Rattle.dl_tree.specs.Trees.{Nodes}
use Rattle.dl_rules_nodes.specs.Items.{MetaItem}
use Rattle.dl_rules_stream.specs.Requests.{StartSegment, CompleteSegment, Completion, Beginning, maxseq_node, completed_node}
use Rattle.dl_law_meta.specs.Keyed.{node, lasting}
use Rattle.dl_law_meta.specs.Effects.{IsBeginning, IsCompletion, SegmentStarted, SegmentCompleted}
use Rattle.dl_law_meta.specs.Histories.{tree_of, node_after, segment_in, is_new, ledger_named, starter, Supposes, AreSupposed}
use Rattle.dl_law_meta.specs.Laws.{WasSet, SegmentsStayOnLedgers, StartersStay}
use Rattle.dl_law_meta.proofs.Steps.{kept, older_are, any_are}
use Rattle.dl_law_meta.proofs.Stays.{not_set, new_some}
use Rattle.dl_law_meta.proofs.Happens.{named_by, progress_read, same_ledger, same_read, Happens, nothing, makes, starts, completes}
use Rattle.dl_law_meta.proofs.Listed.{SegmentsMove, NamesMost, Listed, progress_same, completed_old, start_progress, start_completed, complete_progress}
use Rattle.dl_law_meta.proofs.Listed.{complete_completed, listed, item_segments, item_happens}

-- ---- a segment on its ledger

-- the bytes of a node say that a segment is completed on this ledger
abbrev CompletedOn : ℕ → ℕ → List ℕ → Type 0
CompletedOn segment ledger bytes = (entries : ℕ) × (rows : ℕ) × (last : ℕ) × (bytes ≡ segment_bytes (meta.Completed segment ledger entries rows last))

-- a segment that was started: `maxseq` names it or a later one
record Reached (t : Nodes) (s : List ℕ) (segment : ℕ) : Type 0 where
  maxseq : Node
  there : node t (MaxSeq s) ≡ Some maxseq
  most : ℕ
  named : segment_in maxseq.bytes ≡ Some most
  within : segment ≤ most

-- and its nodes name its ledger
record OnLedger (t : Nodes) (s : List ℕ) (segment ledger : ℕ) : Type 0 where
  reached : Reached t s segment
  progress : (n : Node) → node t (Progress s segment) ≡ Some n → n.bytes ≡ segment_bytes (meta.InProgress segment ledger)
  completed : (n : Node) → node t (Completed s segment) ≡ Some n → CompletedOn segment ledger n.bytes

-- a segment that `maxseq` has reached is so, where `maxseq` stays
reached_same : (t u : Nodes) (s : List ℕ) (segment : ℕ) → node u (MaxSeq s) ≡ node t (MaxSeq s) → Reached t s segment → Reached u s segment
reached_same t u s segment same h = record { maxseq = h.maxseq; there = same ∙ h.there; most = h.most; named = h.named; within = h.within }

-- a segment is on its ledger, where `maxseq` stays
on_same : (t u : Nodes) (s : List ℕ) (segment ledger : ℕ) → HasTenDigits segment → SegmentsMove t u s → node u (MaxSeq s) ≡ node t (MaxSeq s)
    → OnLedger t s segment ledger → OnLedger u s segment ledger
on_same t u s segment ledger ten m same h = record {
  reached = reached_same t u s segment same h.reached;
  progress = λ n e. h.progress n (sym (progress_same t u s m never segment ten) ∙ e);
  completed = λ n e. h.completed n (completed_old t u s m never segment ten n e);
}
  where
    never : WasSet t u (MaxSeq s) → ⊥
    never = not_set t u (MaxSeq s) same

-- a segment that is started comes behind one that was
start_behind : (t u : Nodes) (b : Beginning) (p : Supposes t (StartSegment b)) (x : SegmentStarted t u b) (segment : ℕ) → Reached t b.stream segment
    → segment + 1 ≤ b.segment
start_behind t u b p x segment h =
    let read = p x.maxseq.old x.maxseq.was x.maxseq.fitting in
    let same : h.maxseq ≡ x.maxseq.old = same_Some h.maxseq x.maxseq.old (sym h.there ∙ x.maxseq.was) in
    let here : h.most ≡ read.0 = same_Some h.most read.0 (sym h.named ∙ ap (λ (n : Node). segment_in n.bytes) same ∙ read.1) in
    omega (arith, here, read.2, h.within)

-- a segment that was reached is so behind the start of one
reached_start : (t u : Nodes) (b : Beginning) (form : IsBeginning b) (p : Supposes t (StartSegment b)) (x : SegmentStarted t u b) (segment : ℕ)
    → Reached t b.stream segment → Reached u b.stream segment
reached_start t u b form p x segment h = record {
  maxseq = set_node (maxseq_node b.segment b.last) x.maxseq.old;
  there = x.maxseq.now;
  most = b.segment;
  named = named_by b.segment b.last form.most;
  within = omega (arith, start_behind t u b p x segment h);
}

-- a segment is on its ledger behind the start of one
on_start : (t u : Nodes) (b : Beginning) (form : IsBeginning b) (p : Supposes t (StartSegment b)) (x : SegmentStarted t u b) (segment ledger : ℕ)
    → HasTenDigits segment → OnLedger t b.stream segment ledger → OnLedger u b.stream segment ledger
on_start t u b form p x segment ledger ten h = record {
  reached = reached_start t u b form p x segment h.reached;
  progress = λ n e. h.progress n (sym (start_progress t u b form p x segment ten other) ∙ e);
  completed = λ n e. h.completed n (sym (start_completed t u b form p x segment ten) ∙ e);
}
  where
    other : segment ≡ b.segment → ⊥
    other e = absurd (omega (arith, e, start_behind t u b p x segment h.reached))

-- a segment that was reached is so behind a completion
reached_complete : (t u : Nodes) (c : Completion) (form : IsCompletion c) (p : Supposes t (CompleteSegment c)) (x : SegmentCompleted t u c) (segment : ℕ)
    → Reached t c.stream segment → Reached u c.stream segment
reached_complete t u c form p x segment h = record {
  maxseq = set_node (maxseq_node c.greatest c.last) x.maxseq.old;
  there = x.maxseq.now;
  most = c.greatest;
  named = named_by c.greatest c.last form.most;
  within = within;
}
  where
    within : segment ≤ c.greatest
    within =
        let same : h.maxseq ≡ x.maxseq.old = same_Some h.maxseq x.maxseq.old (sym h.there ∙ x.maxseq.was) in
        let here : h.most ≡ c.greatest = same_Some h.most c.greatest
        (sym h.named ∙ ap (λ (n : Node). segment_in n.bytes) same ∙ p.0 x.maxseq.old x.maxseq.was x.maxseq.fitting) in
        omega (arith, here, h.within)

-- a segment is on its ledger behind a completion
on_complete : (t u : Nodes) (c : Completion) (form : IsCompletion c) (p : Supposes t (CompleteSegment c)) (x : SegmentCompleted t u c) (segment ledger : ℕ)
    → IsSegmentNumber segment → HasTenDigits ledger
    → OnLedger t c.stream segment ledger → OnLedger u c.stream segment ledger
on_complete t u c form p x segment ledger number ten h = record {
  reached = reached_complete t u c form p x segment h.reached;
  progress = λ n e. progress_by n e (cases_eq segment c.segment);
  completed = λ n e. completed_by n e (cases_eq segment c.segment);
}
  where
    progress_by : (n : Node) → node u (Progress c.stream segment) ≡ Some n → (segment ≡ c.segment) ⊎ (segment ≡ c.segment → ⊥)
        → n.bytes ≡ segment_bytes (meta.InProgress segment ledger)
    progress_by n e (inl w) = absurd (none-some n (sym x.progress.now ∙ ap (λ (y : ℕ). node u (Progress c.stream y)) (sym w) ∙ e))
    progress_by n e (inr other) = h.progress n (sym (complete_progress t u c form p x segment number.1 other) ∙ e)

    -- the node in progress named the ledger that the request names
    ledger_is : segment ≡ c.segment → ledger ≡ c.ledger
    ledger_is w = same_ledger segment ledger c.segment c.ledger (same_read _ _ x.progress.old.bytes
        (ap segment_at (h.progress x.progress.old (ap (λ (y : ℕ). node t (Progress c.stream y)) w ∙ x.progress.was)) ∙ progress_read segment ledger number ten)
        (p.1 x.progress.old x.progress.was x.progress.fitting))

    completed_is : segment ≡ c.segment → CompletedOn segment ledger (completed_node c)
    completed_is w = (
      c.entries,
      c.rows,
      c.last,
      ap (λ (k : ℕ). segment_bytes (meta.Completed k c.ledger c.entries c.rows c.last)) (sym w)
          ∙ ap (λ (l : ℕ). segment_bytes (meta.Completed segment l c.entries c.rows c.last)) (sym (ledger_is w)),
    )

    completed_by : (n : Node) → node u (Completed c.stream segment) ≡ Some n → (segment ≡ c.segment) ⊎ (segment ≡ c.segment → ⊥)
        → CompletedOn segment ledger n.bytes
    completed_by n e (inl w) =
        subst (λ (y : Node). CompletedOn segment ledger y.bytes)
        (same_Some (lasting (completed_node c)) n (sym x.completed.now ∙ ap (λ (y : ℕ). node u (Completed c.stream y)) (sym w) ∙ e)) (completed_is w)
    completed_by n e (inr other) = h.completed n (sym (complete_completed t u c form p x segment number.1 other) ∙ e)

-- a segment is on its ledger behind each change
on_step : (t u : Nodes) (s : List ℕ) (segment ledger : ℕ) → IsSegmentNumber segment → HasTenDigits ledger → SegmentsMove t u s → Happens t u s
    → OnLedger t s segment ledger → OnLedger u s segment ledger
on_step t u s segment ledger number ten m (nothing same) h = on_same t u s segment ledger number.1 m same h
on_step t u s segment ledger number ten m (makes free now) h = absurd (none-some h.reached.maxseq (sym free ∙ h.reached.there))
on_step t u s segment ledger number ten m (starts b is form p x) h =
    subst (λ (z : List ℕ). OnLedger u z segment ledger) is
    (on_start t u b form p x segment ledger number.1 (subst (λ (z : List ℕ). OnLedger t z segment ledger) (sym is) h))
on_step t u s segment ledger number ten m (completes c is form p x) h =
    subst (λ (z : List ℕ). OnLedger u z segment ledger) is
    (on_complete t u c form p x segment ledger number ten (subst (λ (z : List ℕ). OnLedger t z segment ledger) (sym is) h))

-- a segment in progress was started
reached_first : (t : Nodes) (s : List ℕ) (segment : ℕ) (n : Node) → HasTenDigits segment → Listed t s → node t (Progress s segment) ≡ Some n
    → Reached t s segment
reached_first t s segment n ten h e = go (node t (MaxSeq s)) refl
  where
    within : (m : Node) (x : NamesMost t s m.bytes) → segment ≤ x.most
    within m x = by (nat_lt x.most segment) refl
      where
        by : (b : Bool) → nat_lt x.most segment ≡ b → segment ≤ x.most
        by true w = absurd (none-some n (sym (x.above segment ten (ltb-true x.most segment w)).progress ∙ e))
        by false w = ltb-false x.most segment w

    at : (m : Node) → node t (MaxSeq s) ≡ Some m → NamesMost t s m.bytes → Reached t s segment
    at m k x = record { maxseq = m; there = k; most = x.most; named = x.named; within = within m x }

    go : (o : Option Node) → node t (MaxSeq s) ≡ o → Reached t s segment
    go None k = absurd (none-some n (sym (h.none k segment ten).progress ∙ e))
    go (Some m) k = at m k (h.some m k)

-- a segment in progress is on the ledger that its node names
on_first : (t : Nodes) (s : List ℕ) (segment ledger : ℕ) (n : Node) → HasTenDigits segment → Listed t s → node t (Progress s segment) ≡ Some n
    → n.bytes ≡ segment_bytes (meta.InProgress segment ledger) → OnLedger t s segment ledger
on_first t s segment ledger n ten h e is = record {
  reached = reached_first t s segment n ten h e;
  progress = λ y f. ap (λ (z : Node). z.bytes) (same_Some y n (sym f ∙ e)) ∙ is;
  completed = λ y f. absurd (none-some y (sym (h.one segment ten n e) ∙ f));
}

-- segments stay on their ledgers
pub on_ledgers : SegmentsStayOnLedgers
on_ledgers newer older s segment ledger n h name number ten e is =
    let last = kept Supposes (λ items. OnLedger (tree_of items) s segment ledger) step newer older h
    (on_first (tree_of older) s segment ledger n number.1 (listed s name older (older_are Supposes newer older h)) e is) in
    record { progress = last.progress; completed = last.completed }
  where
    step : (x : MetaItem) (ys : List MetaItem) → AreSupposed (x ∷ ys) → OnLedger (tree_of ys) s segment ledger → OnLedger (tree_of (x ∷ ys)) s segment ledger
    step x ys g f =
        on_step (tree_of ys) (tree_of (x ∷ ys)) s segment ledger number ten (item_segments s name x ys (any_are Supposes (x ∷ ys) g))
        (item_happens s name x ys g) f

-- ---- who started a segment, and on which ledger

-- the node of a segment that was started isn't new
abbrev OldProgress : Nodes → Nodes → List ℕ → ℕ → Type 0
OldProgress t u s segment = is_new (node t (Progress s segment)) (node u (Progress s segment)) ≡ false

-- a node that stays is not new
old_same : (o p : Option Node) → p ≡ o → is_new o p ≡ false
old_same None p e = ap is_some e
old_same (Some n) p e = refl

-- a node that is gone is not new
old_gone : (o p : Option Node) → p ≡ None → is_new o p ≡ false
old_gone None p e = ap is_some e
old_gone (Some n) p e = refl

-- a step after the start of a segment
reached_step : (t u : Nodes) (s : List ℕ) (segment : ℕ) → HasTenDigits segment → SegmentsMove t u s → Happens t u s → Reached t s segment
    → OldProgress t u s segment × Reached u s segment
reached_step t u s segment ten m (nothing same) h =
    (old_same _ _ (progress_same t u s m (not_set t u (MaxSeq s) same) segment ten), reached_same t u s segment same h)
reached_step t u s segment ten m (makes free now) h = absurd (none-some h.maxseq (sym free ∙ h.there))
reached_step t u s segment ten m (starts b is form p x) h =
    subst (λ (z : List ℕ). OldProgress t u z segment × Reached u z segment) is (started_step (subst (λ (z : List ℕ). Reached t z segment) (sym is) h))
  where
    started_step : Reached t b.stream segment → OldProgress t u b.stream segment × Reached u b.stream segment
    started_step g = (
      old_same _ _ (start_progress t u b form p x segment ten (λ e. absurd (omega (arith, e, start_behind t u b p x segment g)))),
      reached_start t u b form p x segment g,
    )
reached_step t u s segment ten m (completes c is form p x) h =
    subst (λ (z : List ℕ). OldProgress t u z segment × Reached u z segment) is
    (completed_step (cases_eq segment c.segment) (subst (λ (z : List ℕ). Reached t z segment) (sym is) h))
  where
    completed_step : (segment ≡ c.segment) ⊎ (segment ≡ c.segment → ⊥) → Reached t c.stream segment
        → OldProgress t u c.stream segment × Reached u c.stream segment
    completed_step (inl e) g = (old_gone _ _ (ap (λ (y : ℕ). node u (Progress c.stream y)) e ∙ x.progress.now), reached_complete t u c form p x segment g)
    completed_step (inr other) g = (old_same _ _ (complete_progress t u c form p x segment ten other), reached_complete t u c form p x segment g)

-- behind an item, a segment that was reached is so, and its node in progress is no new one
item_reached : (s : List ℕ) (segment : ℕ) → NoSlash s → HasTenDigits segment → (x : MetaItem) (older : List MetaItem) → AreSupposed (x ∷ older)
    → Reached (tree_of older) s segment
    → OldProgress (tree_of older) (tree_of (x ∷ older)) s segment × Reached (tree_of (x ∷ older)) s segment
item_reached s segment name ten x older h f =
    reached_step (tree_of older) (tree_of (x ∷ older)) s segment ten (item_segments s name x older (any_are Supposes (x ∷ older) h))
    (item_happens s name x older h) f

-- a segment that was started has been reached
starter_reached : (items : List MetaItem) (s : List ℕ) (segment : ℕ) (ledger : ℕ) → AreSupposed items → NoSlash s → HasTenDigits segment
    → starter items s segment ≡ Some ledger → Reached (tree_of items) s segment
unfolding starter
starter_reached [] s segment ledger h name ten e = absurd (none-some ledger e)
starter_reached (x ∷ older) s segment ledger h name ten e =
    go (is_new (node_after older (Progress s segment)) (node_after (x ∷ older) (Progress s segment))) refl e
    (starter_reached older s segment ledger h.1 name ten)
  where
    go : (b : Bool) → is_new (node_after older (Progress s segment)) (node_after (x ∷ older) (Progress s segment)) ≡ b
        → cond b (ledger_named (node_after (x ∷ older) (Progress s segment))) (starter older s segment) ≡ Some ledger
        → (starter older s segment ≡ Some ledger → Reached (tree_of older) s segment) → Reached (tree_of (x ∷ older)) s segment
    go true w f old = let p = new_some _ _ w in reached_first (tree_of (x ∷ older)) s segment p.0 ten (listed s name (x ∷ older) h) p.1
    go false w f old = (item_reached s segment name ten x older h (old f)).1

-- who started a segment stays so behind an item
starter_step : (s : List ℕ) (segment ledger : ℕ) → NoSlash s → HasTenDigits segment → (x : MetaItem) (older : List MetaItem) → AreSupposed (x ∷ older)
    → starter older s segment ≡ Some ledger → starter (x ∷ older) s segment ≡ Some ledger
unfolding starter
starter_step s segment ledger name ten x older h e =
    cond-false _ _ _ (item_reached s segment name ten x older h (starter_reached older s segment ledger h.1 name ten e)).0 ∙ e

-- who started a segment stays so
pub starters_stay : StartersStay
starters_stay newer older s segment ledger h name number e =
    kept Supposes (λ items. starter items s segment ≡ Some ledger) (starter_step s segment ledger name number.1) newer older h e
