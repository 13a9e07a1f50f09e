-- No segment is above the one that `maxseq` names, and none is both in progress and completed.
use Rattle.std.proofs.Common.{◌≡◌, ℕ, ◌+◌, ◌<◌, ◌≤◌, Bool, true, false, not, ◌&&◌, ◌==◌, nat_lt, List, [], ◌∷◌, Option, Some, None, refl, sym, ap, ◌∙◌}
use Rattle.std.proofs.Common.{subst, arith, bytes_eq, inl, inr, ◌⊎◌}
use Rattle.std.proofs.lemmas.Bool.{cases_eq, and_right, ne_eqb, ltb-true, ltb-false}
use Rattle.std.proofs.lemmas.Option.{same_Some, none-some}
use Rattle.dl_fields.specs.Digits.{HasTenDigits}
use Rattle.dl_formats.specs.Keys.{MaxSeq, Progress, Completed, NoSlash}
use Rattle.dl_tree.specs.declared.node.Node.{Node}
use Rattle.dl_tree.specs.Trees.{Nodes}
use Rattle.dl_rules_nodes.specs.Items.{MetaItem}
use Rattle.dl_rules_nodes.specs.Metadata.{meta_from}
use Rattle.dl_rules_stream.specs.Requests.{StartSegment, CompleteSegment, Completion, Beginning, maxseq_node}
use Rattle.dl_law_meta.specs.Keyed.{node, lasting}
use Rattle.dl_law_meta.specs.Effects.{IsBeginning, IsCompletion, SegmentStarted, SegmentCompleted}
use Rattle.dl_law_meta.specs.Histories.{tree_of, segment_in, Supposes, AreRequests, AreSupposed}
use Rattle.dl_law_meta.specs.Laws.{WasSet, MovesAt}
use Rattle.dl_law_meta.proofs.Moves.{root_none, each_moves, owners_are}
use Rattle.dl_law_meta.proofs.Steps.{any_are, item_step}
use Rattle.dl_law_meta.proofs.Stays.{not_set, progress_moves, completed_moves}
use Rattle.dl_law_meta.proofs.Happens.{named_by, no_segment_yet, Happens, nothing, makes, starts, completes, happens}

-- ---- no segment is above the one that `maxseq` names, and none is in progress and completed

-- A stream has no node of a segment with this number.
pub record NoSegment (t : Nodes) (s : List ℕ) (k : ℕ) : Type 0 where
  pub progress : node t (Progress s k) ≡ None
  pub completed : node t (Completed s k) ≡ None

-- The node `maxseq` names the greatest segment of a stream.
pub record NamesMost (t : Nodes) (s : List ℕ) (bytes : List ℕ) : Type 0 where
  pub most : ℕ
  pub named : segment_in bytes ≡ Some most
  pub above : (k : ℕ) → HasTenDigits k → most < k → NoSegment t s k

-- A stream's segments are within what `maxseq` names, and none is in progress and completed.
pub record Listed (t : Nodes) (s : List ℕ) : Type 0 where
  pub none : node t (MaxSeq s) ≡ None → (k : ℕ) → HasTenDigits k → NoSegment t s k
  pub some : (n : Node) → node t (MaxSeq s) ≡ Some n → NamesMost t s n.bytes
  pub one : (k : ℕ) → HasTenDigits k → (n : Node) → node t (Progress s k) ≡ Some n → node t (Completed s k) ≡ None

-- how the nodes of one stream's segments move
pub record SegmentsMove (t u : Nodes) (s : List ℕ) : Type 0 where
  pub progress : (k : ℕ) → HasTenDigits k → MovesAt t u (Progress s k)
  pub completed : (k : ℕ) → HasTenDigits k → MovesAt t u (Completed s k)

-- a node that isn't there and isn't made is not there later
pub none_stays : (o p : Option Node) → o ≡ None → ((n : Node) → p ≡ Some n → o ≡ Some n) → p ≡ None
none_stays o None e f = refl
none_stays o (Some n) e f = absurd (none-some n (sym e ∙ f n refl))

module _ (t u : Nodes) (s : List ℕ) (m : SegmentsMove t u s) (never : WasSet t u (MaxSeq s) → ⊥) where
  pub progress_same : (k : ℕ) → HasTenDigits k → node u (Progress s k) ≡ node t (Progress s k)
  progress_same k ten = progress_moves t u s k _ _ (m.progress k ten) never

  pub completed_old : (k : ℕ) → HasTenDigits k → (n : Node) → node u (Completed s k) ≡ Some n → node t (Completed s k) ≡ Some n
  completed_old k ten n e = completed_moves t u s k _ _ (m.completed k ten) never n e

  pub still_none : (k : ℕ) → HasTenDigits k → NoSegment t s k → NoSegment u s k
  still_none k ten h = record { progress = progress_same k ten ∙ h.progress; completed = none_stays _ _ h.completed (completed_old k ten) }

  pub still_one : Listed t s → (k : ℕ) → HasTenDigits k → (n : Node) → node u (Progress s k) ≡ Some n → node u (Completed s k) ≡ None
  still_one h k ten n e = none_stays _ _ (h.one k ten n (sym (progress_same k ten) ∙ e)) (completed_old k ten)

-- a node `maxseq` that isn't there is not set
pub never_made : (t u : Nodes) (s : List ℕ) → node t (MaxSeq s) ≡ None → WasSet t u (MaxSeq s) → ⊥
never_made t u s none w = none-some w.old (sym none ∙ w.was)

-- where `maxseq` stays, the segments stay within what it names
pub listed_same : (t u : Nodes) (s : List ℕ) → SegmentsMove t u s → node u (MaxSeq s) ≡ node t (MaxSeq s) → Listed t s → Listed u s
listed_same t u s m same h = record {
  none = λ e k ten. still_none t u s m never k ten (h.none (sym same ∙ e) k ten);
  some = λ n e. some_by n (h.some n (sym same ∙ e));
  one = still_one t u s m never h;
}
  where
    never : WasSet t u (MaxSeq s) → ⊥
    never = not_set t u (MaxSeq s) same

    some_by : (n : Node) → NamesMost t s n.bytes → NamesMost u s n.bytes
    some_by n x = record { most = x.most; named = x.named; above = λ k ten low. still_none t u s m never k ten (x.above k ten low) }

-- the segments of a new stream are none
pub listed_made : (t u : Nodes) (s : List ℕ) → SegmentsMove t u s → node t (MaxSeq s) ≡ None → node u (MaxSeq s) ≡ Some (lasting (maxseq_node 0 0))
    → Listed t s → Listed u s
listed_made t u s m free now h = record {
  none = λ e. absurd (none-some (lasting (maxseq_node 0 0)) (sym e ∙ now));
  some =
      λ n e. subst (λ (x : Node). NamesMost u s x.bytes) (same_Some (lasting (maxseq_node 0 0)) n (sym now ∙ e))
      (record { most = 0; named = no_segment_yet; above = λ k ten low. still_none t u s m never k ten (h.none free k ten) });
  one = still_one t u s m never h;
}
  where
    never : WasSet t u (MaxSeq s) → ⊥
    never = never_made t u s free

module _ (t u : Nodes) (b : Beginning) (form : IsBeginning b) (p : Supposes t (StartSegment b)) (x : SegmentStarted t u b) where
  -- the segment comes behind all that are listed
  pub start_next : (m : NamesMost t b.stream x.maxseq.old.bytes) → m.most + 1 ≡ b.segment
  start_next m =
      let read = p x.maxseq.old x.maxseq.was x.maxseq.fitting in
      let same : m.most ≡ read.0 = same_Some m.most read.0 (sym m.named ∙ read.1) in
      omega (arith, same, read.2)

  pub start_progress : (k : ℕ) → HasTenDigits k → (k ≡ b.segment → ⊥) → node u (Progress b.stream k) ≡ node t (Progress b.stream k)
  start_progress k ten other =
      x.others.same (Progress b.stream k) (form.name, ten)
      (ap (λ (y : Bool). not y && true) (and_right (bytes_eq b.stream b.stream) (k == b.segment) (ne_eqb k b.segment other)))

  pub start_completed : (k : ℕ) → HasTenDigits k → node u (Completed b.stream k) ≡ node t (Completed b.stream k)
  start_completed k ten = x.others.same (Completed b.stream k) (form.name, ten) refl

  pub start_one : Listed t b.stream → (k : ℕ) → HasTenDigits k → (n : Node) → node u (Progress b.stream k) ≡ Some n → node u (Completed b.stream k) ≡ None
  start_one h k ten n e = start_completed k ten ∙ by (cases_eq k b.segment)
    where
      low : NamesMost t b.stream x.maxseq.old.bytes → k ≡ b.segment → node t (Completed b.stream k) ≡ None
      low m w = (m.above k ten (omega (arith, start_next m, w))).completed

      by : (k ≡ b.segment) ⊎ (k ≡ b.segment → ⊥) → node t (Completed b.stream k) ≡ None
      by (inl w) = low (h.some x.maxseq.old x.maxseq.was) w
      by (inr other) = h.one k ten n (sym (start_progress k ten other) ∙ e)

  pub listed_start : Listed t b.stream → Listed u b.stream
  listed_start h = record {
    none = λ e. absurd (none-some _ (sym e ∙ x.maxseq.now));
    some = λ n e. subst (λ (y : Node). NamesMost u b.stream y.bytes) (same_Some _ n (sym x.maxseq.now ∙ e)) (now (h.some x.maxseq.old x.maxseq.was));
    one = start_one h;
  }
    where
      still : NamesMost t b.stream x.maxseq.old.bytes → (k : ℕ) → HasTenDigits k → b.segment < k → NoSegment u b.stream k
      still m k ten low =
          let free = m.above k ten (omega (arith, start_next m, low)) in
          record { progress = start_progress k ten (λ e. absurd (omega (arith, e, low))) ∙ free.progress; completed = start_completed k ten ∙ free.completed }

      now : NamesMost t b.stream x.maxseq.old.bytes → NamesMost u b.stream (maxseq_node b.segment b.last)
      now m = record { most = b.segment; named = named_by b.segment b.last form.most; above = still m }

module _ (t u : Nodes) (c : Completion) (form : IsCompletion c) (p : Supposes t (CompleteSegment c)) (x : SegmentCompleted t u c) where
  -- `maxseq` names the segment that it named
  pub complete_names : (m : NamesMost t c.stream x.maxseq.old.bytes) → m.most ≡ c.greatest
  complete_names m = same_Some m.most c.greatest (sym m.named ∙ p.0 x.maxseq.old x.maxseq.was x.maxseq.fitting)

  pub complete_progress : (k : ℕ) → HasTenDigits k → (k ≡ c.segment → ⊥) → node u (Progress c.stream k) ≡ node t (Progress c.stream k)
  complete_progress k ten other =
      x.others.same (Progress c.stream k) (form.name, ten)
      (ap (λ (y : Bool). not y && true) (and_right (bytes_eq c.stream c.stream) (k == c.segment) (ne_eqb k c.segment other)))

  pub complete_completed : (k : ℕ) → HasTenDigits k → (k ≡ c.segment → ⊥) → node u (Completed c.stream k) ≡ node t (Completed c.stream k)
  complete_completed k ten other =
      x.others.same (Completed c.stream k) (form.name, ten)
      (ap (λ (y : Bool). not y && true) (and_right (bytes_eq c.stream c.stream) (k == c.segment) (ne_eqb k c.segment other)))

  -- the segment isn't above the one that `maxseq` names
  pub complete_within : (m : NamesMost t c.stream x.maxseq.old.bytes) → c.segment ≤ m.most
  complete_within m = go (nat_lt m.most c.segment) refl
    where
      go : (b : Bool) → nat_lt m.most c.segment ≡ b → c.segment ≤ m.most
      go true w = absurd (none-some x.progress.old (sym (m.above c.segment form.number.1 (ltb-true m.most c.segment w)).progress ∙ x.progress.was))
      go false w = ltb-false m.most c.segment w

  pub complete_one : Listed t c.stream → (k : ℕ) → HasTenDigits k → (n : Node) → node u (Progress c.stream k) ≡ Some n → node u (Completed c.stream k) ≡ None
  complete_one h k ten n e = by (cases_eq k c.segment)
    where
      by : (k ≡ c.segment) ⊎ (k ≡ c.segment → ⊥) → node u (Completed c.stream k) ≡ None
      by (inl w) = absurd (none-some n (sym x.progress.now ∙ ap (λ (y : ℕ). node u (Progress c.stream y)) (sym w) ∙ e))
      by (inr other) = complete_completed k ten other ∙ h.one k ten n (sym (complete_progress k ten other) ∙ e)

  pub listed_complete : Listed t c.stream → Listed u c.stream
  listed_complete h = record {
    none = λ e. absurd (none-some _ (sym e ∙ x.maxseq.now));
    some = λ n e. subst (λ (y : Node). NamesMost u c.stream y.bytes) (same_Some _ n (sym x.maxseq.now ∙ e)) (now (h.some x.maxseq.old x.maxseq.was));
    one = complete_one h;
  }
    where
      still : NamesMost t c.stream x.maxseq.old.bytes → (k : ℕ) → HasTenDigits k → c.greatest < k → NoSegment u c.stream k
      still m k ten low = by (m.above k ten (omega (arith, complete_names m, low)))
        where
          other : k ≡ c.segment → ⊥
          other e = absurd (omega (arith, e, low, complete_names m, complete_within m))

          by : NoSegment t c.stream k → NoSegment u c.stream k
          by free = record { progress = complete_progress k ten other ∙ free.progress; completed = complete_completed k ten other ∙ free.completed }

      now : NamesMost t c.stream x.maxseq.old.bytes → NamesMost u c.stream (maxseq_node c.greatest c.last)
      now m = record { most = c.greatest; named = named_by c.greatest c.last form.most; above = still m }

-- the segments stay within what `maxseq` names through each change
pub listed_step : (t u : Nodes) (s : List ℕ) → SegmentsMove t u s → Happens t u s → Listed t s → Listed u s
listed_step t u s m (nothing same) h = listed_same t u s m same h
listed_step t u s m (makes free now) h = listed_made t u s m free now h
listed_step t u s m (starts b is form p x) h = subst (Listed u) is (listed_start t u b form p x (subst (Listed t) (sym is) h))
listed_step t u s m (completes c is form p x) h = subst (Listed u) is (listed_complete t u c form p x (subst (Listed t) (sym is) h))

-- how each item moves a stream's segments
pub item_segments : (s : List ℕ) → NoSlash s → (x : MetaItem) (older : List MetaItem) → AreRequests (x ∷ older)
    → SegmentsMove (tree_of older) (tree_of (x ∷ older)) s
item_segments s name x older h =
    record { progress = λ k ten. each_moves x older (Progress s k) h (name, ten); completed = λ k ten. each_moves x older (Completed s k) h (name, ten) }

-- what each item does to a stream
pub item_happens : (s : List ℕ) → NoSlash s → (x : MetaItem) (older : List MetaItem) → AreSupposed (x ∷ older) → Happens (tree_of older) (tree_of (x ∷ older)) s
item_happens s name x older h =
    happens (tree_of older) (tree_of (x ∷ older)) s name (item_step Supposes x older (owners_are older (any_are Supposes older h.1)) h)

-- so are the segments of every stream behind all items
pub listed : (s : List ℕ) → NoSlash s → (items : List MetaItem) → AreSupposed items → Listed (tree_of items) s
unfolding meta_from
listed s name [] h = record {
  none = λ e k ten. record { progress = root_none (Progress s k); completed = root_none (Completed s k) };
  some = λ n e. absurd (none-some n (sym (root_none (MaxSeq s)) ∙ e));
  one = λ k ten n e. root_none (Completed s k);
}
listed s name (x ∷ older) h =
    listed_step (tree_of older) (tree_of (x ∷ older)) s (item_segments s name x older (any_are Supposes (x ∷ older) h)) (item_happens s name x older h)
    (listed s name older h.1)
