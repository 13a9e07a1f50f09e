-- What stays of nodes, whatever items follow.
use Rattle.std.proofs.Common.{◌≡◌, ℕ, ◌+◌, ◌<◌, ◌≤◌, Bool, true, false, cond, List, [], ◌∷◌, ◌++◌, Option, Some, None, refl, sym, ap, ◌∙◌, subst, arith}
use Rattle.std.proofs.lemmas.Bool.{cond-false}
use Rattle.std.proofs.lemmas.Option.{same_Some, none-some}
use Rattle.dl_fields.specs.Digits.{HasTenDigits}
use Rattle.dl_formats.specs.Keys.{Key, Ledgers, Ledger, MaxSeq, Locks, Member, Segs, Progress, Completed, NoSlash, IsKey}
use Rattle.dl_tree.specs.declared.node.Node.{Node}
use Rattle.dl_tree.specs.Laws.{set_node}
use Rattle.dl_tree.specs.Trees.{Nodes}
use Rattle.dl_rules_nodes.specs.Items.{MetaItem}
use Rattle.dl_rules_nodes.specs.Metadata.{meta_from}
use Rattle.dl_law_meta.specs.Keyed.{node, with_count}
use Rattle.dl_law_meta.specs.Histories.{tree_of, node_after, IsAny, AreRequests, Asker, asker_of, is_new, maker}
use Rattle.dl_law_meta.specs.Laws.{counter_in, WasSet, MayGo, Moves, stays, is_made, joins, is_set, is_counted, goes, IsLater, IsThereLater, IsGoneOrLater}
use Rattle.dl_law_meta.specs.Laws.{IsLasting, LastingNodesStay, ledgers_made, EachLedgerIsMadeOnce, MakersStay, LooksStayWhileMaxseqStands}
use Rattle.dl_law_meta.proofs.Moves.{root_none, each_moves}
use Rattle.dl_law_meta.proofs.Steps.{kept, older_are}

-- ---- nodes that never go

-- a node comes later than itself
later_itself : (n : Node) → IsLater n n
later_itself n = record { version = omega arith; counter = omega arith; owner = refl; bytes = λ e. refl }

-- a node that is set comes later
later_set : (n m : Node) (bytes : List ℕ) → IsLater n m → IsLater n (set_node bytes m)
later_set n m bytes h = record {
  version = omega (arith, h.version);
  counter = h.counter;
  owner = h.owner;
  bytes = λ e. absurd (higher e);
}
  where
    higher : m.version + 1 ≡ n.version → ⊥
    higher e = omega (arith, h.version, e)

-- a node that counts comes later
later_counted : (n m : Node) → IsLater n m → IsLater n (with_count m)
later_counted n m h = record { version = h.version; counter = omega (arith, h.counter); owner = h.owner; bytes = h.bytes }

-- a lasting node does not go
never_goes : (t u : Nodes) (k : Key) → IsLasting k → MayGo t u k → ⊥
never_goes t u (Ledger n) w b = w
never_goes t u (Locks s) w b = w
never_goes t u (Member s n) w b = w
never_goes t u (Segs s) w b = w
never_goes t u (Progress s n) w b = w
never_goes t u (Completed s n) w b = w
never_goes t u _ w b = b

-- a lasting node that is there comes later through a move
later_moves : (t u : Nodes) (k : Key) (o p : Option Node) → Moves t u k o p → IsLasting k → (n : Node) → IsThereLater n o → IsThereLater n p
later_moves t u k _ _ (stays o) w n h = h
later_moves t u k _ _ (is_made bytes b) w n h = absurd h
later_moves t u k _ _ (joins j b) w n h = absurd h
later_moves t u k _ _ (is_set m bytes b) w n h = later_set n m bytes h
later_moves t u k _ _ (is_counted m b) w n h = later_counted n m h
later_moves t u k _ _ (goes m b) w n h = absurd (never_goes t u k w b)

-- a node that is there comes later than itself
later_start : (o : Option Node) (n : Node) → o ≡ Some n → IsThereLater n o
later_start o n e = subst (IsThereLater n) (sym e) (later_itself n)

-- a lasting node that is there comes later through an item
later_step : (k : Key) → IsKey k → IsLasting k → (n : Node) (x : MetaItem) (older : List MetaItem) → AreRequests (x ∷ older)
    → IsThereLater n (node_after older k) → IsThereLater n (node_after (x ∷ older) k)
later_step k g w n x older h f = later_moves (tree_of older) (tree_of (x ∷ older)) k _ _ (each_moves x older k h g) w n f

-- lasting nodes stay
pub lasting_stay : LastingNodesStay
lasting_stay newer older k n h g w e =
    kept IsAny (λ items. IsThereLater n (node_after items k)) (later_step k g w n) newer older h (later_start (node_after older k) n e)

-- ---- ledgers

-- the counter of ledgers does not fall through a move
counter_moves : (t u : Nodes) (o p : Option Node) → Moves t u Ledgers o p → counter_in o ≤ counter_in p
counter_moves t u _ _ (stays o) = omega arith
counter_moves t u _ _ (is_made bytes b) = omega arith
counter_moves t u _ _ (joins j b) = absurd b
counter_moves t u _ _ (is_set m bytes b) = absurd b
counter_moves t u _ _ (is_counted m b) = omega arith
counter_moves t u _ _ (goes m b) = absurd b

-- nor through an item
pub counter_step : (x : MetaItem) (older : List MetaItem) → AreRequests (x ∷ older) → ledgers_made older ≤ ledgers_made (x ∷ older)
counter_step x older h = counter_moves (tree_of older) (tree_of (x ∷ older)) _ _ (each_moves x older Ledgers h tt)

-- the number of a ledger that is there was given, also behind a move
given_moves : (t u : Nodes) (l : ℕ) (o p : Option Node) → Moves t u (Ledger l) o p → counter_in (node t Ledgers) ≤ counter_in (node u Ledgers)
    → ((n : Node) → o ≡ Some n → l < counter_in (node t Ledgers))
    → (n : Node) → p ≡ Some n → l < counter_in (node u Ledgers)
given_moves t u l _ _ (stays o) up old n e = omega (arith, up, old n e)
given_moves t u l _ _ (is_made bytes b) up old n e = omega (arith, b.1)
given_moves t u l _ _ (joins j b) up old n e = absurd b
given_moves t u l _ _ (is_set m bytes b) up old n e = omega (arith, up, old m refl)
given_moves t u l _ _ (is_counted m b) up old n e = absurd b
given_moves t u l _ _ (goes m b) up old n e = absurd (none-some n e)

-- the number of a ledger that is there was given
pub ledger_given : (items : List MetaItem) (l : ℕ) → AreRequests items → HasTenDigits l → (n : Node) → node_after items (Ledger l) ≡ Some n
    → l < ledgers_made items
unfolding meta_from
ledger_given [] l h ten n e = absurd (none-some n (sym (root_none (Ledger l)) ∙ e))
ledger_given (x ∷ older) l h ten n e =
    given_moves (tree_of older) (tree_of (x ∷ older)) l _ _ (each_moves x older (Ledger l) h ten) (counter_step x older h) (ledger_given older l h.1 ten) n e

-- a ledger that was given and is gone stays so through a move
pub gone_moves : (t u : Nodes) (l : ℕ) (o p : Option Node) → Moves t u (Ledger l) o p → l < counter_in (node t Ledgers) → o ≡ None → p ≡ None
gone_moves t u l _ _ (stays o) low e = e
gone_moves t u l _ _ (is_made bytes b) low e = absurd (omega (arith, b.0, low))
gone_moves t u l _ _ (joins j b) low e = absurd b
gone_moves t u l _ _ (is_set m bytes b) low e = absurd (none-some m (sym e))
gone_moves t u l _ _ (is_counted m b) low e = absurd b
gone_moves t u l _ _ (goes m b) low e = refl

-- a ledger that was given comes later or is gone through a move
later_or_gone : (t u : Nodes) (l : ℕ) (o p : Option Node) → Moves t u (Ledger l) o p → l < counter_in (node t Ledgers) → (n : Node) → IsGoneOrLater n o
    → IsGoneOrLater n p
later_or_gone t u l _ _ (stays o) low n h = h
later_or_gone t u l _ _ (is_made bytes b) low n h = absurd (omega (arith, b.0, low))
later_or_gone t u l _ _ (joins j b) low n h = absurd b
later_or_gone t u l _ _ (is_set m bytes b) low n h = later_set n m bytes h
later_or_gone t u l _ _ (is_counted m b) low n h = absurd b
later_or_gone t u l _ _ (goes m b) low n h = tt

-- facts of a ledger whose number was given
pub kept_of_given : (l : ℕ) (F : Option Node → Type 0)
    → ((t u : Nodes) (o p : Option Node) → Moves t u (Ledger l) o p → l < counter_in (node t Ledgers) → F o → F p) → HasTenDigits l
    → (newer older : List MetaItem) → AreRequests (newer ++ older) → l < ledgers_made older → F (node_after older (Ledger l))
    → F (node_after (newer ++ older) (Ledger l))
kept_of_given l F moves ten newer older h low f =
    (kept IsAny (λ items. (l < ledgers_made items) × F (node_after items (Ledger l))) step newer older h (low, f)).1
  where
    step : (x : MetaItem) (ys : List MetaItem) → AreRequests (x ∷ ys) → (l < ledgers_made ys) × F (node_after ys (Ledger l))
        → (l < ledgers_made (x ∷ ys)) × F (node_after (x ∷ ys) (Ledger l))
    step x ys g f = (omega (arith, counter_step x ys g, f.0), moves (tree_of ys) (tree_of (x ∷ ys)) _ _ (each_moves x ys (Ledger l) g ten) f.0 f.1)

-- each ledger is made once
pub made_once : EachLedgerIsMadeOnce
made_once newer older l h ten = record {
  rises = kept IsAny (λ items. ledgers_made older ≤ ledgers_made items) (λ x ys g f. omega (arith, counter_step x ys g, f)) newer older h (omega arith);
  given = given;
  gone = λ low e. kept_of_given l (λ o. o ≡ None) (λ t u o p m k f. gone_moves t u l o p m k f) ten newer older h low e;
  later =
      λ n e. kept_of_given l (IsGoneOrLater n) (λ t u o p m k f. later_or_gone t u l o p m k n f) ten newer older h (given n e)
      (subst (IsGoneOrLater n) (sym e) (later_itself n));
}
  where
    given : (n : Node) → node_after older (Ledger l) ≡ Some n → l < ledgers_made older
    given n e = ledger_given older l (older_are IsAny newer older h) ten n e

-- ---- makers

-- a ledger that was given is not made again
never_new : (t u : Nodes) (l : ℕ) (o p : Option Node) → Moves t u (Ledger l) o p → l < counter_in (node t Ledgers) → is_new o p ≡ false
never_new t u l _ _ (stays None) low = refl
never_new t u l _ _ (stays (Some n)) low = refl
never_new t u l _ _ (is_made bytes b) low = absurd (omega (arith, b.0, low))
never_new t u l _ _ (joins j b) low = absurd b
never_new t u l _ _ (is_set m bytes b) low = refl
never_new t u l _ _ (is_counted m b) low = refl
never_new t u l _ _ (goes m b) low = refl

-- a node that is new is there
pub new_some : (o p : Option Node) → is_new o p ≡ true → (n : Node) × (p ≡ Some n)
new_some None None e = absurd (cc)
new_some None (Some n) e = (n, refl)
new_some (Some m) p e = absurd (cc)

-- a ledger that someone made was given
maker_given : (items : List MetaItem) (l : ℕ) (who : Asker) → AreRequests items → HasTenDigits l → maker items l ≡ Some who → l < ledgers_made items
unfolding maker
maker_given [] l who h ten e = absurd (none-some who e)
maker_given (x ∷ older) l who h ten e = go (is_new (node_after older (Ledger l)) (node_after (x ∷ older) (Ledger l))) refl e (maker_given older l who h.1 ten)
  where
    go : (b : Bool) → is_new (node_after older (Ledger l)) (node_after (x ∷ older) (Ledger l)) ≡ b → cond b (asker_of x) (maker older l) ≡ Some who
        → (maker older l ≡ Some who → l < ledgers_made older) → l < ledgers_made (x ∷ older)
    go true w f old = let p = new_some _ _ w in ledger_given (x ∷ older) l h ten p.0 p.1
    go false w f old = omega (arith, old f, counter_step x older h)

-- who made a ledger stays so behind an item
maker_step : (l : ℕ) (who : Asker) → HasTenDigits l → (x : MetaItem) (older : List MetaItem) → AreRequests (x ∷ older) → maker older l ≡ Some who
    → maker (x ∷ older) l ≡ Some who
unfolding maker
maker_step l who ten x older h e =
    cond-false _ _ _ (never_new (tree_of older) (tree_of (x ∷ older)) l _ _ (each_moves x older (Ledger l) h ten) (maker_given older l who h.1 ten e)) ∙ e

-- who made a ledger stays so
pub makers_stay : MakersStay
makers_stay newer older l who h ten e = kept IsAny (λ items. maker items l ≡ Some who) (maker_step l who ten) newer older h e

-- ---- looks

-- what a look at one tree told is so in another
record LookIs (t u : Nodes) (s : List ℕ) : Type 0 where
  maxseq : node u (MaxSeq s) ≡ node t (MaxSeq s)
  progress : (segment : ℕ) → HasTenDigits segment → node u (Progress s segment) ≡ node t (Progress s segment)
  completed : (segment : ℕ) → HasTenDigits segment → (n : Node) → node u (Completed s segment) ≡ Some n → node t (Completed s segment) ≡ Some n

-- the node `maxseq` stays as it is while its version does
maxseq_moves : (t u : Nodes) (s : List ℕ) (o p : Option Node) → Moves t u (MaxSeq s) o p → (m n : Node) → o ≡ Some m → p ≡ Some n → n.version ≤ m.version
    → p ≡ o
maxseq_moves t u s _ _ (stays o) m n e f le = refl
maxseq_moves t u s _ _ (is_made bytes b) m n e f le = absurd (none-some m e)
maxseq_moves t u s _ _ (joins j b) m n e f le = absurd b
maxseq_moves t u s _ _ (is_set k bytes b) m n e f le =
    let low : k.version ≡ m.version = ap (λ (x : Node). x.version) (same_Some k m e) in
    let high : k.version + 1 ≡ n.version = ap (λ (x : Node). x.version) (same_Some (set_node bytes k) n f) in
    absurd (omega (arith, low, high, le))
maxseq_moves t u s _ _ (is_counted k b) m n e f le = absurd b
maxseq_moves t u s _ _ (goes k b) m n e f le = absurd (none-some n f)

-- a node that stays was not set
pub not_set : (t u : Nodes) (k : Key) → node u k ≡ node t k → WasSet t u k → ⊥
not_set t u k same w =
    let e : w.old.version ≡ w.old.version + 1 = ap (λ (x : Node). x.version) (same_Some w.old (set_node w.bytes w.old) (sym w.was ∙ sym same ∙ w.now)) in
    omega (arith, e)

-- the node of a segment in progress stays where `maxseq` was not set
pub progress_moves : (t u : Nodes) (s : List ℕ) (k : ℕ) (o p : Option Node) → Moves t u (Progress s k) o p → (WasSet t u (MaxSeq s) → ⊥) → p ≡ o
progress_moves t u s k _ _ (stays o) never = refl
progress_moves t u s k _ _ (is_made bytes b) never = absurd (never b)
progress_moves t u s k _ _ (joins j b) never = absurd b
progress_moves t u s k _ _ (is_set m bytes b) never = absurd b
progress_moves t u s k _ _ (is_counted m b) never = absurd b
progress_moves t u s k _ _ (goes m b) never = absurd (never b)

-- the node of a completed segment is not made where `maxseq` was not set
pub completed_moves : (t u : Nodes) (s : List ℕ) (k : ℕ) (o p : Option Node) → Moves t u (Completed s k) o p → (WasSet t u (MaxSeq s) → ⊥) → (n : Node)
    → p ≡ Some n → o ≡ Some n
completed_moves t u s k _ _ (stays o) never n e = e
completed_moves t u s k _ _ (is_made bytes b) never n e = absurd (never b)
completed_moves t u s k _ _ (joins j b) never n e = absurd b
completed_moves t u s k _ _ (is_set m bytes b) never n e = absurd b
completed_moves t u s k _ _ (is_counted m b) never n e = absurd b
completed_moves t u s k _ _ (goes m b) never n e = absurd (none-some n e)

-- a node that is there later is there
there_is : (n : Node) (o : Option Node) → IsThereLater n o → (m : Node) × (o ≡ Some m) × IsLater n m
there_is n None h = absurd h
there_is n (Some m) h = (m, refl, h)

module _ (t : Nodes) (s : List ℕ) (name : NoSlash s) (n : Node) where
  -- the version of `maxseq` has not fallen, and while it stands the look is right
  abbrev Lasts : List MetaItem → Type 0
  Lasts items =
      IsThereLater n (node_after items (MaxSeq s)) × ((m : Node) → node_after items (MaxSeq s) ≡ Some m → m.version ≡ n.version → LookIs t (tree_of items) s)

  look_step : (x : MetaItem) (older : List MetaItem) → AreRequests (x ∷ older) → Lasts older → Lasts (x ∷ older)
  look_step x older h f = (later_step (MaxSeq s) name tt n x older h f.0, λ m e v. by m e v (there_is n (node_after older (MaxSeq s)) f.0))
    where
      by : (m : Node) → node_after (x ∷ older) (MaxSeq s) ≡ Some m → m.version ≡ n.version → (k : Node) × (node_after older (MaxSeq s) ≡ Some k) × IsLater n k
          → LookIs t (tree_of (x ∷ older)) s
      by m e v was = end (f.1 was.0 was.1 stands) same (not_set (tree_of older) (tree_of (x ∷ older)) (MaxSeq s) same)
        where
          le : m.version ≤ was.0.version
          le = omega (arith, v, was.2.version)

          same : node_after (x ∷ older) (MaxSeq s) ≡ node_after older (MaxSeq s)
          same = maxseq_moves (tree_of older) (tree_of (x ∷ older)) s _ _ (each_moves x older (MaxSeq s) h name) was.0 m was.1 e le

          stands : was.0.version ≡ n.version
          stands = ap (λ (y : Node). y.version) (same_Some was.0 m (sym was.1 ∙ sym same ∙ e)) ∙ v

          end : LookIs t (tree_of older) s → node_after (x ∷ older) (MaxSeq s) ≡ node_after older (MaxSeq s)
              → (WasSet (tree_of older) (tree_of (x ∷ older)) (MaxSeq s) → ⊥) → LookIs t (tree_of (x ∷ older)) s
          end look is never = record {
            maxseq = is ∙ look.maxseq;
            progress =
                λ k ten. progress_moves (tree_of older) (tree_of (x ∷ older)) s k _ _ (each_moves x older (Progress s k) h (name, ten)) never
                ∙ look.progress k ten;
            completed =
                λ k ten y g. look.completed k ten y
                (completed_moves (tree_of older) (tree_of (x ∷ older)) s k _ _ (each_moves x older (Completed s k) h (name, ten)) never y g);
          }

-- a look stays true as long as `maxseq` stands
pub looks_stay : LooksStayWhileMaxseqStands
looks_stay newer older s n m h name e f v =
    let look = (kept IsAny (Lasts (tree_of older) s name n) (look_step (tree_of older) s name n) newer older h
    (later_start (node_after older (MaxSeq s)) n e, λ k a b. record { maxseq = refl; progress = λ j ten. refl; completed = λ j ten y g. g })).1 m f v in
    record { maxseq = look.maxseq; progress = look.progress; completed = look.completed }
