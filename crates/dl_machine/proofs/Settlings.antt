-- Settling ends: each delivery marks a letter that was not marked, and between two rounds of commits lies a delivery.
use Rattle.std.proofs.Common.{◌≡◌, ℕ, zero, suc, ◌+◌, ◌*◌, ◌<◌, ◌≤◌, ◌⊎◌, Bool, true, false, cond, not, ◌&&◌, ◌==◌, List, [], ◌∷◌, ◌++◌, length, map}
use Rattle.std.proofs.Common.{Option, Some, None, refl, sym, ap, ◌∙◌, subst, inl, inr, arith, slice_get, eq-eqb}
use Rattle.std.specs.List.{AllByRecursion}
use Rattle.std.proofs.lemmas.Bool.{cases_eq, ne_eqb}
use Rattle.std.proofs.lemmas.List.{append-nil}
use Rattle.std.proofs.lemmas.Option.{slice_get_within}
use Rattle.dl_msg.specs.declared.letter.Letter.{Letter}
use Rattle.dl_formats.specs.declared.conf.Conf.{Conf}
use Rattle.dl_rules_nodes.specs.Bookies.{after_commit, after_stop, without_queue}
use Rattle.dl_machine.specs.States.{State, Node, Down, with_value, with_node, marks, is_up, bookies_of, can_take, quietly}
use Rattle.dl_machine.specs.Atoms.{Atom, Deliver, Commit, takes_letter, delivers, commits, stopped_node, killed_node, faints_at, faints, atom}
use Rattle.dl_machine.specs.Fates.{Luck, Well, Fails, Falls, Unmade, steps_by_luck, with_luck}
use Rattle.dl_machine.specs.Limits.{most_messages, turn_limit}
use Rattle.dl_machine.specs.Lines.{has_queue}
use Rattle.dl_machine.specs.Runs.{after, next_letter, nodes_due, turn_by, turn, goes_on, settles}
use Rattle.dl_machine.specs.Laws.{state_after_settling, SettlingEndsQuiet}
use Rattle.dl_machine.proofs.RunLaws.{after-append}
use Rattle.dl_machine.proofs.Movements.{put_each, Moves, taken_moves, faints_moves}
use Rattle.dl_machine.proofs.StayLaws.{letters_grow}

-- ---- the letters that were not delivered

-- one where a letter was not delivered
abbrev one_unless : Bool → ℕ
one_unless true = 0
one_unless false = 1

-- how many of so many first places hold no letter that was delivered; it must never compute in a goal
unmarked : (ℕ → Bool) → ℕ → ℕ
unmarked f zero = 0
unmarked f (suc n) = one_unless (f n) + unmarked f n

-- no more letters are unmarked than there are
unmarked_at_most : (f : ℕ → Bool) (n : ℕ) → unmarked f n ≤ n
unfolding unmarked
unmarked_at_most f zero = omega arith
unmarked_at_most f (suc n) = go (f n) (unmarked_at_most f n)
  where
    go : (t : Bool) → unmarked f n ≤ n → one_unless t + unmarked f n ≤ suc n
    go true h = omega (arith, h)
    go false h = omega (arith, h)

-- a mark at or above them changes nothing
unmarked_above : (f : ℕ → Bool) (place n : ℕ) → n ≤ place → unmarked (with_value f place true) n ≡ unmarked f n
unfolding unmarked
unmarked_above f place zero h = refl
unmarked_above f place (suc n) h = go (n == place) (ne_eqb n place (λ e. omega (arith, e, h))) (unmarked_above f place n (omega (arith, h)))
  where
    go : (t : Bool) → t ≡ false → unmarked (with_value f place true) n ≡ unmarked f n
        → one_unless (cond t true (f n)) + unmarked (with_value f place true) n ≡ one_unless (f n) + unmarked f n
    go true w e = absurd cc
    go false w e = ap (λ (m : ℕ). one_unless (f n) + m) e

-- a mark at a place that had none is one less
unmarked_marked : (f : ℕ → Bool) (place n : ℕ) → place < n → f place ≡ false → suc (unmarked (with_value f place true) n) ≤ unmarked f n
unfolding unmarked
unmarked_marked f place zero below open_there = absurd (omega (arith, below))
unmarked_marked f place (suc n) below open_there = go (cases_eq n place) (unmarked_marked f place n)
  where
    go : (n ≡ place) ⊎ (n ≡ place → ⊥) → (place < n → f place ≡ false → suc (unmarked (with_value f place true) n) ≤ unmarked f n)
        → suc (one_unless (cond (n == place) true (f n)) + unmarked (with_value f place true) n) ≤ one_unless (f n) + unmarked f n
    go (inl e) ih =
        let here : one_unless (cond (n == place) true (f n)) ≡ 0 = ap (λ (t : Bool). one_unless (cond t true (f n))) (eq-eqb n place e) in
        let was : one_unless (f n) ≡ 1 = ap (λ (k : ℕ). one_unless (f k)) e ∙ ap one_unless open_there in
        let rest : unmarked (with_value f place true) n ≡ unmarked f n = unmarked_above f place n (omega (arith, e)) in
        omega (arith, here, was, rest)
    go (inr d) ih =
        let here : one_unless (cond (n == place) true (f n)) ≡ one_unless (f n) = ap (λ (t : Bool). one_unless (cond t true (f n))) (ne_eqb n place d) in
        omega (arith, here, ih (omega (arith, below, d)) open_there)

-- ---- the next letter

-- A letter that is due: it is there, was never delivered, and can be taken.
record IsDue (s : State) (letters : List Letter) (first place : ℕ) : Type 0 where
  at : ℕ
  same : place ≡ first + at
  letter : Letter
  there : slice_get letters at ≡ Some letter
  unseen : s.delivered place ≡ false
  takes : can_take s letter letter.to ≡ true

-- a letter that is due among the others is due among all
due_later : (s : State) (l : Letter) (ls : List Letter) (first place : ℕ) → IsDue s ls (suc first) place → IsDue s (l ∷ ls) first place
due_later s l ls first place d = record {
  at = suc d.at;
  same = omega (arith, d.same);
  letter = d.letter;
  there = d.there;
  unseen = d.unseen;
  takes = d.takes;
}

-- of two tests of which the first doesn't hold and the second does
not_both : (x y : Bool) → (not x && y) ≡ true → (x ≡ false) × (y ≡ true)
not_both true y e = absurd cc
not_both false y e = (refl, e)

-- the letter that is found is due
next_is_due : (s : State) (first : ℕ) (ls : List Letter) (place : ℕ) → next_letter s first ls ≡ Some place → IsDue s ls first place
unfolding next_letter
next_is_due s first [] place e = absurd cc
next_is_due s first (l ∷ ls) place e = go (not (s.delivered first) && can_take s l l.to) refl e (next_is_due s (suc first) ls place)
  where
    go : (t : Bool) → (not (s.delivered first) && can_take s l l.to) ≡ t → cond t (Some first) (next_letter s (suc first) ls) ≡ Some place
        → (next_letter s (suc first) ls ≡ Some place → IsDue s ls (suc first) place) → IsDue s (l ∷ ls) first place
    go true w e ih =
        let same : first ≡ place = cc in
        let both = not_both _ _ w in
        record {
          at = 0;
          same = omega (arith, same);
          letter = l;
          there = refl;
          unseen = subst (λ n. s.delivered n ≡ false) same both.0;
          takes = both.1;
        }
    go false w e ih = due_later s l ls first place (ih e)

-- ---- a delivery

-- a letter that can be taken is delivered
deliver_moves : (s : State) (place : ℕ) (l : Letter) (found : Option Letter) → found ≡ Some l → can_take s l l.to ≡ true
    → Moves (marks s place) (delivers s place found).state
deliver_moves s place l found e takes =
    subst (λ o. Moves (marks s place) (delivers s place o).state) (sym e)
    (subst (λ (t : Bool). Moves (marks s place) (cond t (takes_letter (marks s place) l l.to l.from) (quietly s)).state) (sym takes)
    (taken_moves (marks s place) l l.to l.from))

-- the same of a storage node that goes down on it
faint_moves : (s : State) (place : ℕ) (l : Letter) (found : Option Letter) → found ≡ Some l → can_take s l l.to ≡ true
    → Moves (marks s place) (faints s place found)
faint_moves s place l found e takes =
    subst (λ o. Moves (marks s place) (faints s place o)) (sym e)
    (subst (λ (t : Bool). Moves (marks s place) (cond t (faints_at (marks s place) l.to) s)) (sym takes) (faints_moves (marks s place) l.to))

-- whatever the devices make of it, a letter that is delivered is marked
fated_delivery : (s : State) (luck : Luck) (place : ℕ) (l : Letter) → slice_get s.letters place ≡ Some l → can_take s l l.to ≡ true
    → Moves (marks s place) (after s (steps_by_luck luck (Deliver place)))
unfolding after steps_by_luck atom
fated_delivery s Well place l e takes = deliver_moves s place l _ e takes
fated_delivery s (Fails kept) place l e takes = faint_moves s place l _ e takes
fated_delivery s Falls place l e takes = deliver_moves s place l _ e takes
fated_delivery s (Unmade bookies) place l e takes = deliver_moves s place l _ e takes

-- one step with its luck
one_fated : (luck : ℕ → Luck) (i : ℕ) (s : State) (a : Atom) → after s (with_luck luck i (a ∷ [])) ≡ after s (steps_by_luck (luck i) a)
unfolding with_luck
one_fated luck i s a = ap (after s) (append-nil (steps_by_luck (luck i) a))

-- ---- commits

-- Commits leave the configuration and the letters' marks, and fill no queue.
record Empties (s t : State) : Type 0 where
  conf : t.conf ≡ s.conf
  same_marks : t.delivered ≡ s.delivered
  idle : (j : ℕ) → has_queue (s.nodes j) ≡ false → has_queue (t.nodes j) ≡ false

-- a state empties as itself
empties_same : (s : State) → Empties s s
empties_same s = record { conf = refl; same_marks = refl; idle = λ j e. e }

-- two steps that empty queues do so one behind the other
empties_then : (s t u : State) → Empties s t → Empties t u → Empties s u
empties_then s t u g h = record { conf = h.conf ∙ g.conf; same_marks = h.same_marks ∙ g.same_marks; idle = λ j e. h.idle j (g.idle j e) }

-- a storage node whose queue is gone
put_idle : (nodes : ℕ → Node) (b : ℕ) (n : Node) → has_queue n ≡ false → (j : ℕ) → has_queue (nodes j) ≡ false → has_queue (with_value nodes b n j) ≡ false
put_idle nodes b n e = put_each nodes b n (λ j m. has_queue (nodes j) ≡ false → has_queue m ≡ false) (λ h. e) (λ j h. h)

-- a node without a queue that is put has none
put_here : (nodes : ℕ → Node) (b : ℕ) (n : Node) → has_queue n ≡ false → has_queue (with_value nodes b n b) ≡ false
put_here nodes b n e = subst (λ (t : Bool). has_queue (cond t n (nodes b)) ≡ false) (sym (eq-eqb b b refl)) e

-- One storage node's queue is gone, and none is fuller.
record EmptiesAt (b : ℕ) (s t : State) : Type 0 where
  all : Empties s t
  here : has_queue (t.nodes b) ≡ false

-- a node without a queue has none, whether it is up or not
no_queue_after : (t : Bool) → (t && false) ≡ false
no_queue_after true = refl
no_queue_after false = refl

-- a node has no queue behind a commit
committed_idle : (n : Node) → has_queue (record n { bookie = after_commit n.bookie }) ≡ false
unfolding after_commit
committed_idle n = no_queue_after (is_up n.mode)

-- nor where it was stopped
stopped_idle : (n : Node) (kept : Bool) → has_queue (stopped_node n kept) ≡ false
stopped_idle n kept = go (is_up n.mode) refl
  where
    go : (t : Bool) → is_up n.mode ≡ t
        → has_queue (cond t (record { bookie = after_stop n.bookie kept; mode = Down; other = Some (after_stop n.bookie (not kept)) }) n) ≡ false
    go true e = refl
    go false e = ap (λ (u : Bool). u && not (length n.bookie.queue == 0)) e

-- nor where it went down
killed_idle : (n : Node) → has_queue (killed_node n) ≡ false
killed_idle n = go (is_up n.mode) refl
  where
    go : (t : Bool) → is_up n.mode ≡ t → has_queue (cond t (record n { bookie = without_queue n.bookie; mode = Down }) n) ≡ false
    go true e = refl
    go false e = ap (λ (u : Bool). u && not (length n.bookie.queue == 0)) e

-- a commit empties one queue, and no other fills
commit_empties : (s : State) (b : ℕ) → EmptiesAt b s (commits s b)
commit_empties s b = record {
  all = record { conf = refl; same_marks = refl; idle = put_idle s.nodes b _ (committed_idle (s.nodes b)) };
  here = put_here s.nodes b _ (committed_idle (s.nodes b));
}

-- so does a node without a queue in place of another
node_empties : (s : State) (b : ℕ) (n : Node) → has_queue n ≡ false → EmptiesAt b s (with_node s b n)
node_empties s b n e = record {
  all = record { conf = refl; same_marks = refl; idle = put_idle s.nodes b n e };
  here = put_here s.nodes b n e;
}

-- so does a commit behind which the node goes down
commit_and_kill : (s : State) (b : ℕ) → EmptiesAt b s (with_node (commits s b) b (killed_node ((commits s b).nodes b)))
commit_and_kill s b =
    let next = node_empties (commits s b) b (killed_node ((commits s b).nodes b)) (killed_idle ((commits s b).nodes b)) in
    record { all = empties_then s (commits s b) _ (commit_empties s b).all next.all; here = next.here }

-- whatever the devices make of a commit, its storage node has no queue then
fated_commit : (s : State) (luck : Luck) (b : ℕ) → EmptiesAt b s (after s (steps_by_luck luck (Commit b)))
unfolding after steps_by_luck atom
fated_commit s Well b = commit_empties s b
fated_commit s (Fails kept) b = node_empties s b _ (stopped_idle (s.nodes b) kept)
fated_commit s Falls b = commit_and_kill s b
fated_commit s (Unmade bookies) b = commit_empties s b

-- A round of commits.
record EmptiesAll (bookies : List ℕ) (s t : State) : Type 0 where
  all : Empties s t
  each : AllByRecursion (λ b. has_queue (t.nodes b) ≡ false) bookies

-- so do the commits of a round, whatever the devices do
round_empties : (luck : ℕ → Luck) (i : ℕ) (s : State) (bookies : List ℕ) → EmptiesAll bookies s (after s (with_luck luck i (map Commit bookies)))
unfolding with_luck after
round_empties luck i s [] = record { all = empties_same s; each = tt }
round_empties luck i s (b ∷ more) =
    let u : State = after s (steps_by_luck (luck i) (Commit b)) in
    let rest : List Atom = with_luck luck (suc i) (map Commit more) in
    let first = fated_commit s (luck i) b in
    let later = round_empties luck (suc i) u more in
    subst (λ t. EmptiesAll (b ∷ more) s t) (sym (after-append s (steps_by_luck (luck i) (Commit b)) rest))
    (record { all = empties_then s u (after u rest) first.all later.all; each = (later.all.idle b first.here, later.each) })

-- what holds of each in a list and one more
all_but_last : (P : ℕ → Type 0) (xs : List ℕ) (x : ℕ) → AllByRecursion P (xs ++ x ∷ []) → AllByRecursion P xs × P x
all_but_last P [] x h = (tt, h.0)
all_but_last P (y ∷ ys) x h = let rest = all_but_last P ys x h.1 in ((h.0, rest.0), rest.1)

-- no node is due where all that were due have no queue, and none is fuller
none_due : (s t : State) (n : ℕ) → ((j : ℕ) → has_queue (s.nodes j) ≡ false → has_queue (t.nodes j) ≡ false)
    → AllByRecursion (λ b. has_queue (t.nodes b) ≡ false) (nodes_due s n) → nodes_due t n ≡ []
unfolding nodes_due
none_due s t zero idle each = refl
none_due s t (suc n) idle each = go (has_queue (s.nodes n)) refl each (none_due s t n idle)
  where
    go : (w : Bool) → has_queue (s.nodes n) ≡ w → AllByRecursion (λ b. has_queue (t.nodes b) ≡ false) (cond w (nodes_due s n ++ n ∷ []) (nodes_due s n))
        → (AllByRecursion (λ b. has_queue (t.nodes b) ≡ false) (nodes_due s n) → nodes_due t n ≡ [])
        → cond (has_queue (t.nodes n)) (nodes_due t n ++ n ∷ []) (nodes_due t n) ≡ []
    go true e each ih =
        let both = all_but_last (λ b. has_queue (t.nodes b) ≡ false) (nodes_due s n) n each in
        ap (λ (w : Bool). cond w (nodes_due t n ++ n ∷ []) (nodes_due t n)) both.1 ∙ ih both.0
    go false e each ih = ap (λ (w : Bool). cond w (nodes_due t n ++ n ∷ []) (nodes_due t n)) (idle n e) ∙ ih each

-- ---- the measure

-- one where a list is not empty
abbrev one_if_any : List ℕ → ℕ
one_if_any [] = 0
one_if_any (x ∷ xs) = 1

-- twice the places, of so many, that hold no letter that was delivered, and one where a node has a queue
measure : ℕ → State → ℕ
measure limit s = 2 * unmarked s.delivered limit + one_if_any (nodes_due s (bookies_of s.conf))

-- what counts for one counts for one at most
one_at_most : (xs : List ℕ) → one_if_any xs ≤ 1
one_at_most [] = omega arith
one_at_most (x ∷ xs) = omega arith

-- the measure of a state is at most that of the limit
measure_at_most : (limit : ℕ) (s : State) → measure limit s ≤ 2 * limit + 1
unfolding measure
measure_at_most limit s = omega (arith, unmarked_at_most s.delivered limit, one_at_most (nodes_due s (bookies_of s.conf)))

-- a mark more is less, whatever is due then
delivery_lowers : (limit : ℕ) (s t : State) (place : ℕ) → place < limit → s.delivered place ≡ false → t.delivered ≡ with_value s.delivered place true
    → measure limit t < measure limit s
unfolding measure
delivery_lowers limit s t place below unseen e =
    let same : unmarked t.delivered limit ≡ unmarked (with_value s.delivered place true) limit = ap (λ (f : ℕ → Bool). unmarked f limit) e in
    omega (arith, same, unmarked_marked s.delivered place limit below unseen, one_at_most (nodes_due t (bookies_of t.conf)))

-- a round of commits is less
round_lowers : (limit : ℕ) (s t : State) (b : ℕ) (more : List ℕ) → nodes_due s (bookies_of s.conf) ≡ b ∷ more → nodes_due t (bookies_of t.conf) ≡ []
    → t.delivered ≡ s.delivered
    → measure limit t < measure limit s
unfolding measure
round_lowers limit s t b more was none e =
    let same : unmarked t.delivered limit ≡ unmarked s.delivered limit = ap (λ (f : ℕ → Bool). unmarked f limit) e in
    omega (arith, same, ap one_if_any was, ap one_if_any none)

-- ---- a turn

-- a turn that delivers
delivery_falls : (luck : ℕ → Luck) (i limit : ℕ) (s : State) (place : ℕ) → next_letter s 0 s.letters ≡ Some place → length s.letters ≤ limit
    → measure limit (after s (with_luck luck i (Deliver place ∷ []))) < measure limit s
delivery_falls luck i limit s place e few =
    let d = next_is_due s 0 s.letters place e in
    let at : d.at ≡ place = omega (arith, d.same) in
    let there : slice_get s.letters place ≡ Some d.letter = subst (λ n. slice_get s.letters n ≡ Some d.letter) at d.there in
    let below : place < limit = omega (arith, slice_get_within s.letters place d.letter there, few) in
    subst (λ t. measure limit t < measure limit s) (sym (one_fated luck i s (Deliver place)))
    (delivery_lowers limit s _ place below d.unseen (fated_delivery s (luck i) place d.letter there d.takes).delivered)

-- a turn that commits
round_falls : (luck : ℕ → Luck) (i limit : ℕ) (s : State) (bookies : List ℕ) (b : ℕ) (more : List ℕ) → nodes_due s (bookies_of s.conf) ≡ bookies
    → bookies ≡ b ∷ more
    → measure limit (after s (with_luck luck i (map Commit bookies))) < measure limit s
round_falls luck i limit s bookies b more e some =
    let t : State = after s (with_luck luck i (map Commit bookies)) in
    let done = round_empties luck i s bookies in
    let each = subst (λ bs. AllByRecursion (λ j. has_queue (t.nodes j) ≡ false) bs) (sym e) done.each in
    round_lowers limit s t b more (e ∙ some)
    (ap (λ (c : Option Conf). nodes_due t (bookies_of c)) done.all.conf ∙ none_due s t (bookies_of s.conf) done.all.idle each)
    done.all.same_marks

-- commits of which there is a first one are those of some nodes
commits_some : (bookies : List ℕ) (a : Atom) (more : List Atom) → map Commit bookies ≡ a ∷ more → (b : ℕ) × ((rest : List ℕ) × (bookies ≡ b ∷ rest))
commits_some [] a more e = absurd cc
commits_some (b ∷ rest) a more e = (b, (rest, refl))

-- a turn with a step lowers the measure
turn_by_falls : (luck : ℕ → Luck) (i limit : ℕ) (s : State) (next : Option ℕ) (a : Atom) (more : List Atom) → next_letter s 0 s.letters ≡ next
    → turn_by s next ≡ a ∷ more → length s.letters ≤ limit → measure limit (after s (with_luck luck i (turn_by s next))) < measure limit s
turn_by_falls luck i limit s (Some place) a more found e few = delivery_falls luck i limit s place found few
turn_by_falls luck i limit s None a more found e few =
    let some = commits_some (nodes_due s (bookies_of s.conf)) a more e in
    round_falls luck i limit s (nodes_due s (bookies_of s.conf)) some.0 some.1.0 refl some.1.1

-- a turn that has a step makes the measure fall
turn_falls : (luck : ℕ → Luck) (i limit : ℕ) (s : State) (a : Atom) (more : List Atom) → turn s ≡ a ∷ more → length s.letters ≤ limit
    → measure limit (after s (with_luck luck i (turn s))) < measure limit s
unfolding turn
turn_falls luck i limit s a more e few = turn_by_falls luck i limit s (next_letter s 0 s.letters) a more refl e few

-- ---- all turns

-- the state that at most so many turns leave
abbrev settled_by : (ℕ → Luck) → ℕ → ℕ → State → State
settled_by luck n i s = after s (settles luck n i s)

-- no turn is left when the measure is spent
spent : (luck : ℕ → Luck) (i limit : ℕ) (s : State) (xs : List Atom) → turn s ≡ xs → measure limit s ≤ 0 → length s.letters ≤ limit → xs ≡ []
spent luck i limit s [] e low few = refl
spent luck i limit s (a ∷ more) e low few = absurd (omega (arith, turn_falls luck i limit s a more e few, low))

-- a turn, and then the rest
turn_quiet : (luck : ℕ → Luck) (n i limit : ℕ) (s : State) (xs : List Atom) → turn s ≡ xs
    → ((j : ℕ) (t : State) → measure limit t ≤ n → length (settled_by luck n j t).letters ≤ limit → turn (settled_by luck n j t) ≡ [])
    → measure limit s ≤ suc n → length (after s (goes_on s xs (with_luck luck i (turn s)) i (settles luck n))).letters ≤ limit
    → turn (after s (goes_on s xs (with_luck luck i (turn s)) i (settles luck n))) ≡ []
unfolding after
turn_quiet luck n i limit s [] e later low few = e
turn_quiet luck n i limit s (a ∷ more) e later low few =
    let now : List Atom = with_luck luck i (turn s) in
    let j : ℕ = i + length (a ∷ more) in
    let t : State = after s now in
    let rest : List Atom = settles luck n j t in
    let same = after-append s now rest in
    let few_then : length (after t rest).letters ≤ limit = subst (λ u. length u.letters ≤ limit) same few in
    let few_now : length s.letters ≤ limit = omega (arith, letters_grow s now, letters_grow t rest, few_then) in
    subst (λ u. turn u ≡ []) (sym same) (later j t (omega (arith, turn_falls luck i limit s a more e few_now, low)) few_then)

-- behind as many turns as the measure says no turn is left
quiet_by : (luck : ℕ → Luck) (n i limit : ℕ) (s : State) → measure limit s ≤ n → length (settled_by luck n i s).letters ≤ limit
    → turn (settled_by luck n i s) ≡ []
unfolding settles after
quiet_by luck zero i limit s low few = spent luck i limit s (turn s) refl low few
quiet_by luck (suc n) i limit s low few = turn_quiet luck n i limit s (turn s) refl (λ j t. quiet_by luck n j limit t) low few

-- the turns are enough
enough_turns : (m : ℕ) → m ≤ 2 * most_messages + 1 → m ≤ turn_limit
unfolding turn_limit
enough_turns m h = omega (arith, h)

-- a turn without a step is a quiet state's
no_turn_is_quiet : (xs : List Atom) → xs ≡ [] → (length xs == 0) ≡ true
no_turn_is_quiet xs e = ap (λ (ys : List Atom). length ys == 0) e

-- a settling ends quiet, which is the law
pub settling_ends_quiet : SettlingEndsQuiet
settling_ends_quiet luck s few =
    no_turn_is_quiet (turn (state_after_settling luck s))
    (quiet_by luck turn_limit 0 most_messages s (enough_turns (measure most_messages s) (measure_at_most most_messages s)) few)
