-- The node of a closed ledger stays, where nobody marks or closes it who read that it isn't closed.
use Rattle.std.proofs.Common.{◌≡◌, ℕ, ◌<◌, Bool, true, false, not, ◌&&◌, ◌==◌, List, ◌∷◌, Option, Some, None, refl, sym, ap, ◌∙◌, subst, arith, eqb-true}
use Rattle.std.proofs.lemmas.Option.{same_Some, none-some}
use Rattle.dl_types.specs.declared.meta_answer.MetaAnswer.{MetaAnswer}
use Rattle.dl_fields.specs.Digits.{HasTenDigits}
use Rattle.dl_formats.specs.Keys.{Ledger}
use Rattle.dl_tree.specs.declared.node.Node.{Node}
use Rattle.dl_tree.specs.Trees.{Nodes}
use Rattle.dl_rules_nodes.specs.Items.{MetaItem}
use Rattle.dl_rules_stream.specs.Requests.{Request, MakeStream, MakeAgain, RemoveStream, MakeMember, ListMembers, LeaveLock, Look, MakeLedger, TakeLedger}
use Rattle.dl_rules_stream.specs.Requests.{StartSegment, GetSegment, GetLedger, MarkLedger, CloseLedger, CompleteSegment, ListCut, LookCut, SetCut}
use Rattle.dl_rules_stream.specs.Requests.{DropSegment}
use Rattle.dl_law_meta.specs.Keyed.{node}
use Rattle.dl_law_meta.specs.Effects.{IsInForm, Leaves, LedgerSet}
use Rattle.dl_law_meta.specs.Histories.{tree_of, node_after, WhileNamed, IsNotClosed, Supposes, AreRequests, AreSupposed}
use Rattle.dl_law_meta.specs.Laws.{ledgers_made, IsClosed, IsSameOrGone, ClosedLedgersStay}
use Rattle.dl_law_meta.proofs.Moves.{each_moves, owners_are}
use Rattle.dl_law_meta.proofs.Steps.{kept, older_are, any_are, Step, begins, rests, asks, item_step}
use Rattle.dl_law_meta.proofs.Stays.{counter_step, ledger_given, gone_moves}

-- two numbers are the same, or keys of them are apart
by_number : {A : Type 0} (l m : ℕ) → (l ≡ m → A) → ((not (l == m) && true) ≡ true → A) → A
by_number {A = A} l m same apart = go (l == m) refl
  where
    go : (b : Bool) → (l == m) ≡ b → A
    go true e = same (eqb-true l m e)
    go false e = apart (ap (λ (x : Bool). not x && true) e)

module _ (t u : Nodes) (l : ℕ) (ten : HasTenDigits l) (n : Node) (there : node t (Ledger l) ≡ Some n) (closed : IsClosed n) where
  unchanged : node u (Ledger l) ≡ node t (Ledger l) → IsSameOrGone n (node u (Ledger l))
  unchanged e = subst (IsSameOrGone n) (sym (e ∙ there)) refl

  deleted : (k : ℕ) → l ≡ k → node u (Ledger k) ≡ None → IsSameOrGone n (node u (Ledger l))
  deleted k e g = subst (IsSameOrGone n) (sym (ap (λ (x : ℕ). node u (Ledger x)) e ∙ g)) tt

  not_it : (k version : ℕ) (bytes : List ℕ) (a : MetaAnswer) → WhileNamed t (Ledger k) version IsNotClosed → LedgerSet t u k version bytes a → l ≡ k → ⊥
  not_it k version bytes a open_ x e =
      let here : node t (Ledger k) ≡ Some n = ap (λ (y : ℕ). node t (Ledger y)) (sym e) ∙ there in
      open_ n here (ap (λ (y : Node). y.version) (same_Some n x.now.old (sym here ∙ x.now.was)) ∙ x.now.fitting) closed

  set_elsewhere : (k version : ℕ) (bytes : List ℕ) (a : MetaAnswer) → WhileNamed t (Ledger k) version IsNotClosed → LedgerSet t u k version bytes a
      → IsSameOrGone n (node u (Ledger l))
  set_elsewhere k version bytes a open_ x = by_number l k (λ e. absurd (not_it k version bytes a open_ x e)) (λ e. unchanged (x.others.same (Ledger l) ten e))

  closed_leaves : (session : ℕ) (r : Request) (a : MetaAnswer) → IsInForm r → Supposes t r → Leaves t session r a u → IsSameOrGone n (node u (Ledger l))
  closed_leaves session (MakeStream s) a f p x = unchanged (x.others.same (Ledger l) ten refl)
  closed_leaves session (MakeAgain s) a f p x = unchanged (x.others.same (Ledger l) ten refl)
  closed_leaves session (RemoveStream s) a f p x = unchanged (x.others.same (Ledger l) ten refl)
  closed_leaves session (MakeMember s) a f p x = unchanged (x.others.same (Ledger l) ten refl)
  closed_leaves session (ListMembers s) a f p x = unchanged (ap (λ (v : Nodes). node v (Ledger l)) x.same)
  closed_leaves session (LeaveLock member) a f p x = unchanged ((x f.stream f.number f.key f.path).others.same (Ledger l) ten refl)
  closed_leaves session (Look s) a f p x = unchanged (ap (λ (v : Nodes). node v (Ledger l)) x.same)
  closed_leaves session (MakeLedger q) a f p x =
      by_number l x.number (λ e. absurd (none-some n (sym x.ledger.free ∙ ap (λ (y : ℕ). node t (Ledger y)) (sym e) ∙ there)))
      (λ e. unchanged (x.others.same (Ledger l) ten e))
  closed_leaves session (TakeLedger s member None version ledger) a f p x = unchanged (x.others.same (Ledger l) ten refl)
  closed_leaves session (TakeLedger s member (Some old) version ledger) a f p x =
      by_number l old (λ e. deleted old e x.dropped.now) (λ e. unchanged (x.others.same (Ledger l) ten e))
  closed_leaves session (StartSegment b) a f p x = unchanged (x.others.same (Ledger l) ten refl)
  closed_leaves session (GetSegment s segment) a f p x = unchanged (ap (λ (v : Nodes). node v (Ledger l)) x.same)
  closed_leaves session (GetLedger ledger) a f p x = unchanged (ap (λ (v : Nodes). node v (Ledger l)) x.same)
  closed_leaves session (MarkLedger ledger q version) a f p x = set_elsewhere ledger version _ a p x
  closed_leaves session (CloseLedger ledger q count version) a f p x = set_elsewhere ledger version _ a p x
  closed_leaves session (CompleteSegment c) a f p x = unchanged (x.others.same (Ledger l) ten refl)
  closed_leaves session (ListCut s) a f p x = unchanged (ap (λ (v : Nodes). node v (Ledger l)) x.same)
  closed_leaves session (LookCut s) a f p x = unchanged (ap (λ (v : Nodes). node v (Ledger l)) x.same)
  closed_leaves session (SetCut s point version) a f p x = unchanged (x.others.same (Ledger l) ten refl)
  closed_leaves session (DropSegment s segment ledger) a f p x =
      by_number l ledger (λ e. deleted ledger e x.ledger_gone.now) (λ e. unchanged (x.others.same (Ledger l) ten e))

  closed_step : Step Supposes t u → IsSameOrGone n (node u (Ledger l))
  closed_step (begins c none first) = absurd (none-some n (sym (none (Ledger l)) ∙ there))
  closed_step (rests same) = unchanged (same (Ledger l) ten (λ m. m))
  closed_step (asks session r a f p x) = closed_leaves session r a f p x

module _ (l : ℕ) (ten : HasTenDigits l) (n : Node) (closed : IsClosed n) where
  abbrev Lasts : List MetaItem → Type 0
  Lasts items = (l < ledgers_made items) × IsSameOrGone n (node_after items (Ledger l))

  lasts_step : (x : MetaItem) (older : List MetaItem) → AreSupposed (x ∷ older) → Lasts older → Lasts (x ∷ older)
  lasts_step x older h f = (omega (arith, f.0, counter_step x older any), go (node_after older (Ledger l)) refl f.1)
    where
      any : AreRequests (x ∷ older)
      any = any_are Supposes (x ∷ older) h

      go : (o : Option Node) → node_after older (Ledger l) ≡ o → IsSameOrGone n o → IsSameOrGone n (node_after (x ∷ older) (Ledger l))
      go None e s = subst (IsSameOrGone n) (sym (gone_moves (tree_of older) (tree_of (x ∷ older)) l _ _ (each_moves x older (Ledger l) any ten) f.0 e)) tt
      go (Some m) e s =
          closed_step (tree_of older) (tree_of (x ∷ older)) l ten n (e ∙ ap (λ (y : Node). Some y) s) closed
          (item_step Supposes x older (owners_are older (any_are Supposes older h.1)) h)

-- the node of a ledger that is closed keeps its bytes
pub closed_stay : ClosedLedgersStay
closed_stay newer older l n h ten e closed =
    (kept Supposes (Lasts l ten n closed) (lasts_step l ten n closed) newer older h
    (ledger_given older l (any_are Supposes older (older_are Supposes newer older h)) ten n e, subst (IsSameOrGone n) (sym e) refl)).1
