-- One item as a step: the configuration, a step that leaves all but members, or a request that is done.
use Rattle.std.proofs.Common.{◌≡◌, ℕ, cond, not, List, [], ◌∷◌, ◌++◌, Option, Some, None, refl, sym, ap, ◌∙◌, subst}
use Rattle.dl_types.specs.declared.meta_op.MetaOp.{MetaOp}
use Rattle.dl_types.specs.declared.meta_answer.MetaAnswer.{MetaAnswer}
use Rattle.dl_types.specs.declared.meta_answer.MetaAnswer.TheVariants as answer
use Rattle.dl_formats.specs.declared.conf.Conf as conf
use Rattle.dl_formats.specs.Keys.{Key, path_of, IsKey}
use Rattle.dl_tree.specs.declared.node.Node.{Node}
use Rattle.dl_tree.specs.Trees.{Nodes, after_request, is_owned, is_owner, without_session}
use Rattle.dl_tree.proofs.LawLemmas.{get-without_session}
use Rattle.dl_rules_nodes.specs.Items.{MetaItem, Setup, Connect, Expire, Ask}
use Rattle.dl_rules_nodes.specs.Metadata.{does, meta_from}
use Rattle.dl_rules_stream.specs.Requests.{Request}
use Rattle.dl_law_meta.specs.Keyed.{node}
use Rattle.dl_law_meta.specs.Effects.{answer_to, tree_after, IsInForm, Leaves, LeavesBy}
use Rattle.dl_law_meta.specs.Histories.{tree_of, IsItemBehind, AreItemsBy, IsAny, AreRequests}
use Rattle.dl_law_meta.specs.Laws.{IsFirstTree, IsMemberKey}
use Rattle.dl_law_meta.proofs.Requests.{each_leaves}
use Rattle.dl_law_meta.proofs.Moves.{OwnersAreMembers, root_none, configuration}

-- a fact that each further item keeps
pub kept : (P : Nodes → Request → Type 0) (F : List MetaItem → Type 0)
    → ((x : MetaItem) (older : List MetaItem) → AreItemsBy P (x ∷ older) → F older → F (x ∷ older))
    → (newer older : List MetaItem) → AreItemsBy P (newer ++ older) → F older → F (newer ++ older)
kept P F step [] older h f = f
kept P F step (x ∷ newer) older h f = step x (newer ++ older) h (kept P F step newer older h.1 f)

-- the older items are items too
pub older_are : (P : Nodes → Request → Type 0) (newer older : List MetaItem) → AreItemsBy P (newer ++ older) → AreItemsBy P older
older_are P [] older h = h
older_are P (x ∷ newer) older h = older_are P newer older h.1

-- an item that keeps more keeps what any does
any_item : (P : Nodes → Request → Type 0) (older : List MetaItem) (x : MetaItem) → IsItemBehind P older x → IsItemBehind IsAny older x
any_item P older (Setup c) h = h
any_item P older (Connect session) h = h
any_item P older (Expire session) h = h
any_item P older (Ask session number o) h = record { request = h.request; is = h.is; form = h.form; passes = tt }

-- items whose requests pass a test are items whose operations are those of requests
pub any_are : (P : Nodes → Request → Type 0) (items : List MetaItem) → AreItemsBy P items → AreRequests items
any_are P [] h = h
any_are P (x ∷ older) h = (any_item P older x h.0, any_are P older h.1)

-- what an item does
pub data Step (P : Nodes → Request → Type 0) (t u : Nodes) : Type 0 where
  begins : (c : conf.Conf) → ((k : Key) → node t k ≡ None) → IsFirstTree c u → Step P t u
  rests : ((k : Key) → IsKey k → (IsMemberKey k → ⊥) → node u k ≡ node t k) → Step P t u
  asks : (session : ℕ) (r : Request) (a : MetaAnswer) → IsInForm r → P t r → Leaves t session r a u → Step P t u

-- a request with its answer is a step
answer_step : (P : Nodes → Request → Type 0) (t u : Nodes) (session : ℕ) (r : Request) (a : MetaAnswer) → IsInForm r → P t r → LeavesBy t session r a u
    → Step P t u
answer_step P t u session r (answer.One y) f p x = asks session r (answer.One y) f p x
answer_step P t u session r (answer.Many ys) f p x = asks session r (answer.Many ys) f p x
answer_step P t u session r (answer.Failed place why) f p x = rests (λ k g m. ap (λ (v : Nodes). node v k) x)

-- the tree that a request leaves is a step behind
request_step : (P : Nodes → Request → Type 0) (t : Nodes) (session : ℕ) (r : Request) → IsInForm r → P t r → Step P t (tree_after t session r)
request_step P t session r f p = answer_step P t (tree_after t session r) session r (answer_to t session r) f p (each_leaves t session r f)

-- a session's end leaves what is no member
unowned_by : (session : ℕ) (n : Node) (owner : Option ℕ) → ((j : ℕ) → owner ≡ Some j → ⊥) → cond (not (is_owner session owner)) (Some n) None ≡ Some n
unowned_by session n None none = refl
unowned_by session n (Some j) none = absurd (none j refl)

-- a node that is no member's has no owner
unowned : (t : Nodes) (session : ℕ) (k : Key) (o : Option Node) → node t k ≡ o → OwnersAreMembers t → IsKey k → (IsMemberKey k → ⊥)
    → cond (not (is_owned session o)) o None ≡ o
unowned t session k None is owners g other = refl
unowned t session k (Some n) is owners g other = unowned_by session n n.owner (λ j e. other (owners k n j g is e))

-- the end of a session leaves the nodes that are no member's
end_same : (t : Nodes) (session : ℕ) (k : Key) → OwnersAreMembers t → IsKey k → (IsMemberKey k → ⊥) → node (without_session t session) k ≡ node t k
end_same t session k owners g other = get-without_session t session (path_of k) ∙ unowned t session k (node t k) refl owners g other

-- each item is a step
pub item_step : (P : Nodes → Request → Type 0) (x : MetaItem) (older : List MetaItem) → OwnersAreMembers (tree_of older) → AreItemsBy P (x ∷ older)
    → Step P (tree_of older) (tree_of (x ∷ older))
unfolding meta_from does
item_step P (Setup c) older owners h = begins c (λ k. subst (λ (ys : List MetaItem). node (tree_of ys) k ≡ None) (sym h.0) (root_none k)) (configuration c)
item_step P (Connect session) older owners h = rests (λ k g m. refl)
item_step P (Expire session) older owners h = rests (λ k g m. end_same (tree_of older) session k owners g m)
item_step P (Ask session number o) older owners h =
    subst (λ (p : MetaOp). Step P (tree_of older) (after_request (tree_of older) session p).1) (sym h.0.is)
    (request_step P (tree_of older) session h.0.request h.0.form h.0.passes)
