-- A creation, by the steps that it takes: the parent's counter, and then the new node.
use Rattle.std.proofs.Common.{◌≡◌, ℕ, Bool, true, false, ◌&&◌, ◌^◌, nat_le, List, Some, Ok, Err, is_some, sym, ap, ◌∙◌}
use Rattle.std.proofs.lemmas.Bool.{cond-true, cond-false}
use Rattle.std.specs.FinMap.{get, insert}
use Rattle.dl_types.specs.declared.mode.Mode.{Mode}
use Rattle.dl_types.specs.declared.one_answer.OneAnswer.{OneAnswer}
use Rattle.dl_types.specs.declared.one_answer.OneAnswer.TheVariants.{Made}
use Rattle.dl_types.specs.declared.why.Why.TheVariants.{NodeExists}
use Rattle.dl_tree.specs.declared.node.Node.{Node}
use Rattle.dl_tree.specs.Paths.{parent_of}
use Rattle.dl_tree.specs.Trees.{Nodes, Outcome, child_outcome, is_counted, made_path, parent_after, new_node}
use Rattle.dl_tree.proofs.MapLemmas.{same_places}

-- an answer with the tree that is left
abbrev done : OneAnswer → Nodes → Outcome
done answer t = Ok (answer, t)

-- a parent takes a new node in a mode
pub record Takes (mode : Mode) (parent : Node) : Type 0 where
  pub lasts : is_some parent.owner ≡ false
  pub left : (is_counted mode && nat_le (10 ^ 10) parent.counter) ≡ false

-- a node is where it was seen before the parent's counter was raised
seen_before : (t : Nodes) (one : Nodes × Nodes) (above made p : List ℕ) (mode : Mode) (parent : Node) (was b : Bool) → get t above ≡ Some parent
    → one.0 ≡ insert t above (parent_after mode parent) → made ≡ p → was ≡ is_some (get one.0 made) → was ≡ b → is_some (get t p) ≡ b
seen_before t one above made p mode parent was b there up is seen e =
    sym (same_places t above parent (parent_after mode parent) p there) ∙ ap (λ (u : Nodes). is_some (get u p)) (sym up)
    ∙ ap (λ (q : List ℕ). is_some (get one.0 q)) (sym is) ∙ sym seen ∙ e

-- a creation where a node is fails
pub create_taken : (t : Nodes) (one : Nodes × Nodes) (session : ℕ) (path bytes above made : List ℕ) (mode : Mode) (parent : Node) (was : Bool) → Takes mode parent
    → get t above ≡ Some parent → one.0 ≡ insert t above (parent_after mode parent) → made ≡ made_path path mode parent
    → was ≡ is_some (get one.0 made) → was ≡ true → child_outcome t session path bytes mode parent ≡ Err NodeExists
unfolding child_outcome
create_taken t one session path bytes above made mode parent was takes there up is seen e =
    cond-false _ _ _ takes.lasts ∙ cond-false _ _ _ takes.left
    ∙ cond-true _ _ _ (seen_before t one above made (made_path path mode parent) mode parent was true there up is seen e)

-- a creation where no node is leaves the raised parent and the new node
pub create_made : (t : Nodes) (one : Nodes × Nodes) (two : Nodes) (session : ℕ) (path bytes above made : List ℕ) (mode : Mode) (parent n : Node) (was : Bool)
    → Takes mode parent → above ≡ parent_of path → get t above ≡ Some parent → one.0 ≡ insert t above (parent_after mode parent)
    → made ≡ made_path path mode parent → was ≡ is_some (get one.0 made) → was ≡ false → n ≡ new_node bytes mode session → two ≡ insert one.0 made n
    → child_outcome t session path bytes mode parent ≡ Ok (Made made, two)
unfolding child_outcome
create_made t one two session path bytes above made mode parent n was takes over there up is seen e new put =
    cond-false _ _ _ takes.lasts ∙ cond-false _ _ _ takes.left
    ∙ cond-false _ _ _ (seen_before t one above made (made_path path mode parent) mode parent was false there up is seen e)
    ∙ ap (λ (p : List ℕ). done (Made p) (insert (insert t (parent_of path) (parent_after mode parent)) p (new_node bytes mode session))) (sym is)
    ∙ ap (λ (q : List ℕ). done (Made made) (insert (insert t q (parent_after mode parent)) made (new_node bytes mode session))) (sym over)
    ∙ ap (λ (m : Node). done (Made made) (insert (insert t above (parent_after mode parent)) made m)) (sym new)
    ∙ ap (λ (u : Nodes). done (Made made) (insert u made n)) (sym up) ∙ ap (done (Made made)) (sym put)
