-- The batches of items, and one more.
use Rattle.std.proofs.Common.{◌≡◌, ℕ, ◌+◌, List, [], ◌∷◌, ◌++◌, length, sym, ap, ◌∙◌, refl, arith, length-append}
use Rattle.dl_journal.specs.declared.batch.Batch.{Batch}
use Rattle.dl_rules_nodes.specs.Items.{MetaItem, meta_item_bytes}
use Rattle.dl_rules_nodes.specs.Metadata.{MetaNode, with_item}
use Rattle.dl_rules_nodes.specs.MetaOrder.{bodies_of}
use Rattle.dl_meta.specs.Standing.{numbered, batches_of}

-- there are as many bodies as items
pub length-bodies : (items : List MetaItem) → length (bodies_of items) ≡ length items
length-bodies [] = refl
length-bodies (x ∷ older) = omega (arith, length-append (bodies_of older) (meta_item_bytes x ∷ []), length-bodies older)

-- one more body has the next number
pub numbered-push : (first : ℕ) (bodies : List (List ℕ)) (body : List ℕ) (next : ℕ) → next ≡ first + length bodies
    → numbered first bodies ++ (record { number = next; body = body }) ∷ [] ≡ numbered first (bodies ++ body ∷ [])
numbered-push first [] body next e = ap (λ n. (record { number = n; body = body }) ∷ []) (let k : next ≡ first = omega (arith, e) in k)
numbered-push first (b ∷ bodies) body next e =
    ap (λ (l : List Batch). (record { number = first; body = b }) ∷ l) (numbered-push (first + 1) bodies body next (omega (arith, e)))

-- one more item is one more batch
pub batches-push : (n : MetaNode) (x : MetaItem) (next : ℕ) → next ≡ n.first + length n.items
    → batches_of n ++ (record { number = next; body = meta_item_bytes x }) ∷ [] ≡ batches_of (with_item n x)
unfolding batches_of
batches-push n x next e = numbered-push n.first (bodies_of n.items) (meta_item_bytes x) next (omega (arith, e, length-bodies n.items))
