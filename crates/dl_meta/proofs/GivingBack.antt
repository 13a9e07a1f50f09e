-- Bytes that hold the items of a node are loaded as that node.
use Rattle.std.proofs.Common.{◌≡◌, ◌⊎◌, inl, inr, ℕ, ◌+◌, ◌<◌, true, List, [], ◌∷◌, ◌++◌, length, Result, Ok, Err, sym, ap, ◌∙◌, subst, refl, arith}
use Rattle.std.proofs.Common.{length-append}
use Rattle.dl_journal.specs.declared.batch.Batch.{Batch}
use Rattle.dl_journal.specs.Batches.{magic, spell, InForce}
use Rattle.dl_journal.proofs.OneWay.{one_list, not_both, one_place}
use Rattle.dl_rules_nodes.specs.Items.{MetaItem}
use Rattle.dl_rules_nodes.specs.Metadata.{MetaNode, nothing}
use Rattle.dl_rules_nodes.specs.MetaOrder.{AreInOrder, bodies_of}
use Rattle.dl_rules_nodes.specs.Loads.{◌>>=◌, meta_items_at, loaded_meta}
use Rattle.dl_rules_nodes.proofs.MetaItemLaws.{meta_lists_are_exact}
use Rattle.dl_meta.specs.Standing.{numbered, batches_of, HoldsItems}
use Rattle.dl_meta.specs.Loading.{bodies_in, HoldsNone, IsDamagedAt}
use Rattle.dl_meta.specs.Laws.{IsOnly, GivesBack, DamageIsOne}
use Rattle.dl_meta.proofs.Files.{length-bodies}

-- numbers leave the bodies
bodies_stay : (first : ℕ) (bodies : List (List ℕ)) → bodies_in (numbered first bodies) ≡ bodies
bodies_stay first [] = refl
bodies_stay first (b ∷ bodies) = ap (λ (l : List (List ℕ)). b ∷ l) (bodies_stay (first + 1) bodies)

-- batches that are the same have the same bodies
same_bodies : (f g : ℕ) (bs cs : List (List ℕ)) → numbered f bs ≡ numbered g cs → bs ≡ cs
same_bodies f g bs cs e = sym (bodies_stay f bs) ∙ ap bodies_in e ∙ bodies_stay g cs

-- the number of the first batch
first_in : List Batch → ℕ
first_in [] = 0
first_in (b ∷ bs) = b.number

-- and the same first number
same_first : (f g : ℕ) (bs cs : List (List ℕ)) → numbered f bs ≡ numbered g cs → 0 < length bs → f ≡ g
unfolding first_in
same_first f g [] cs e some = absurd (omega arith)
same_first f g (b ∷ bs) [] e some = absurd (cc e)
same_first f g (b ∷ bs) (c ∷ cs) e some = ap first_in e

-- what is read of the bodies of items in order
again : (first : ℕ) (bodies : List (List ℕ)) (n : MetaNode) → AreInOrder n.items → bodies ≡ bodies_of n.items
    → loaded_meta first bodies ≡ Ok (record n { first = first })
again first bodies n order e = ap (loaded_meta first) e ∙ meta_lists_are_exact.again first n.items order

-- no reading gives both a node and a fault
differ : {A : Type 0} (n : MetaNode) (at : ℕ) (r : Result MetaNode ℕ) → r ≡ Ok n → r ≡ Err at → A
differ n at r e f = absurd (cc (e, f))

-- a reading gives one node
same_node : (m n : MetaNode) (r : Result MetaNode ℕ) → r ≡ Ok m → r ≡ Ok n → m ≡ n
same_node m n r e f = cc

-- bytes with the items of a node are whole, not empty, and of no other node
pub gives_back : GivesBack
unfolding HoldsItems batches_of
gives_back n bytes order some holds = record { whole = whole; some = held; only = only }
  where
    -- any list in force is that of the node
    is_list : (batches : List Batch) → InForce bytes batches → batches ≡ numbered n.first (bodies_of n.items)
    is_list batches in_force = one_list bytes batches (numbered n.first (bodies_of n.items)) in_force holds.in_force

    whole : (at : ℕ) → IsDamagedAt bytes at → ⊥
    whole at (no_bytes, inl breaks) = not_both bytes (numbered n.first (bodies_of n.items)) at holds.in_force breaks
    whole at (no_bytes, inr b) =
        let bodies : bodies_in b.batches ≡ bodies_of n.items = same_bodies b.first n.first (bodies_in b.batches) (bodies_of n.items)
        (is_list (numbered b.first (bodies_in b.batches)) b.in_force.in_force) in
        differ (record n { first = b.first }) at (loaded_meta b.first (bodies_in b.batches)) (again b.first (bodies_in b.batches) n order bodies) b.broken

    count : length (bodies_of n.items) ≡ length n.items
    count = length-bodies n.items

    held : HoldsNone bytes → ⊥
    held (inl e) = let k = holds.in_force.spells in
        let no_length : 0 ≡ length (magic ++ (spell (numbered n.first (bodies_of n.items)) ++ k.gate ∷ k.free)) = ap length (sym e ∙ k.spelled) in
        omega (arith, no_length, length-append magic (spell (numbered n.first (bodies_of n.items)) ++ k.gate ∷ k.free))
    held (inr j) =
        let none : bodies_of n.items ≡ [] = sym (bodies_stay n.first (bodies_of n.items)) ∙ ap bodies_in (sym (is_list [] j.in_force)) in
        omega (arith, ap length none, count, some)

    only : (m : MetaNode) → AreInOrder m.items → HoldsItems m bytes → m ≡ n
    only m order_m holds_m =
        let lists : numbered m.first (bodies_of m.items) ≡ numbered n.first (bodies_of n.items) =
        is_list (numbered m.first (bodies_of m.items)) holds_m.in_force in
        let bodies : bodies_of m.items ≡ bodies_of n.items = same_bodies m.first n.first (bodies_of m.items) (bodies_of n.items) lists in
        let first : n.first ≡ m.first = same_first n.first m.first (bodies_of n.items) (bodies_of m.items) (sym lists) (omega (arith, count, some)) in
        same_node m n (loaded_meta m.first (bodies_of m.items)) (meta_lists_are_exact.again m.first m.items order_m)
        (subst (λ k. loaded_meta k (bodies_of m.items) ≡ Ok n) first (again n.first (bodies_of m.items) n order bodies))

-- ---- damage

-- a node of items that were read
abbrev node_at : ℕ → List MetaItem → Result MetaNode ℕ
node_at first items = Ok (record { first = first; items = items })

-- bodies that give no node have an item that is refused
refused : (first : ℕ) (r : Result (List MetaItem) ℕ) (at : ℕ) → (r >>= node_at first) ≡ Err at → r ≡ Err at
refused first (Ok items) at e = absurd (cc e)
refused first (Err place) at e = let same : place ≡ at = cc in ap (λ (n : ℕ). Err n) same

-- at a place that no number moves
same_place : (f g : ℕ) (bodies : List (List ℕ)) (a b : ℕ) → loaded_meta f bodies ≡ Err a → loaded_meta g bodies ≡ Err b → a ≡ b
unfolding loaded_meta
same_place f g bodies a b e k =
    let x = refused f (meta_items_at 8 true nothing [] bodies) a e in
    let y = refused g (meta_items_at 8 true nothing [] bodies) b k in
    cc (x, y)

-- and no bodies are read
none_read : (first at : ℕ) → loaded_meta first [] ≡ Err at → ⊥
unfolding loaded_meta meta_items_at
none_read first at e = cc e

-- bytes are damaged at one place
one_damage : (bytes : List ℕ) (a b : ℕ) → IsDamagedAt bytes a → IsDamagedAt bytes b → a ≡ b
one_damage bytes a b (some, inl x) (more, inl y) = one_place bytes a b x y
one_damage bytes a b (some, inl x) (more, inr y) = absurd (not_both bytes (numbered y.first (bodies_in y.batches)) a y.in_force.in_force x)
one_damage bytes a b (some, inr x) (more, inl y) = absurd (not_both bytes (numbered x.first (bodies_in x.batches)) b x.in_force.in_force y)
one_damage bytes a b (some, inr x) (more, inr y) =
    let lists = one_list bytes (numbered x.first (bodies_in x.batches)) (numbered y.first (bodies_in y.batches)) x.in_force.in_force y.in_force.in_force in
    let bodies : bodies_in x.batches ≡ bodies_in y.batches = same_bodies x.first y.first (bodies_in x.batches) (bodies_in y.batches) lists in
    same_place x.first y.first (bodies_in y.batches) a b (subst (λ (l : List (List ℕ)). loaded_meta x.first l ≡ Err a) bodies x.broken) y.broken

-- bytes that hold no item are whole
none_is_whole : (bytes : List ℕ) (at : ℕ) → HoldsNone bytes → IsDamagedAt bytes at → ⊥
none_is_whole bytes at (inl e) d = d.0 e
none_is_whole bytes at (inr j) (some, inl breaks) = not_both bytes [] at j.in_force breaks
none_is_whole bytes at (inr j) (some, inr b) =
    let lists = one_list bytes (numbered b.first (bodies_in b.batches)) [] b.in_force.in_force j.in_force in
    let none : bodies_in b.batches ≡ [] = sym (bodies_stay b.first (bodies_in b.batches)) ∙ ap bodies_in lists in
    none_read b.first at (subst (λ (l : List (List ℕ)). loaded_meta b.first l ≡ Err at) none b.broken)

-- both, as a law
pub damage_is_one : DamageIsOne
damage_is_one = record { one_place = one_damage; whole = none_is_whole }
