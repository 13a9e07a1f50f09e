-- The bodies of a journal are read one by one.
use Rattle.std.proofs.Common.{◌≡◌, ℕ, zero, suc, ◌+◌, ◌≤◌, ◌<◌, ◌==◌, Bool, true, false, List, [], ◌∷◌, ◌++◌, length, map, drop, get_or, Result, Ok, Err, sym}
use Rattle.std.proofs.Common.{ap, ◌∙◌, subst, refl, arith, append_assoc, length-append, add-one}
use Rattle.std.proofs.lemmas.List.{append-nil, drop_more}
use Rattle.std.proofs.Math.Seq.{drop-cons}
use Rattle.std.proofs.lemmas.Bool.Decides.{nat_tests}
use Rattle.dl_fields.specs.declared.fault.Fault.{Fault}
use Rattle.dl_journal.specs.declared.batch.Batch.{Batch}
use Rattle.dl_journal.specs.Batches.{frame_of, spell, Runs}
use Rattle.dl_journal.proofs.Bytes.{length-framed}
use Rattle.dl_rules_nodes.specs.Items.{MetaItem, meta_item_bytes, meta_item_length}
use Rattle.dl_rules_nodes.specs.Metadata.{Meta, MetaNode, nothing, does, meta_from, meta_of, meta_gate}
use Rattle.dl_rules_nodes.specs.Reading.{with_place}
use Rattle.dl_rules_nodes.specs.MetaReading.{meta_item_in}
use Rattle.dl_rules_nodes.specs.MetaOrder.{IsDue, is_first_behind, AreInOrder, bodies_of}
use Rattle.dl_rules_nodes.specs.Loads.{◌>>=◌, meta_items_at, loaded_meta}
use Rattle.dl_meta.specs.Standing.{numbered}
use Rattle.dl_meta.specs.Loading.{bodies_in, span, DoesItem, DoesItems}

-- Behind so many bodies these items were read and done, and reading goes on at this place of the file.
pub record Reached (bodies : List (List ℕ)) (i at : ℕ) (m : Meta) : Type 0 where
  pub older : List MetaItem
  pub meta : m ≡ meta_of older
  pub first : is_first_behind older ≡ (i == 0)
  pub in_order : AreInOrder older
  pub spelt : bodies ≡ bodies_of older ++ drop i bodies
  pub rest : meta_items_at at (is_first_behind older) (meta_of older) older (drop i bodies) ≡ meta_items_at 8 true nothing [] bodies
  pub size : at + span (drop i bodies) ≡ 8 + span bodies

-- before the first body
pub begins : (bodies : List (List ℕ)) (m : Meta) → m ≡ nothing → Reached bodies 0 8 m
unfolding meta_from
begins bodies m e = record { older = []; meta = e; first = refl; in_order = tt; spelt = refl; rest = refl; size = refl }

-- an item that was read
item_read : (at : ℕ) (is_first : Bool) (m : Meta) (older : List MetaItem) (body : List ℕ) (more : List (List ℕ)) (x : MetaItem)
    → with_place (at + 13 + length body) (meta_item_in is_first m.sessions body) ≡ Ok x
    → meta_items_at at is_first m older (body ∷ more) ≡ meta_items_at (at + 13 + length body) false (does m x) (x ∷ older) more
unfolding meta_items_at
item_read at is_first m older body more x e = rw e refl

-- one that was refused
item_refused : (at : ℕ) (is_first : Bool) (m : Meta) (older : List MetaItem) (body : List ℕ) (more : List (List ℕ)) (place : ℕ)
    → with_place (at + 13 + length body) (meta_item_in is_first m.sessions body) ≡ Err place → meta_items_at at is_first m older (body ∷ more) ≡ Err place
unfolding meta_items_at
item_refused at is_first m older body more place e = rw e refl

-- behind the last body the items are all
at_end : (at : ℕ) (is_first : Bool) (m : Meta) (older : List MetaItem) → meta_items_at at is_first m older [] ≡ Ok older
unfolding meta_items_at
at_end at is_first m older = refl

-- what is still to come begins with the next body
next_body : (i : ℕ) (bodies : List (List ℕ)) (body : List ℕ) → i < length bodies → body ≡ get_or bodies i body → drop i bodies ≡ body ∷ drop (i + 1) bodies
next_body i bodies body within is = drop_more bodies i body within ∙ ap (λ (b : List ℕ). b ∷ drop (i + 1) bodies) (sym is)

-- how many bytes are still to come
pub room_left : (bodies : List (List ℕ)) (i at : ℕ) (m : Meta) (body : List ℕ) → Reached bodies i at m → i < length bodies → body ≡ get_or bodies i body
    → at + 13 + length body ≤ 8 + span bodies
room_left bodies i at m body r within is = let e : span (drop i bodies) ≡ 13 + length body + span (drop (i + 1) bodies) = ap span
    (next_body i bodies body within is) in omega (arith, e, r.size)

-- one body more
pub goes_on : (bodies : List (List ℕ)) (i at : ℕ) (m n : Meta) (body : List ℕ) → Reached bodies i at m → i < length bodies → body ≡ get_or bodies i body
    → DoesItem (at + 13 + length body) (i == 0) body m n → Reached bodies (i + 1) (at + 13 + length body) n
unfolding meta_from
goes_on bodies i at m n body r within is d =
    let next : drop i bodies ≡ body ∷ drop (i + 1) bodies = next_body i bodies body within is in
    let due : IsDue (is_first_behind r.older) (meta_of r.older).sessions d.item =
    subst (λ (b : Bool). IsDue b (meta_of r.older).sessions d.item) (sym r.first) (subst (λ (k : Meta). IsDue (i == 0) k.sessions d.item) r.meta d.due) in
    let read : with_place (at + 13 + length body) (meta_item_in (is_first_behind r.older) (meta_of r.older).sessions body) ≡ Ok d.item =
    subst (λ (b : Bool). with_place (at + 13 + length body) (meta_item_in b (meta_of r.older).sessions body) ≡ Ok d.item) (sym r.first)
    (subst (λ (k : Meta). with_place (at + 13 + length body) (meta_item_in (i == 0) k.sessions body) ≡ Ok d.item) r.meta d.read) in
    record {
      older = d.item ∷ r.older;
      meta = d.meta ∙ ap (λ (k : Meta). does k d.item) r.meta;
      first = grind (arith, nat_tests);
      in_order = (due, r.in_order);
      spelt = r.spelt ∙ ap (λ (l : List (List ℕ)). bodies_of r.older ++ l) next ∙ ap (λ (b : List ℕ). bodies_of r.older ++ (b ∷ drop (i + 1) bodies)) d.spelt
          ∙ sym (append_assoc (bodies_of r.older) (meta_item_bytes d.item ∷ []) (drop (i + 1) bodies));
      rest = sym (item_read at (is_first_behind r.older) (meta_of r.older) r.older body (drop (i + 1) bodies) d.item read)
          ∙ ap (meta_items_at at (is_first_behind r.older) (meta_of r.older) r.older) (sym next) ∙ r.rest;
      size = (let e : span (drop i bodies) ≡ 13 + length body + span (drop (i + 1) bodies) = ap span next in omega (arith, e, r.size));
    }

-- a body that is refused
pub stops : (bodies : List (List ℕ)) (i at : ℕ) (m : Meta) (body : List ℕ) (place : ℕ) → Reached bodies i at m → i < length bodies → body ≡ get_or bodies i body
    → with_place (at + 13 + length body) (meta_item_in (i == 0) m.sessions body) ≡ Err place → meta_items_at 8 true nothing [] bodies ≡ Err place
stops bodies i at m body place r within is e =
    let read : with_place (at + 13 + length body) (meta_item_in (is_first_behind r.older) (meta_of r.older).sessions body) ≡ Err place =
    subst (λ (b : Bool). with_place (at + 13 + length body) (meta_item_in b (meta_of r.older).sessions body) ≡ Err place) (sym r.first)
    (subst (λ (k : Meta). with_place (at + 13 + length body) (meta_item_in (i == 0) k.sessions body) ≡ Err place) r.meta e) in
    sym r.rest ∙ ap (meta_items_at at (is_first_behind r.older) (meta_of r.older) r.older) (next_body i bodies body within is)
    ∙ item_refused at (is_first_behind r.older) (meta_of r.older) r.older body (drop (i + 1) bodies) place read

-- behind the last body
pub done : (bodies : List (List ℕ)) (i at : ℕ) (m : Meta) → Reached bodies i at m → drop i bodies ≡ [] → DoesItems bodies m
done bodies i at m r end = record {
  items = r.older;
  read = sym r.rest ∙ ap (meta_items_at at (is_first_behind r.older) (meta_of r.older) r.older) end ∙ at_end at (is_first_behind r.older)
      (meta_of r.older) r.older;
  in_order = r.in_order;
  spelt = r.spelt ∙ ap (λ (l : List (List ℕ)). bodies_of r.older ++ l) end ∙ append-nil (bodies_of r.older);
  meta = r.meta;
}

-- ---- batches and bodies

-- the bytes of batches are as many as their bodies span
pub length-spelt : (batches : List Batch) → length (spell batches) ≡ span (bodies_in batches)
length-spelt [] = refl
length-spelt (b ∷ bs) = omega (arith, length-spelt bs, length-framed b.number b.body, length-append (frame_of b.number b.body) (spell bs))

-- batches in a row are their bodies with numbers in a row
pub numbered_is : (first : ℕ) (batches : List Batch) → Runs first batches → batches ≡ numbered first (bodies_in batches)
numbered_is first [] runs = refl
numbered_is first (b ∷ bs) runs =
    ap (λ (l : List Batch). b ∷ l) (numbered_is (first + 1) bs runs.1.1.1)
    ∙ ap (λ n. (record { number = n; body = b.body }) ∷ numbered (first + 1) (bodies_in bs)) runs.0

-- one more body spans its length and 13
span-push : (bodies : List (List ℕ)) (body : List ℕ) → span (bodies ++ body ∷ []) ≡ span bodies + 13 + length body
span-push [] body = omega arith
span-push (b ∷ bodies) body = omega (arith, span-push bodies body)

-- the gate stands behind the bodies
pub gate_behind : (items : List MetaItem) → meta_gate items ≡ 8 + span (bodies_of items)
unfolding meta_gate
gate_behind [] = refl
gate_behind (x ∷ older) = omega (arith, gate_behind older, span-push (bodies_of older) (meta_item_bytes x))

-- there are as many bodies as batches
pub length-bodies_in : (batches : List Batch) → length (bodies_in batches) ≡ length batches
length-bodies_in [] = refl
length-bodies_in (b ∷ bs) = omega (arith, length-bodies_in bs)
