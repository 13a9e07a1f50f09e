-- Items of the metadata node are read exactly, and lists of them are loaded from their bodies.
use Rattle.std.proofs.Common.{◌≡◌, ℕ, zero, suc, ◌+◌, ◌^◌, ◌<◌, ◌==◌, Bool, true, false, List, [], ◌∷◌, ◌++◌, length, get_or, Some, Result, Ok, Err}
use Rattle.std.proofs.Common.{refl, sym, ap, subst, ◌∙◌, lit<, arith, append_assoc, eq-eqb, eqb-true}
use Rattle.std.specs.List.{AllByRecursion, Contains}
use Rattle.std.specs.Int.{w32, w64}
use Rattle.std.proofs.lemmas.List.{append-nil}
use Rattle.dl_types.specs.declared.meta_op.MetaOp.{MetaOp}
use Rattle.dl_codec.specs.Fields.{field, IsBytes}
use Rattle.dl_fields.specs.declared.fault.Fault.{Fault}
use Rattle.dl_fields.specs.Readers.{Exact, then_at}
use Rattle.dl_fields.specs.Fields.{Fits, number_from}
use Rattle.dl_fields.specs.Codes.{value_of_code, code_byte, code_from}
use Rattle.dl_fields.proofs.ReaderLemmas.{then_exact, made_exact, with_test_exact, whole_found, whole_again}
use Rattle.dl_fields.proofs.FieldLemmas.{u32_exact, u64_exact}
use Rattle.dl_fields.proofs.CodeLemmas.{codes_exact}
use Rattle.dl_tree_msg.specs.declared.rule.PathRule.TheVariants.{AllButConf}
use Rattle.dl_tree_msg.specs.Rules.{allows}
use Rattle.dl_tree_msg.specs.Requests.{IsRequest, IsAllowed, request_bytes}
use Rattle.dl_tree_msg.specs.RequestReading.{request_from}
use Rattle.dl_tree_msg.proofs.RequestLemmas.{request_exact}
use Rattle.dl_session.specs.Sessions.{Known, number_in, is_live}
use Rattle.dl_formats.specs.declared.conf.Conf.{Conf}
use Rattle.dl_formats.specs.NodeBytes.{IsConf}
use Rattle.dl_formats.proofs.Exactness.{conf_exact}
use Rattle.dl_rules_nodes.specs.Items.{MetaItem, Setup, Connect, Expire, Ask, MetaKind, AConf, AConnect, AnExpire, AnAsk, meta_code, meta_kind}
use Rattle.dl_rules_nodes.specs.Items.{meta_rest, meta_item_bytes, meta_item_length, IsMetaItem}
use Rattle.dl_rules_nodes.specs.Metadata.{Meta, MetaNode, nothing, does, meta_from, meta_of, meta_gate}
use Rattle.dl_rules_nodes.specs.Reading.{with_place}
use Rattle.dl_rules_nodes.specs.MetaReading.{kinds_due, is_above, live_session_from, new_number_from, meta_rest_from, meta_item_from, meta_item_in}
use Rattle.dl_rules_nodes.specs.MetaOrder.{FitsSessions, IsDue, is_first_behind, AreInOrder, bodies_of}
use Rattle.dl_rules_nodes.specs.Loads.{◌>>=◌, meta_items_at, loaded_meta}
use Rattle.dl_rules_nodes.specs.Laws.{MetaItemsAreExact, IsLoaded, MetaListsAreExact}

-- ---- an item

-- the configuration alone comes first
only_conf : (k : MetaKind) (i : ℕ) → i < 1 → get_or (AConf ∷ []) i k ≡ k → AConf ≡ k
only_conf k zero within e = e
only_conf k (suc i) within e = absurd (omega arith)

-- and never later
never_conf : (i : ℕ) → i < 3 → get_or (AConnect ∷ AnExpire ∷ AnAsk ∷ []) i AConf ≡ AConf → ⊥
never_conf zero within e = cc
never_conf (suc zero) within e = cc
never_conf (suc (suc zero)) within e = cc
never_conf (suc (suc (suc i))) within e = absurd (omega arith)

-- the kinds that may come are found by their codes
each_due : (is_first : Bool) (k : MetaKind) → Contains (kinds_due is_first) k → value_of_code meta_code (kinds_due is_first) (meta_code k) ≡ Some k
each_due true AConf c = refl
each_due false AConnect c = refl
each_due false AnExpire c = refl
each_due false AnAsk c = refl
each_due true AConnect c = absurd (let e = only_conf AConnect c.0 c.1 c.2 in cc)
each_due true AnExpire c = absurd (let e = only_conf AnExpire c.0 c.1 c.2 in cc)
each_due true AnAsk c = absurd (let e = only_conf AnAsk c.0 c.1 c.2 in cc)
each_due false AConf c = absurd (never_conf c.0 c.1 c.2)

-- each code is one byte
small : (k : MetaKind) → meta_code k < 256
small AConf = lit< tt
small AConnect = lit< tt
small AnExpire = lit< tt
small AnAsk = lit< tt

-- the kind of an item that may come is read exactly
kind_exact : (is_first : Bool) → Exact (Contains (kinds_due is_first)) (code_byte meta_code) (code_from meta_code (kinds_due is_first))
kind_exact is_first = codes_exact meta_code (kinds_due is_first) (each_due is_first) (λ k c. small k)

-- an item that has a spelling and fits the sessions
abbrev Fit : Known → MetaItem → Type 0
Fit known x = IsMetaItem x × FitsSessions known x

-- such an item of this kind
abbrev FitOf : Known → MetaKind → MetaItem → Type 0
FitOf known k x = Fit known x × (meta_kind x ≡ k)

-- what is read of a request behind its kind
abbrev IsAskRead : Known → ℕ × (ℕ × MetaOp) → Type 0
IsAskRead known y =
    (Fits w64 y.0 × (is_live known y.0 ≡ true))
    × ((Fits w32 y.1.0 × (is_above (number_in known.live y.0) y.1.0 ≡ true)) × (IsRequest y.1.1 × IsAllowed (allows AllButConf) y.1.1))

-- a request of a live session with a new number is read exactly, under the rule of paths
ask_exact : (known : Known) → Exact (IsAskRead known) (λ y. field w64 y.0 ++ (field w32 y.1.0 ++ request_bytes y.1.1))
    (then_at (live_session_from known) (λ session. then_at (new_number_from known session) (λ number. request_from (allows AllButConf))))
ask_exact known =
    then_exact _ _ _ _ _ _ (with_test_exact _ _ _ (is_live known) u64_exact)
    (λ session v. then_exact _ _ _ _ _ _ (with_test_exact _ _ _ (is_above (number_in known.live session)) u32_exact)
    (λ number w. request_exact (allows AllButConf)))

-- an item behind its kind is read exactly
rest_exact : (known : Known) (k : MetaKind) → Exact (FitOf known k) meta_rest (meta_rest_from known k)
rest_exact known AConf = made_exact _ _ _ Setup (FitOf known AConf) meta_rest conf_exact (λ x v. (((v, tt), refl), refl)) from
  where
    from : (x : MetaItem) → FitOf known AConf x → (y : Conf) × IsConf y × (Setup y ≡ x)
    from (Setup conf) w = (conf, w.0.0, refl)
    from _ w = absurd (let e = w.1 in cc)
rest_exact known AConnect = made_exact _ _ _ Connect (FitOf known AConnect) meta_rest
    (with_test_exact _ _ _ (λ session. session == known.last + 1) u64_exact)
    (λ x v. (((v.0, eqb-true x (known.last + 1) v.1), refl), refl)) from
  where
    from : (x : MetaItem) → FitOf known AConnect x → (y : ℕ) × (Fits w64 y × ((y == known.last + 1) ≡ true)) × (Connect y ≡ x)
    from (Connect session) w = (session, (w.0.0, eq-eqb session (known.last + 1) w.0.1), refl)
    from _ w = absurd (let e = w.1 in cc)
rest_exact known AnExpire = made_exact _ _ _ Expire (FitOf known AnExpire) meta_rest
    (with_test_exact _ _ _ (is_live known) u64_exact) (λ x v. ((v, refl), refl)) from
  where
    from : (x : MetaItem) → FitOf known AnExpire x → (y : ℕ) × (Fits w64 y × (is_live known y ≡ true)) × (Expire y ≡ x)
    from (Expire session) w = (session, w.0, refl)
    from _ w = absurd (let e = w.1 in cc)
rest_exact known AnAsk = made_exact _ _ _ (λ x. Ask x.0 x.1.0 x.1.1) (FitOf known AnAsk) meta_rest (ask_exact known)
    (λ x v. (((((v.0.0, (v.1.0.0, v.1.1.0)), (v.0.1, (v.1.0.1, v.1.1.1))), refl), refl))) from
  where
    from : (x : MetaItem) → FitOf known AnAsk x → (y : ℕ × (ℕ × MetaOp)) × IsAskRead known y × (Ask y.0 y.1.0 y.1.1 ≡ x)
    from (Ask session number op) w = let v = w.0.0 in let f = w.0.1 in
        ((session, (number, op)), ((v.0, f.0), ((v.1.0, f.1.0), (v.1.1, f.1.1))), refl)
    from _ w = absurd (let e = w.1 in cc)

-- items are read exactly
pub meta_items_are_exact : MetaItemsAreExact
unfolding meta_item_bytes
meta_items_are_exact is_first known =
    made_exact _ _ _ (λ x. x.1) (IsDue is_first known) meta_item_bytes
    (then_exact (Contains (kinds_due is_first)) (code_byte meta_code) (code_from meta_code (kinds_due is_first))
    (λ k x. FitOf known k x) (λ k. meta_rest) (meta_rest_from known)
    (kind_exact is_first) (λ k c. rest_exact known k))
    (λ x v. (
      record { kind = subst (Contains (kinds_due is_first)) (sym v.1.1) v.0; spelt = v.1.0.0; fits = v.1.0.1 },
      ap (λ (k : MetaKind). code_byte meta_code k ++ meta_rest x.1) v.1.1,
    ))
    (λ x w. ((meta_kind x, x), (w.kind, ((w.spelt, w.fits), refl)), refl))

-- ---- lists of items

-- one more item that may come is read from its body
step_again : (gate : ℕ) (older : List MetaItem) (x : MetaItem) (more : List (List ℕ)) → IsDue (is_first_behind older) (meta_of older).sessions x
    → meta_items_at gate (is_first_behind older) (meta_of older) older (meta_item_bytes x ∷ more)
    ≡ meta_items_at (gate + 13 + meta_item_length x) false (meta_of (x ∷ older)) (x ∷ older) more
unfolding meta_items_at meta_from
step_again gate older x more due = rw (whole_again (meta_items_are_exact (is_first_behind older) (meta_of older).sessions) x due) refl

-- items in order are read from the front of the bodies
list_again : (items : List MetaItem) (more : List (List ℕ)) → AreInOrder items
    → meta_items_at 8 true nothing [] (bodies_of items ++ more) ≡ meta_items_at (meta_gate items) (is_first_behind items) (meta_of items) items more
unfolding meta_gate meta_from
list_again [] more all = refl
list_again (x ∷ older) more all =
    ap (meta_items_at 8 true nothing []) (append_assoc (bodies_of older) (meta_item_bytes x ∷ []) more)
    ∙ list_again older (meta_item_bytes x ∷ more) all.1 ∙ step_again (meta_gate older) older x more all.0

-- behind the last body the items are all
ends : (gate : ℕ) (is_first : Bool) (m : Meta) (items : List MetaItem) → meta_items_at gate is_first m items [] ≡ Ok items
unfolding meta_items_at
ends gate is_first m items = refl

-- a list in order is loaded from its bodies
lists_again : (first : ℕ) (items : List MetaItem) → AreInOrder items → loaded_meta first (bodies_of items) ≡ Ok (record { first = first; items = items })
unfolding loaded_meta
lists_again first items all =
    let read : meta_items_at 8 true nothing [] (bodies_of items) ≡ Ok items =
    ap (meta_items_at 8 true nothing []) (sym (append-nil (bodies_of items)))
    ∙ list_again items [] all ∙ ends (meta_gate items) (is_first_behind items) (meta_of items) items in
    rw read refl

-- what is bound to a reading was read
bound : {A B : Type 0} (r : Result A ℕ) (f : A → Result B ℕ) (y : B) → (r >>= f) ≡ Ok y → (x : A) × (r ≡ Ok x) × (f x ≡ Ok y)
bound (Ok x) f y e = (x, refl, e)
bound (Err at) f y e = absurd cc

-- what was placed was read
placed_ok : {A : Type 0} (end : ℕ) (r : Result A Fault) (x : A) → with_place end r ≡ Ok x → r ≡ Ok x
placed_ok end (Ok y) x e = cc
placed_ok end (Err fault) x e = absurd cc

-- items behind others that are in order
pub record Behind (older items : List MetaItem) (bodies : List (List ℕ)) : Type 0 where
  pub in_order : AreInOrder items
  pub bodies_are : bodies_of older ++ bodies ≡ bodies_of items

-- what is loaded behind a list in order is in order, and the bodies spell it
list_found : (bodies : List (List ℕ)) (gate : ℕ) (older items : List MetaItem) → AllByRecursion IsBytes bodies → AreInOrder older
    → meta_items_at gate (is_first_behind older) (meta_of older) older bodies ≡ Ok items → Behind older items bodies
unfolding meta_items_at meta_from
list_found [] gate older items fit order e =
    let same : older ≡ items = cc in
    subst (λ (xs : List MetaItem). Behind older xs []) same (record { in_order = order; bodies_are = append-nil (bodies_of older) })
list_found (body ∷ bodies) gate older items fit order e =
    let is_first = is_first_behind older in
    let m = meta_of older in
    let u = bound (with_place (gate + 13 + length body) (meta_item_in is_first m.sessions body))
    (λ x. meta_items_at (gate + 13 + length body) false (does m x) (x ∷ older) bodies) items e in
    let f = whole_found (meta_items_are_exact is_first m.sessions) body u.0 fit.0
    (placed_ok (gate + 13 + length body) (meta_item_in is_first m.sessions body) u.0 u.1) in
    let rest : Behind (u.0 ∷ older) items bodies = list_found bodies (gate + 13 + length body) (u.0 ∷ older) items fit.1 (f.0, order) u.2 in
    record {
      in_order = rest.in_order;
      bodies_are = ap (λ (b : List ℕ). bodies_of older ++ (b ∷ bodies)) f.1
          ∙ sym (append_assoc (bodies_of older) (meta_item_bytes u.0 ∷ []) bodies) ∙ rest.bodies_are;
    }

-- what is loaded is a list in order, which the bodies spell
lists_found : (first : ℕ) (bodies : List (List ℕ)) (n : MetaNode) → AllByRecursion IsBytes bodies → loaded_meta first bodies ≡ Ok n → IsLoaded first bodies n
unfolding loaded_meta meta_from
lists_found first bodies n fit e =
    let u = bound (meta_items_at 8 true nothing [] bodies) (λ items. Ok (record { first = first; items = items })) n e in
    let f : Behind [] u.0 bodies = list_found bodies 8 [] u.0 fit tt u.1 in
    subst (IsLoaded first bodies) (let same : (record { first = first; items = u.0 }) ≡ n = cc in same)
    (record { number = refl; in_order = f.in_order; spelt = f.bodies_are })

-- lists are loaded exactly
pub meta_lists_are_exact : MetaListsAreExact
meta_lists_are_exact = record { again = lists_again; found = lists_found }
