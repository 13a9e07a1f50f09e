-- What is known of an entry and of a ledger where one item more waits.
use Rattle.std.proofs.Common.{◌≡◌, ℕ, max, Bool, true, false, ◌||◌, List, [], ◌∷◌, ◌++◌, Option, Some, None, if◌then◌else◌, true≢false, sym, refl, ap, ◌∙◌}
use Rattle.std.proofs.Math.Bool.{or-false, or-true}
use Rattle.std.specs.List.{list_any}
use Rattle.std.proofs.lemmas.List.Folds.{list_any-append}
use Rattle.dl_rules_nodes.specs.Items.{Item, AddItem, CopyItem, FenceItem, is_add, is_entry, is_fence, is_of, greatest}
use Rattle.dl_marks.specs.declared.marks.EntryMarks.{EntryMarks}
use Rattle.dl_marks.specs.declared.marks.LedgerMarks.{LedgerMarks}
use Rattle.dl_marks.specs.declared.marks.Place.{Place}
use Rattle.dl_marks.specs.Noting.{entry_noted, ledger_noted}
use Rattle.dl_marks.specs.Known.{entry_known, ledger_known}

-- a list with one item more
pub any_push : (p : Item → Bool) (xs : List Item) (x : Item) → list_any p (xs ++ x ∷ []) ≡ (list_any p xs || p x)
any_push p xs x = list_any-append p xs (x ∷ []) ∙ ap (λ b. list_any p xs || b) (last (p x))
  where
    last : (b : Bool) → (b || false) ≡ b
    last true = refl
    last false = refl

-- an Add of an entry is an item of it
pub add_false : (l e : ℕ) (x : Item) → is_entry l e x ≡ false → is_add l e x ≡ false
add_false l e (AddItem m f n bytes) h = h
add_false l e (CopyItem m f n bytes) h = refl
add_false l e (FenceItem m) h = refl

-- the first of two tests that do not hold
pub or_left : (a b : Bool) → (a || b) ≡ false → a ≡ false
or_left true b h = h
or_left false b h = refl

-- the second of two tests that do not hold
pub or_right : (a b : Bool) → (a || b) ≡ false → b ≡ false
or_right true b h = absurd (true≢false h)
or_right false b h = h

-- no item of an entry, and no Add of it
pub no_add : (l e : ℕ) (xs : List Item) → list_any (is_entry l e) xs ≡ false → list_any (is_add l e) xs ≡ false
no_add l e [] h = refl
no_add l e (x ∷ xs) h =
    ap (λ b. b || list_any (is_add l e) xs) (add_false l e x (or_left (is_entry l e x) (list_any (is_entry l e) xs) h))
    ∙ no_add l e xs (or_right (is_entry l e x) (list_any (is_entry l e) xs) h)

-- an item of another entry changes nothing
pub known_skip : (before todo : List Item) (place : Option Place) (l e : ℕ) (x : Item) → is_entry l e x ≡ false
    → entry_known before (todo ++ x ∷ []) [] place l e ≡ entry_known before todo [] place l e
known_skip before todo place l e x other =
    let entry : list_any (is_entry l e) (todo ++ x ∷ []) ≡ list_any (is_entry l e) todo =
    any_push (is_entry l e) todo x ∙ ap (λ b. list_any (is_entry l e) todo || b) other ∙ or-false (list_any (is_entry l e) todo) in
    let add : list_any (is_add l e) (todo ++ x ∷ []) ≡ list_any (is_add l e) todo =
    any_push (is_add l e) todo x ∙ ap (λ b. list_any (is_add l e) todo || b) (add_false l e x other) ∙ or-false (list_any (is_add l e) todo) in
    let all : list_any (is_entry l e) (before ++ (todo ++ x ∷ [])) ≡ list_any (is_entry l e) (before ++ todo) =
    list_any-append (is_entry l e) before (todo ++ x ∷ []) ∙ ap (λ b. list_any (is_entry l e) before || b) entry
    ∙ sym (list_any-append (is_entry l e) before todo) in
    λ i. if all i then Some (record { added = list_any (is_add l e) before; place = place; adding = add i; coming = entry i }) else None

-- an item of the entry is noted
pub known_push : (before todo : List Item) (place : Option Place) (l e : ℕ) (x : Item) → is_entry l e x ≡ true
    → (list_any (is_entry l e) before ≡ false → place ≡ None)
    → entry_known before (todo ++ x ∷ []) [] place l e ≡ Some (entry_noted (entry_known before todo [] place l e) (is_add l e x))
known_push before todo place l e x is none =
    go (list_any (is_entry l e) (before ++ todo)) refl
  where
    entry : list_any (is_entry l e) (todo ++ x ∷ []) ≡ true
    entry = any_push (is_entry l e) todo x ∙ ap (λ b. list_any (is_entry l e) todo || b) is ∙ or-true (list_any (is_entry l e) todo)

    add : list_any (is_add l e) (todo ++ x ∷ []) ≡ (list_any (is_add l e) todo || is_add l e x)
    add = any_push (is_add l e) todo x

    all : list_any (is_entry l e) (before ++ (todo ++ x ∷ [])) ≡ true
    all = list_any-append (is_entry l e) before (todo ++ x ∷ []) ∙ ap (λ b. list_any (is_entry l e) before || b) entry
        ∙ or-true (list_any (is_entry l e) before)

    now : entry_known before (todo ++ x ∷ []) [] place l e ≡ Some (record {
      added = list_any (is_add l e) before;
      place = place;
      adding = list_any
          (is_add l e) todo || is_add l e x;
      coming = true;
    })
    now = λ i. if all i then Some (record { added = list_any (is_add l e) before; place = place; adding = add i; coming = entry i }) else None

    go : (b : Bool) → list_any (is_entry l e) (before ++ todo) ≡ b
        → entry_known before (todo ++ x ∷ []) [] place l e ≡ Some (entry_noted (entry_known before todo [] place l e) (is_add l e x))
    go true w =
        now ∙ ap (λ (k : Option EntryMarks). Some (entry_noted k (is_add l e x)))
        (ap (λ b. if b then Some (record {
          added = list_any (is_add l e) before;
          place = place;
          adding = list_any (is_add l e) todo;
          coming = list_any
              (is_entry l e) todo;
        }) else None) (sym w))
    go false w =
        let parts : (list_any (is_entry l e) before || list_any (is_entry l e) todo) ≡ false = sym (list_any-append (is_entry l e) before todo) ∙ w in
        let first : list_any (is_entry l e) before ≡ false = or_left (list_any (is_entry l e) before) (list_any (is_entry l e) todo) parts in
        let second : list_any (is_entry l e) todo ≡ false = or_right (list_any (is_entry l e) before) (list_any (is_entry l e) todo) parts in
        now
        ∙ (λ i. Some (record { added = no_add l e before first i; place = none first i; adding = no_add l e todo second i || is_add l e x; coming = true }))
        ∙ ap (λ (k : Option EntryMarks). Some (entry_noted k (is_add l e x)))
        (ap (λ b. if b then Some (record {
          added = list_any (is_add l e) before;
          place = place;
          adding = list_any (is_add l e) todo;
          coming = list_any
              (is_entry l e) todo;
        }) else None) (sym w))

-- a fence of a ledger is an item of it
fence_false : (l : ℕ) (x : Item) → is_of l x ≡ false → is_fence l x ≡ false
fence_false l (AddItem m f n bytes) h = refl
fence_false l (CopyItem m f n bytes) h = refl
fence_false l (FenceItem m) h = h

-- no item of a ledger, and no fence of it
pub no_fence : (l : ℕ) (xs : List Item) → list_any (is_of l) xs ≡ false → list_any (is_fence l) xs ≡ false
no_fence l [] h = refl
no_fence l (x ∷ xs) h =
    ap (λ b. b || list_any (is_fence l) xs) (fence_false l x (or_left (is_of l x) (list_any (is_of l) xs) h))
    ∙ no_fence l xs (or_right (is_of l x) (list_any (is_of l) xs) h)

-- no item of the ledger carries a count
pub no_count : (l : ℕ) (xs : List Item) → list_any (is_of l) xs ≡ false → greatest l xs ≡ 0
no_count l [] h = refl
no_count l (x ∷ xs) h =
    ap (λ n. max n (greatest l xs)) (none x (or_left (is_of l x) (list_any (is_of l) xs) h))
    ∙ ap (max 0) (no_count l xs (or_right (is_of l x) (list_any (is_of l) xs) h))
  where
    none : (y : Item) → is_of l y ≡ false → Rattle.dl_rules_nodes.specs.Items.count_in l y ≡ 0
    none (AddItem m f n bytes) w = ap (λ b. if b then n else 0) w
    none (CopyItem m f n bytes) w = ap (λ b. if b then n else 0) w
    none (FenceItem m) w = refl

-- an item of another ledger changes nothing
pub ledger_skip : (before todo : List Item) (l : ℕ) (x : Item) → is_of l x ≡ false → ledger_known before (todo ++ x ∷ []) [] l ≡ ledger_known before todo [] l
ledger_skip before todo l x other =
    let of : list_any (is_of l) (todo ++ x ∷ []) ≡ list_any (is_of l) todo =
    any_push (is_of l) todo x ∙ ap (λ b. list_any (is_of l) todo || b) other ∙ or-false (list_any (is_of l) todo) in
    let fence : list_any (is_fence l) (todo ++ x ∷ []) ≡ list_any (is_fence l) todo =
    any_push (is_fence l) todo x ∙ ap (λ b. list_any (is_fence l) todo || b) (fence_false l x other) ∙ or-false (list_any (is_fence l) todo) in
    let all : list_any (is_of l) (before ++ (todo ++ x ∷ [])) ≡ list_any (is_of l) (before ++ todo) =
    list_any-append (is_of l) before (todo ++ x ∷ []) ∙ ap (λ b. list_any (is_of l) before || b) of ∙ sym (list_any-append (is_of l) before todo) in
    λ i. if all i then Some (record { fenced = list_any (is_fence l) before; fencing = fence i; greatest = greatest l before }) else None

-- an item of the ledger changes its marks
pub ledger_push : (before todo : List Item) (l : ℕ) (x : Item) → is_of l x ≡ true
    → ledger_known before (todo ++ x ∷ []) [] l ≡ Some (ledger_noted (ledger_known before todo [] l) (is_fence l x))
ledger_push before todo l x is = go (list_any (is_of l) (before ++ todo)) refl
  where
    of : list_any (is_of l) (todo ++ x ∷ []) ≡ true
    of = any_push (is_of l) todo x ∙ ap (λ b. list_any (is_of l) todo || b) is ∙ or-true (list_any (is_of l) todo)

    fence : list_any (is_fence l) (todo ++ x ∷ []) ≡ (list_any (is_fence l) todo || is_fence l x)
    fence = any_push (is_fence l) todo x

    all : list_any (is_of l) (before ++ (todo ++ x ∷ [])) ≡ true
    all = list_any-append (is_of l) before (todo ++ x ∷ []) ∙ ap (λ b. list_any (is_of l) before || b) of ∙ or-true (list_any (is_of l) before)

    now : ledger_known before (todo ++ x ∷ []) [] l ≡ Some (record {
      fenced = list_any (is_fence l) before;
      fencing = list_any
          (is_fence l) todo || is_fence l x;
      greatest = greatest l before;
    })
    now = λ i. if all i then Some (record { fenced = list_any (is_fence l) before; fencing = fence i; greatest = greatest l before }) else None

    go : (b : Bool) → list_any (is_of l) (before ++ todo) ≡ b
        → ledger_known before (todo ++ x ∷ []) [] l ≡ Some (ledger_noted (ledger_known before todo [] l) (is_fence l x))
    go true w =
        now ∙ ap (λ (k : Option LedgerMarks). Some (ledger_noted k (is_fence l x)))
        (ap (λ b. if b then Some (record { fenced = list_any (is_fence l) before; fencing = list_any (is_fence l) todo; greatest = greatest l before })
        else None) (sym w))
    go false w =
        let parts : (list_any (is_of l) before || list_any (is_of l) todo) ≡ false = sym (list_any-append (is_of l) before todo) ∙ w in
        let first : list_any (is_of l) before ≡ false = or_left (list_any (is_of l) before) (list_any (is_of l) todo) parts in
        let second : list_any (is_of l) todo ≡ false = or_right (list_any (is_of l) before) (list_any (is_of l) todo) parts in
        now
        ∙ (λ i. Some (record { fenced = no_fence l before first i; fencing = no_fence l todo second i || is_fence l x; greatest = no_count l before first i }))
        ∙ ap (λ (k : Option LedgerMarks). Some (ledger_noted k (is_fence l x)))
        (ap (λ b. if b then Some (record { fenced = list_any (is_fence l) before; fencing = list_any (is_fence l) todo; greatest = greatest l before })
        else None) (sym w))
