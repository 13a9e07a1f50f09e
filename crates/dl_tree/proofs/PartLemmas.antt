-- A path's last part, and what stands before it.
use Rattle.std.proofs.Common.{◌≡◌, ℕ, zero, suc, ◌+◌, ◌-◌, ◌<◌, ◌≤◌, true, cond, not, ◌==◌, List, [], ◌∷◌}
use Rattle.std.proofs.Common.{◌++◌, length, get_or, take, drop, refl, ap, ◌∙◌, arith, length-append}
use Rattle.std.proofs.lemmas.Bool.{ne_eqb, cond-true, cond-false, eq-eqb}
use Rattle.std.proofs.lemmas.List.Sums.{suffix_len_is}
use Rattle.dl_fields.specs.Paths.{last_length, NoSlash}
use Rattle.dl_tree.specs.Paths.{name_of, parent_of, or_root, root}

-- no byte of a part is a slash
no_slash : (p : List ℕ) → NoSlash p → (j : ℕ) → j < length p → not (get_or p j 0 == 47) ≡ true
no_slash [] n j h = absurd (omega (arith, h))
no_slash (c ∷ cs) n zero h = ap not (ne_eqb c 47 n.0)
no_slash (c ∷ cs) n (suc j) h = no_slash cs n.1 j (omega (arith, h))

-- no byte of a path behind its last part's slash is a slash
after_slash : (front p : List ℕ) → NoSlash p → (k : ℕ) → suc (length front) ≤ k → k < length (front ++ 47 ∷ p) → not (get_or (front ++ 47 ∷ p) k 0 == 47) ≡ true
after_slash [] p n zero l h = absurd (omega (arith, l))
after_slash [] p n (suc j) l h = no_slash p n j (omega (arith, h))
after_slash (c ∷ cs) p n zero l h = absurd (omega (arith, l))
after_slash (c ∷ cs) p n (suc j) l h = after_slash cs p n j (omega (arith, l)) (omega (arith, h))

-- behind what stands before the last part comes its slash
at_slash : (front p : List ℕ) → get_or (front ++ 47 ∷ p) (length front) 0 ≡ 47
at_slash [] p = refl
at_slash (c ∷ cs) p = at_slash cs p

-- as many bytes as a front has, of the front and more, are the front
front_taken : (front p : List ℕ) → take (length front) (front ++ p) ≡ front
front_taken [] p = refl
front_taken (c ∷ cs) p = ap (λ (t : List ℕ). c ∷ t) (front_taken cs p)

-- what is left behind a front and a slash is the part
part_left : (front p : List ℕ) → drop (suc (length front)) (front ++ 47 ∷ p) ≡ p
part_left [] p = refl
part_left (c ∷ cs) p = part_left cs p

-- the last part starts one byte behind what stands before its slash
starts_at : (front p : List ℕ) → NoSlash p → length (front ++ 47 ∷ p) - last_length (front ++ 47 ∷ p) ≡ suc (length front)
starts_at front p n =
    let whole : length (front ++ 47 ∷ p) ≡ length front + length (47 ∷ p) = length-append front (47 ∷ p) in
    let before : suc (length front) - 1 ≡ length front = omega arith in
    let is : last_length (front ++ 47 ∷ p) ≡ length (front ++ 47 ∷ p) - suc (length front) =
    suffix_len_is (λ c. not (c == 47)) (front ++ 47 ∷ p) (suc (length front)) 0 (omega (arith, whole)) (after_slash front p n)
    (λ _. ap (λ (i : ℕ). not (get_or (front ++ 47 ∷ p) i 0 == 47)) before ∙ ap (λ (x : ℕ). not (x == 47)) (at_slash front p)) in
    omega (arith, whole, is)

-- what stands before the last part's slash is its parent's path, and the root where nothing does
parent_is : (front p : List ℕ) (s : ℕ) → s ≡ suc (length front) → cond (s == 1) root (take (s - 1) (front ++ 47 ∷ p)) ≡ or_root front
parent_is [] p s e = cond-true _ _ _ (eq-eqb s 1 e)
parent_is (c ∷ cs) p s e =
    let less : s - 1 ≡ length (c ∷ cs) = omega (arith, e) in
    cond-false _ _ _ (ne_eqb s 1 (λ w. absurd (omega (arith, e, w)))) ∙ ap (λ (i : ℕ). take i ((c ∷ cs) ++ 47 ∷ p)) less ∙ front_taken (c ∷ cs) (47 ∷ p)

-- a part below a path has that path as its parent, and itself as its name
pub parts_found : (front p : List ℕ) → NoSlash p → (parent_of (front ++ 47 ∷ p) ≡ or_root front) × (name_of (front ++ 47 ∷ p) ≡ p)
unfolding parent_of name_of
parts_found front p n = (parent_is front p _ (starts_at front p n), ap (λ (i : ℕ). drop i (front ++ 47 ∷ p)) (starts_at front p n) ∙ part_left front p)
