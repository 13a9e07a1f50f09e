-- Files that are the same.
use Rattle.std.proofs.Common.{◌≡◌, ℕ, Bool, true, false, ◌&&◌, ◌==◌, refl, sym, ◌∙◌, ap, eq-eqb, eqb-true, true≢false}
use Rattle.dl_types.specs.declared.address.Address.{Address}
use Rattle.dl_types.specs.declared.address.Address.TheVariants.{Client, Bookie, Meta}
use Rattle.dl_machine.specs.Lines.{is_end}
use Rattle.dl_links.specs.declared.file.File.{File}
use Rattle.dl_links.specs.declared.file.File.TheVariants.{Link, Inbox}
use Rattle.dl_links.specs.Filing.{is_file}

-- the first of two tests that hold
and_first : (a b : Bool) → (a && b) ≡ true → a ≡ true
and_first true b h = refl
and_first false b h = absurd (true≢false (sym h))

-- the second of two tests that hold
and_second : (a b : Bool) → (a && b) ≡ true → b ≡ true
and_second true b h = h
and_second false b h = absurd (true≢false (sym h))

-- an end is itself
pub end_self : (a : Address) → is_end a a ≡ true
end_self (Client c) = eq-eqb c c refl
end_self (Bookie b) = eq-eqb b b refl
end_self Meta = refl

-- ends that the test calls the same are
pub end_same : (a b : Address) → is_end a b ≡ true → a ≡ b
end_same (Client c) (Client d) h = ap Client (eqb-true c d h)
end_same (Client c) (Bookie d) h = absurd (true≢false (sym h))
end_same (Client c) Meta h = absurd (true≢false (sym h))
end_same (Bookie b) (Client d) h = absurd (true≢false (sym h))
end_same (Bookie b) (Bookie d) h = ap Bookie (eqb-true b d h)
end_same (Bookie b) Meta h = absurd (true≢false (sym h))
end_same Meta (Client d) h = absurd (true≢false (sym h))
end_same Meta (Bookie d) h = absurd (true≢false (sym h))
end_same Meta Meta h = refl

-- which of two numbers is named first doesn't matter
eqb_turns : (m n : ℕ) → (m == n) ≡ (n == m)
eqb_turns m n = go (m == n) (n == m) refl refl
  where
    go : (a b : Bool) → (m == n) ≡ a → (n == m) ≡ b → a ≡ b
    go true true w v = refl
    go false false w v = refl
    go true false w v = sym (eq-eqb n m (sym (eqb-true m n w))) ∙ v
    go false true w v = sym w ∙ eq-eqb m n (sym (eqb-true n m v))

-- which of two ends is named first doesn't matter
pub end_turns : (a b : Address) → is_end a b ≡ is_end b a
end_turns (Client c) (Client d) = eqb_turns c d
end_turns (Client c) (Bookie d) = refl
end_turns (Client c) Meta = refl
end_turns (Bookie b) (Client d) = refl
end_turns (Bookie b) (Bookie d) = eqb_turns b d
end_turns (Bookie b) Meta = refl
end_turns Meta (Client d) = refl
end_turns Meta (Bookie d) = refl
end_turns Meta Meta = refl

-- a file is itself
pub file_self : (f : File) → is_file f f ≡ true
file_self (Link from to) = ap (λ b. b && is_end to to) (end_self from) ∙ end_self to
file_self (Inbox to session) = ap (λ b. b && session == session) (end_self to) ∙ eq-eqb session session refl

-- files that the test calls the same are
pub file_same : (f g : File) → is_file f g ≡ true → f ≡ g
file_same (Link a b) (Link c d) h =
    let first : a ≡ c = end_same a c (and_first (is_end a c) (is_end b d) h) in
    let second : b ≡ d = end_same b d (and_second (is_end a c) (is_end b d) h) in
    λ i. Link (first i) (second i)
file_same (Link a b) (Inbox c t) h = absurd (true≢false (sym h))
file_same (Inbox a s) (Link c d) h = absurd (true≢false (sym h))
file_same (Inbox a s) (Inbox c t) h =
    let first : a ≡ c = end_same a c (and_first (is_end a c) (s == t) h) in
    let second : s ≡ t = eqb-true s t (and_second (is_end a c) (s == t) h) in
    λ i. Inbox (first i) (second i)
