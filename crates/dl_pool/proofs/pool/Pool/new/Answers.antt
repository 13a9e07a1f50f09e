use Rattle.std.proofs.Common.{◌≡◌, ℕ, ◌<◌, ◌≤◌, List, slice_index, replicate, ap, ◌∙◌, arith, inl, inr, ◌⊎◌}
use Rattle.std.proofs.lemmas.Bool.{cases_lt}
use Rattle.std.proofs.lemmas.List.{get_or-replicate, get_or_past, length-replicate}
use Rattle.dl_pool.proofs.NewLemmas.{new_sound, new_pool}
use Rattle.dl_pool.proofs.pool.Pool.new.Goals as goal

zeros : (n : ℕ) (xs : List ℕ) → xs ≡ replicate n 0 → (k : ℕ) → slice_index xs k ≡ 0
zeros n xs same k = ap (λ ys. slice_index ys k) same ∙ go (cases_lt k n)
  where
    go : (k < n) ⊎ (n ≤ k) → slice_index (replicate n 0) k ≡ 0
    go (inl below) = get_or-replicate n k 0 0 below
    go (inr past) = get_or_past (replicate n 0) k 0 (omega (arith, length-replicate {A = ℕ} n 0))

pub invariant_of-result : goal.invariant_of-result
invariant_of-result c = record {
  room = omega (arith, c.in_ok-memory.ensures.exact, c.in_ok-next.ensures.size);
  sound = new_sound c.in_ok-next.next.items c.args.pages c.in_ok-next.ensures.each c.in_ok-memory.memory.items c.in_ok-lengths.lengths.items
      (zeros c.args.pages c.in_ok-lengths.lengths.items (c.in_ok-lengths.ensures.items_if_clones_equal (λ y e. e)))
      c.in_ok-next.ensures.size (omega (arith, c.in_ok-lengths.ensures.len, c.in_ok-lengths.lengths.ok)) (omega arith);
}

pub returns : goal.returns
returns c =
    new_pool c.in_ok-next.next.items c.args.pages c.in_ok-next.ensures.each c.in_ok-memory.memory.items c.in_ok-lengths.lengths.items
    (zeros c.args.pages c.in_ok-lengths.lengths.items (c.in_ok-lengths.ensures.items_if_clones_equal (λ y e. e)))
    c.in_ok-next.ensures.size
