use Rattle.std.proofs.Common.{◌≡◌, ◌≤◌, ◌+◌, ◌++◌, length, vec_len, vec_capacity}
use Rattle.std.specs.List.{concat}
use Rattle.dl_bookie.proofs.filling.put_piece.Given as goal

abbrev pub invariant-loop-part : goal.invariant-loop-part
invariant-loop-part l = record {
  can_next : (goal.iterator-loop-part).can_next l.part-iterator;
  finite : (goal.iterator-loop-part).is_finite l.part-iterator;
  joined : l.frame.items ++ concat l.part-iterator ≡ l.initial.frame.items ++ concat l.initial.part-iterator;
  len : vec_len l.frame + length (concat l.part-iterator) ≡ vec_len l.initial.frame + length (concat l.initial.part-iterator);
  room : vec_capacity l.initial.frame ≤ vec_capacity l.frame;
  fits : vec_len l.frame + length (concat l.part-iterator) ≤ vec_capacity l.frame;
}
