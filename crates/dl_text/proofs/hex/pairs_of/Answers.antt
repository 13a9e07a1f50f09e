use Rattle.std.proofs.Common.{arith}
use Rattle.std.proofs.lemmas.List.{nil_from_length}
use Rattle.std.proofs.lemmas.Slice.{first_rest}
use Rattle.dl_text.proofs.HexLemmas.{counted, pairs_cut, pairs_stop, pairs_end}
use Rattle.dl_text.proofs.hex.pairs_of.Goals as goal
use Rattle.dl_text.proofs.hex.pairs_of.Goals.{then-c-end-via-then-c-end, then-c-end-via-else-c-end+then-digits-ne0}

pub returns-in_default : goal.returns-in_default
returns-in_default c =
    let k = counted c.args.bytes.now c.split_at.result.0.now c.split_at.result.1.now c.digits_in.result c.digits_in.ensures c.split_at.ensures.front
    c.split_at.ensures.back in
    pairs_cut c.args.end c.args.bytes.now _ _ k (nil_from_length _ (omega (arith, c.in_default.len_below)))

pub returns-then-c-end : goal.returns-then-c-end
returns-then-c-end c =
    let k = counted c.args.bytes.now c.split_at.result.0.now c.split_at.result.1.now c.digits_in.result c.digits_in.ensures c.split_at.ensures.front
    c.split_at.ensures.back in
    let parts = first_rest c.split_at.result.1.now 0 c.in-len1-up.len_at_least in
    pairs_stop c.args.end c.args.bytes.now _ _ _ _ k parts
    (elim c.then-c-end.branch [
      | then-c-end-via-then-c-end w ↦ λ is even. w.if-c-end.true is
      | then-c-end-via-else-c-end+then-digits-ne0 w ↦
          λ is even. w.if-digits-ne0.true even
    ])

pub returns : goal.returns
returns c =
    let k = counted c.args.bytes.now c.split_at.result.0.now c.split_at.result.1.now c.digits_in.result c.digits_in.ensures c.split_at.ensures.front
    c.split_at.ensures.back in
    let parts = first_rest c.split_at.result.1.now 0 c.in-len1-up.len_at_least in
    pairs_end c.args.end c.args.bytes.now _ _ _ _ _ k parts c.if-c-end.false c.if-digits-ne0.false c.in_ok-bytes_of.ensures
