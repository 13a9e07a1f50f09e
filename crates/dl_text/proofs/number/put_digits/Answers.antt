use Rattle.std.proofs.Common.{ℕ, List, [], ◌∷◌}
use Rattle.dl_text.proofs.NumberLemmas.{decimal_2, decimal_3, decimal_4, decimal_5, decimal_6, put_field}
use Rattle.dl_text.proofs.number.put_digits.Goals as goal

pub returns-then-n-lt100 : goal.returns-then-n-lt100
returns-then-n-lt100 c =
    let digits : List ℕ = c.last_digit-e.result ∷ c.last_digit-f.result ∷ [] in
    put_field c.args.out.now.items _ digits c.args.n c.args.end c.in_ok-extend_from_slice.ensures.items
    (decimal_2 c.args.n _ _ c.requires c.if-n-lt100.true
    c.last_digit-e.ensures c.last_digit-f.ensures)

pub returns-then-n-lt1000 : goal.returns-then-n-lt1000
returns-then-n-lt1000 c =
    let digits : List ℕ = c.last_digit-d.result ∷ c.last_digit-e.result ∷ c.last_digit-f.result ∷ [] in
    put_field c.args.out.now.items _ digits c.args.n c.args.end c.in_ok-extend_from_slice-2.ensures.items
    (decimal_3 c.args.n _ _ _ c.if-n-lt100.false c.if-n-lt1000.true c.last_digit-d.ensures
    c.last_digit-e.ensures c.last_digit-f.ensures)

pub returns-then-n-lt10000 : goal.returns-then-n-lt10000
returns-then-n-lt10000 c =
    let digits : List ℕ = c.last_digit-c.result ∷ c.last_digit-d.result ∷ c.last_digit-e.result ∷ c.last_digit-f.result ∷ [] in
    put_field c.args.out.now.items _ digits c.args.n c.args.end c.in_ok-extend_from_slice-3.ensures.items
    (decimal_4 c.args.n _ _ _ _ c.if-n-lt1000.false c.if-n-lt10000.true c.last_digit-c.ensures c.last_digit-d.ensures
    c.last_digit-e.ensures c.last_digit-f.ensures)

pub returns-then-n-lt100000 : goal.returns-then-n-lt100000
returns-then-n-lt100000 c =
    let digits : List ℕ = c.last_digit-b.result ∷ c.last_digit-c.result ∷ c.last_digit-d.result ∷ c.last_digit-e.result ∷ c.last_digit-f.result ∷ [] in
    put_field c.args.out.now.items _ digits c.args.n c.args.end c.in_ok-extend_from_slice-4.ensures.items
    (decimal_5 c.args.n _ _ _ _ _ c.if-n-lt10000.false c.if-n-lt100000.true c.last_digit-b.ensures c.last_digit-c.ensures c.last_digit-d.ensures
    c.last_digit-e.ensures c.last_digit-f.ensures)

pub returns-then-n-lt1000000 : goal.returns-then-n-lt1000000
returns-then-n-lt1000000 c =
    let digits : List ℕ =
    c.last_digit-a.result ∷ c.last_digit-b.result ∷ c.last_digit-c.result ∷ c.last_digit-d.result ∷ c.last_digit-e.result ∷ c.last_digit-f.result ∷ [] in
    put_field c.args.out.now.items _ digits c.args.n c.args.end c.in_ok-extend_from_slice-5.ensures.items
    (decimal_6 c.args.n _ _ _ _ _ _ c.if-n-lt100000.false c.if-n-lt1000000.true c.last_digit-a.ensures c.last_digit-b.ensures
    c.last_digit-c.ensures c.last_digit-d.ensures c.last_digit-e.ensures c.last_digit-f.ensures)
