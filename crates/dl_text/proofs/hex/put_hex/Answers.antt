use Rattle.std.proofs.Common.{◌≡◌, ℕ, List, [], ◌∷◌, ◌++◌, ◌-◌, length, take, replicate, arith, sym, ap, ◌∙◌}
use Rattle.dl_text.proofs.HexLemmas.{written_over, pairs_long, hex_some}
use Rattle.dl_text.proofs.hex.put_hex.Goals as goal

pub returns-in_ok-resize-in-len1-up : goal.returns-in_ok-resize-in-len1-up
returns-in_ok-resize-in-len1-up c =
    let old : List ℕ = c.args.out.now.items in
    let grown = c.in_ok-resize-in-len1-up.ensures in
    let told = c.deref_mut.ensures in
    let size : length c.write_pairs.new.out ≡ c.in-Some.whole - 1 - c.len-start.result = ap length c.write_pairs.ensures ∙ pairs_long c.args.bytes.now
    ∙ omega (arith, c.in-Some.ensures.1) in
    written_over old c.deref_mut.result.now c.resize.new.self.items c.write_pairs.new.out c.len-start.result
    (c.in-Some.whole - 1 - c.len-start.result) c.in-Some.whole c.resize.new.self.len c.args.end
    told.value (grown.items ∙ ap (λ (n : ℕ). take c.in-Some.whole old ++ replicate (c.in-Some.whole - n) c.args.end) (sym c.len-start.ensures))
    (ap length (sym told.value) ∙ told.len ∙ grown.len) (omega (arith, c.in-Some.ensures.1)) size grown.len
    ∙ ap (λ (t : List ℕ). old ++ (t ++ c.args.end ∷ [])) c.write_pairs.ensures
    ∙ ap (λ (t : List ℕ). old ++ t) (sym (hex_some c.args.end c.args.bytes.now c.in-len1-up.len_at_least))
