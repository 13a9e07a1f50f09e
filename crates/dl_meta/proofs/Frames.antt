-- The body of a frame, and the lengths of items.
use Rattle.std.proofs.Common.{◌≡◌, ℕ, ◌+◌, ◌-◌, ◌<◌, List, [], ◌∷◌, ◌++◌, length, take, drop, sym, ap, ◌∙◌, subst, refl, arith, length-append}
use Rattle.std.proofs.lemmas.List.{take-append-le}
use Rattle.std.proofs.Math.Seq.{take-append_seam}
use Rattle.dl_types.specs.declared.meta_op.MetaOp.{MetaOp}
use Rattle.dl_codec.specs.Fields.{field}
use Rattle.dl_fields.proofs.SizeLemmas.{sizes}
use Rattle.dl_journal.specs.Limits.{around_body}
use Rattle.dl_journal.specs.Commits.{body_of}
use Rattle.dl_rules_nodes.specs.Items.{MetaItem, Setup, Connect, Expire, Ask, meta_item_bytes, meta_item_length}
use Rattle.dl_formats.specs.declared.conf.Conf.{Conf}
use Rattle.dl_meta.specs.Storing.{blank, framed}

-- a frame has 13 bytes beside its body
pub length-framed : (body : List ℕ) → length (framed body) ≡ length body + 13
length-framed body = grind (arith, length-append {A = ℕ})

-- what a journal commits of a frame is its body
pub body_framed : (body : List ℕ) → body_of (framed body) ≡ body
body_framed body =
    let e : length (framed body) - around_body ≡ length body = omega (arith, length-framed body) in
    ap (λ n. take n (body ++ 0 ∷ [])) e ∙ take-append_seam body (0 ∷ [])

-- the lengths of the items of a session, and of the configuration
pub length-connect : (session : ℕ) → meta_item_length (Connect session) ≡ 9
unfolding meta_item_bytes
length-connect session = grind (arith, sizes)

-- the end of a session has as many
pub length-expire : (session : ℕ) → meta_item_length (Expire session) ≡ 9
unfolding meta_item_bytes
length-expire session = grind (arith, sizes)

-- a configuration has five
pub length-conf : (conf : Conf) → meta_item_length (Setup conf) ≡ 5
unfolding meta_item_bytes
length-conf conf = grind (arith, sizes)

-- an item has some bytes
pub item_is_some : (x : MetaItem) → 0 < meta_item_length x
unfolding meta_item_bytes
item_is_some (Setup conf) = grind (arith, sizes)
item_is_some (Connect session) = grind (arith, sizes)
item_is_some (Expire session) = grind (arith, sizes)
item_is_some (Ask session number op) = grind (arith, sizes)
