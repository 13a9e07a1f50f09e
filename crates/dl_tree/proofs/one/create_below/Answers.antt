use Rattle.std.proofs.Common.{sym, ap, ◌∙◌}
use Rattle.dl_tree.specs.Trees.{Nodes, node}
use Rattle.dl_tree.proofs.CreateLemmas.{create_taken, create_made}
use Rattle.dl_tree.proofs.one.create_below.Goals as goal

pub returns-then-was-clause-err : goal.returns-then-was-clause-err
returns-then-was-clause-err c =
    create_taken c.args.nodes.now.0 c.count_up.new.nodes c.args.session c.args.path.now c.args.bytes.now c.args.above.now
    c.in_ok-made.made c.args.mode c.args.parent c.in_ok-was.was'
    (record { lasts = sym c.is_some.ensures ∙ c.if-is_some.false; left = sym c.is_spent.ensures ∙ c.if-is_spent.false })
    c.requires.there (ap (λ (t : Nodes × Nodes). t.0) c.in_ok-count_up.ensures.ok) c.in_ok-made.ensures c.in_ok-was.ensures.was
    c.if-was.true

pub returns-clause-ok : goal.returns-clause-ok
returns-clause-ok c =
    create_made c.args.nodes.now.0 c.count_up.new.nodes c.put.new.self.0 c.args.session c.args.path.now c.args.bytes.now
    c.args.above.now c.in_ok-made.made c.args.mode c.args.parent
    (node c.in_ok-share.field-0 0 c.owner_of.result 0) c.in_ok-was.was'
    (record { lasts = sym c.is_some.ensures ∙ c.if-is_some.false; left = sym c.is_spent.ensures ∙ c.if-is_spent.false })
    c.requires.above c.requires.there (ap (λ (t : Nodes × Nodes). t.0) c.in_ok-count_up.ensures.ok) c.in_ok-made.ensures
    c.in_ok-was.ensures.was c.if-was.false (λ i. node (c.in_ok-share.ensures i) 0 (c.owner_of.ensures i) 0)
    (ap (λ (t : Nodes × Nodes). t.0) c.in_ok-was.ensures.ok)
