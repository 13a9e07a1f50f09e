use Rattle.std.proofs.Common.{ap, ◌∙◌}
use Rattle.dl_tree.specs.Paths.{name_of, below, past_below}
use Rattle.dl_tree.proofs.NameLemmas.{names_start, names_yes, names_empty, names_other, names_end}
use Rattle.dl_tree.proofs.RangeLemmas.{forward}
use Rattle.dl_tree.proofs.nodes.Nodes.children.Goals as goal
use Rattle.dl_tree.proofs.nodes.Nodes.children.Goals.{else-is_some-via-then-is_some+else-is_below, else-is_some-via-else-is_some}

pub range-child-items-requires : goal.range-child-items-requires
range-child-items-requires c =
    forward c.args.path.now _ _ (c.in_ok-first.ensures ∙ ap below c.as_slice.ensures) (c.in_ok-end.ensures ∙ ap past_below c.as_slice-2.ensures)

pub loop-child-init : goal.loop-child-init
loop-child-init c =
    names_start _ _ c.args.path.now _ _ _ _ _ c.range-child-items.ensures.ordered c.self.view_is (c.in_ok-first.ensures ∙ ap below c.as_slice.ensures)
    (c.in_ok-end.ensures ∙ ap past_below c.as_slice-2.ensures)
    (c.into_iter-child-iterator.ensures.into_iter_gives ∙ c.range-child-items.ensures.between tt) c.new-names.ensures.items

pub loop-child-preserved-then-is_below : goal.loop-child-preserved-then-is_below
loop-child-preserved-then-is_below c =
    names_yes (below c.args.path.now) _ _ _ _ _ _ _ _ _ _ _ _ c.is_some.ensures c.if-is_some.true
    (c.as_slice-then-is_some.ensures ∙ c.in_ok-first.ensures ∙ ap below c.as_slice.ensures)
    c.as_slice-then-is_some-2.ensures c.is_below.ensures c.if-is_below.true
    c.in-Some.ensures.steps (c.in_ok-name.ensures ∙ ap name_of c.as_slice-then-is_below.ensures) c.in_ok-push.ensures.items c.loop-child.invariant

pub loop-child-preserved : goal.loop-child-preserved
loop-child-preserved c =
    elim c.else-is_some.branch [
      | else-is_some-via-then-is_some+else-is_below w ↦
          names_other (below c.args.path.now) _ _ _ _ _ _ _ _ _
          (w.as_slice-then-is_some.ensures ∙ c.in_ok-first.ensures ∙ ap below c.as_slice.ensures)
          w.as_slice-then-is_some-2.ensures w.is_below.ensures w.if-is_below.false c.in-Some.ensures.steps c.loop-child.invariant
      | else-is_some-via-else-is_some w ↦ names_empty
          (below c.args.path.now) _ _ _ _ _ _ _ c.is_some.ensures w.if-is_some.false c.in-Some.ensures.steps c.loop-child.invariant
    ]

pub returns : goal.returns
returns c = names_end (below c.args.path.now) _ _ _ c.in-None.ensures.steps.0 c.loop-child.invariant
