-- What one step on adds.
use Rattle.std.proofs.Common.{◌+◌, ◌≤◌, ◌∙◌, arith}
use Rattle.std.proofs.lemmas.Grind.{get_or_default_zero}
use Rattle.om_relabel.specs.LabelledLinks.{label_of}
use Rattle.om_relabel.proofs.Walks.{count_few, no_steps, none_after, none_up_to, one_more_on, steps_on}
use Rattle.om_relabel.proofs.walk.walk_on.Goals as goal
use Rattle.om_relabel.proofs.walk.walk_on.Goals.{then-after-via-then-after, then-after-via-else-after+then-index-end}

pub loop-element-init : goal.loop-element-init
loop-element-init c = record {
  there = c.requires.there;
  below = c.requires.below;
  on = omega arith;
  steps = no_steps c.args.links.now (label_of c.args.links.now c.args.from + 1);
}

pub index-requires : goal.index-requires
index-requires c =
    let links = c.args.links.now in
    let h = c.requires.labelled in
    let there = c.loop-element.invariant.there in
    let same = h.same in
    let link = c.index-after.ensures ∙ get_or_default_zero links.next.items c.loop-element.element c.index-after.result.now
    (omega (arith, there, same)) in
    let step = steps_on links h c.loop-element.element c.index-after.result.now there link c.if-after.false in
    let inside = step.there in
    omega (arith, inside)

pub returns-then-after-clause-rest : goal.returns-then-after-clause-rest
returns-then-after-clause-rest c =
    let links = c.args.links.now in
    let h = c.requires.labelled in
    let there = c.loop-element.invariant.there in
    let same = h.same in
    let link = c.index-after.ensures ∙ get_or_default_zero links.next.items c.loop-element.element c.index-after.result.now
    (omega (arith, there, same)) in
    elim c.then-after.branch [
      | then-after-via-then-after w ↦
          none_after links h c.loop-element.element c.index-after.result.now there link w.if-after.true c.args.end
      | then-after-via-else-after+then-index-end w ↦ (
          let step = steps_on links h c.loop-element.element c.index-after.result.now there link w.if-after.false in
          let at = w.index.ensures ∙ get_or_default_zero links.label.items c.index-after.result.now w.index.result.now step.there in
          let above : c.args.end ≤ label_of links c.index-after.result.now = omega (arith, at, w.if-index-end.true) in
          none_up_to links h c.loop-element.element c.index-after.result.now c.args.end there link w.if-after.false above
          c.loop-element.invariant.below)
    ]

pub overflow_add-steps : goal.overflow_add-steps
overflow_add-steps c =
    let bounded = count_few c.args.links.now c.requires.labelled (label_of c.args.links.now c.args.from + 1)
    (label_of c.args.links.now c.loop-element.element + 1) in
    let steps = c.loop-element.invariant.steps in
    omega (arith, bounded, steps)

pub loop-element-smaller : goal.loop-element-smaller
loop-element-smaller c =
    let links = c.args.links.now in
    let h = c.requires.labelled in
    let there = c.loop-element.invariant.there in
    let below = c.loop-element.invariant.below in
    let same = h.same in
    let link = c.index-after.ensures ∙ get_or_default_zero links.next.items c.loop-element.element c.index-after.result.now
    (omega (arith, there, same)) in
    let step = steps_on links h c.loop-element.element c.index-after.result.now there link c.if-after.false in
    let above = step.above in
    omega (arith, above, below)

pub loop-element-preserved : goal.loop-element-preserved
loop-element-preserved c =
    let links = c.args.links.now in
    let h = c.requires.labelled in
    let there = c.loop-element.invariant.there in
    let same = h.same in
    let link = c.index-after.ensures ∙ get_or_default_zero links.next.items c.loop-element.element c.index-after.result.now
    (omega (arith, there, same)) in
    let step = steps_on links h c.loop-element.element c.index-after.result.now there link c.if-after.false in
    let at = c.index.ensures ∙ get_or_default_zero links.label.items c.index-after.result.now c.index.result.now step.there in
    let above = step.above in
    let on = c.loop-element.invariant.on in
    record {
      there = step.there;
      below = omega (arith, at, c.if-index-end.false);
      on = omega (arith, above, on);
      steps = one_more_on links h c.loop-element.element c.index-after.result.now c.args.from c.loop-element.steps step on
          c.loop-element.invariant.steps;
    }
