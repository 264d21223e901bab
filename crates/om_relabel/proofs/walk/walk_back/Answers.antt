-- What one step back adds.
use Rattle.std.proofs.Common.{◌<◌, ◌∙◌, arith}
use Rattle.std.proofs.lemmas.Grind.{get_or_default_zero}
use Rattle.om_relabel.specs.LabelledLinks.{label_of}
use Rattle.om_relabel.proofs.Walks.{count_few, no_steps, none_before, none_from, one_more_back, steps_back}
use Rattle.om_relabel.proofs.walk.walk_back.Goals as goal
use Rattle.om_relabel.proofs.walk.walk_back.Goals.{then-before-via-then-before, then-before-via-else-before+then-index-low}

pub loop-element-init : goal.loop-element-init
loop-element-init c = record {
  there = c.requires.there;
  above = c.requires.above;
  back = omega arith;
  steps = no_steps c.args.links.now (label_of c.args.links.now c.args.from);
}

pub index-requires : goal.index-requires
index-requires c =
    let links = c.args.links.now in
    let h = c.requires.labelled in
    let there = c.loop-element.invariant.there in
    let same = h.same_back in
    let link = c.index-before.ensures ∙ get_or_default_zero links.prev.items c.loop-element.element c.index-before.result.now
    (omega (arith, there, same)) in
    let step = steps_back links h c.loop-element.element c.index-before.result.now there link c.if-before.false in
    let inside = step.there in
    omega (arith, inside)

pub returns-then-before-clause-rest : goal.returns-then-before-clause-rest
returns-then-before-clause-rest c =
    let links = c.args.links.now in
    let h = c.requires.labelled in
    let there = c.loop-element.invariant.there in
    let same = h.same_back in
    let link = c.index-before.ensures ∙ get_or_default_zero links.prev.items c.loop-element.element c.index-before.result.now
    (omega (arith, there, same)) in
    elim c.then-before.branch [
      | then-before-via-then-before w ↦
          none_before links h c.loop-element.element c.index-before.result.now there link w.if-before.true c.args.low
      | then-before-via-else-before+then-index-low w ↦ (
          let step = steps_back links h c.loop-element.element c.index-before.result.now there link w.if-before.false in
          let at = w.index.ensures ∙ get_or_default_zero links.label.items c.index-before.result.now w.index.result.now step.there in
          let less : label_of links c.index-before.result.now < c.args.low = omega (arith, at, w.if-index-low.true) in
          none_from links h c.loop-element.element c.index-before.result.now c.args.low there link w.if-before.false less
          c.loop-element.invariant.above)
    ]

pub overflow_add-steps : goal.overflow_add-steps
overflow_add-steps c =
    let bounded = count_few c.args.links.now c.requires.labelled (label_of c.args.links.now c.loop-element.element)
    (label_of c.args.links.now c.args.from) in
    let steps = c.loop-element.invariant.steps in
    omega (arith, bounded, steps)

pub loop-element-smaller : goal.loop-element-smaller
loop-element-smaller c =
    let links = c.args.links.now in
    let h = c.requires.labelled in
    let there = c.loop-element.invariant.there in
    let same = h.same_back in
    let link = c.index-before.ensures ∙ get_or_default_zero links.prev.items c.loop-element.element c.index-before.result.now
    (omega (arith, there, same)) in
    let step = steps_back links h c.loop-element.element c.index-before.result.now there link c.if-before.false in
    step.below

pub loop-element-preserved : goal.loop-element-preserved
loop-element-preserved c =
    let links = c.args.links.now in
    let h = c.requires.labelled in
    let there = c.loop-element.invariant.there in
    let same = h.same_back in
    let link = c.index-before.ensures ∙ get_or_default_zero links.prev.items c.loop-element.element c.index-before.result.now
    (omega (arith, there, same)) in
    let step = steps_back links h c.loop-element.element c.index-before.result.now there link c.if-before.false in
    let at = c.index.ensures ∙ get_or_default_zero links.label.items c.index-before.result.now c.index.result.now step.there in
    let below = step.below in
    let back = c.loop-element.invariant.back in
    record {
      there = step.there;
      above = omega (arith, at, c.if-index-low.false);
      back = omega (arith, below, back);
      steps = one_more_back links h c.loop-element.element c.index-before.result.now c.args.from c.loop-element.steps step back
          c.loop-element.invariant.steps;
    }
