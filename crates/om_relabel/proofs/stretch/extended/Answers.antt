-- The elements of both walks are counted too.
use Rattle.std.proofs.Common.{◌+◌, arith}
use Rattle.om_relabel.specs.LabelledLinks.{label_of}
use Rattle.om_relabel.proofs.Stretches.{count_all}
use Rattle.om_relabel.proofs.Walks.{count_few}
use Rattle.om_relabel.proofs.stretch.extended.Goals as goal

pub overflow_add-result : goal.overflow_add-result
overflow_add-result c =
    let links = c.args.links.now in
    let s = c.requires.stretch in
    let all = count_all links s c.walk_back-back.result.element c.walk_on-on.result.element c.walk_back-back.result.steps
    c.walk_on-on.result.steps
    c.walk_back-back.ensures.back c.walk_on-on.ensures.on c.walk_back-back.ensures.steps c.walk_on-on.ensures.steps in
    let bounded = count_few links c.requires.labelled (label_of links c.walk_back-back.result.element)
    (label_of links c.walk_on-on.result.element + 1) in
    omega (arith, all, bounded)

pub overflow_add-result-2 : goal.overflow_add-result-2
overflow_add-result-2 c =
    let links = c.args.links.now in
    let s = c.requires.stretch in
    let all = count_all links s c.walk_back-back.result.element c.walk_on-on.result.element c.walk_back-back.result.steps
    c.walk_on-on.result.steps
    c.walk_back-back.ensures.back c.walk_on-on.ensures.on c.walk_back-back.ensures.steps c.walk_on-on.ensures.steps in
    let bounded = count_few links c.requires.labelled (label_of links c.walk_back-back.result.element)
    (label_of links c.walk_on-on.result.element + 1) in
    omega (arith, all, bounded)

pub returns-clause-stretch : goal.returns-clause-stretch
returns-clause-stretch c =
    let links = c.args.links.now in
    let s = c.requires.stretch in
    let back = c.walk_back-back.ensures.back in
    let on = c.walk_on-on.ensures.on in
    let order = s.order in
    record {
      first_there = c.walk_back-back.ensures.there;
      last_there = c.walk_on-on.ensures.there;
      order = omega (arith, back, on, order);
      count_is = count_all links s c.walk_back-back.result.element c.walk_on-on.result.element c.walk_back-back.result.steps
          c.walk_on-on.result.steps
          back on c.walk_back-back.ensures.steps c.walk_on-on.ensures.steps;
    }
