-- Two elements are in the order of their labels.
use Rattle.std.proofs.Common.{◌≤◌, length, ap, arith, ◌∙◌}
use Rattle.std.proofs.lemmas.Grind.{get_or_default_zero}
use Rattle.om_list.specs.LabelledList.{LabelledList}
use Rattle.om_list.proofs.Insertions.{before_is}
use Rattle.om_list.proofs.om_list.OmList.before.Goals as goal

pub returns : goal.returns
returns c =
    let kept = c.self.invariant.0 in
    let i = c.self.inside in
    let count = kept.count in
    let same = ap (λ (l : LabelledList). length l.log) c.self.view_is in
    let first : c.args.x ≤ length i.log.items = omega (arith, c.requires.first, same) in
    let second : c.args.y ≤ length i.log.items = omega (arith, c.requires.second, same) in
    rw (← c.self.view_is) (before_is i.links i.log.items kept c.args.x c.args.y _ _ first second
    (c.index.ensures ∙ get_or_default_zero i.links.label.items c.args.x c.index.result.now (omega (arith, first, count)))
    (c.index-2.ensures ∙ get_or_default_zero i.links.label.items c.args.y c.index-2.result.now (omega (arith, second, count))))
