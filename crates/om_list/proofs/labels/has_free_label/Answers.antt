-- Labels are below 2^62.
use Rattle.std.proofs.Common.{◌∙◌, arith}
use Rattle.std.proofs.lemmas.Grind.{get_or_default_zero}
use Rattle.om_relabel.proofs.Walks.{label_below}
use Rattle.om_list.proofs.labels.has_free_label.Goals as goal

pub overflow_add-result : goal.overflow_add-result
overflow_add-result c =
    let below = label_below c.args.links.now c.requires.labelled c.args.x c.requires.there in
    let at = c.index.ensures ∙ get_or_default_zero c.args.links.now.label.items c.args.x c.index.result.now c.requires.there in
    omega (arith, below, at)
