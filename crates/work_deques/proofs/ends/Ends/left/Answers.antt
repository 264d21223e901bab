use Rattle.std.proofs.Common.{◌∙◌, map}
use Rattle.std.proofs.lemmas.List.{length-map}
use Rattle.work_deques.proofs.DequeSteps.{learns}
use Rattle.work_deques.proofs.ends.Ends.left.Goals as goal

pub len_as-requires : goal.len_as-requires
len_as-requires g c = learns g.Q.TaskTest.meets g.Q.TaskTest.tag _ _ c.requires

pub returns : goal.returns
returns g c =
    let r = c.len_as.ensures.rule in
    (map g.Q.TaskTest.tag r.0, length-map r.0 g.Q.TaskTest.tag ∙ r.1, r.2)
