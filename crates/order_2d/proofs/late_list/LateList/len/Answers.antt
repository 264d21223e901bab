-- There are fewer elements than the list has room for.
use Rattle.std.proofs.Common.{arith, length-append}
use Rattle.std.proofs.lemmas.Grind.{common_steps}
use Rattle.order_2d.proofs.late_list.LateList.len.Goals as goal

pub overflow_cast-result : goal.overflow_cast-result
overflow_cast-result c =
    let room = c.self.invariant.1 in
    let most = c.self.invariant.3 in
    let all = length-append c.self.inside.list.log c.self.inside.pending.items in
    grind (arith, common_steps)

pub overflow_add-result : goal.overflow_add-result
overflow_add-result c =
    let room = c.self.invariant.1 in
    let most = c.self.invariant.3 in
    let all = length-append c.self.inside.list.log c.self.inside.pending.items in
    grind (arith, common_steps)
