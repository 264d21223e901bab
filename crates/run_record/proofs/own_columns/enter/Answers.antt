use Rattle.std.proofs.Common.{refl, rules, sym}
use Rattle.pipe_model.specs.declared.status.Status.TheVariants.{Running, Completed}
use Rattle.run_record.proofs.Outlines.{entered, not_entered, update_at, update_past}
use Rattle.run_record.proofs.own_columns.enter.Goals as goal

pub returns-in_ok-push-in-Pending : goal.returns-in_ok-push-in-Pending
returns-in_ok-push-in-Pending c =
    update_at c.args.iterations.now.items c.args.iteration c.index_mut-entered.result.now _ _ (search rules)
    c.index_mut-entered.ensures.value
    (entered c.index_mut-entered.result.now c.in-Pending.kind c.in-Pending.number _ c.in-Pending.is (search rules))

pub returns-in-Running : goal.returns-in-Running
returns-in-Running c =
    update_at c.args.iterations.now.items c.args.iteration c.index_mut-entered.result.now _ _ (search rules)
    c.index_mut-entered.ensures.value (not_entered c.index_mut-entered.result.now Running c.in-Running.is refl)

pub returns-in-Completed : goal.returns-in-Completed
returns-in-Completed c =
    update_at c.args.iterations.now.items c.args.iteration c.index_mut-entered.result.now _ _ (search rules)
    c.index_mut-entered.ensures.value (not_entered c.index_mut-entered.result.now (Completed c.in-Completed.field-0) c.in-Completed.is refl)

pub returns-else-index-len : goal.returns-else-index-len
returns-else-index-len c = sym (update_past c.args.iterations.now.items c.args.iteration _ (search rules))
