use Rattle.std.proofs.Common.{refl, rules, sym}
use Rattle.run_record.proofs.Outlines.{update_at, update_past}
use Rattle.run_record.proofs.own_columns.set_status.Goals as goal

pub returns-then-index-len : goal.returns-then-index-len
returns-then-index-len c =
    update_at c.args.iterations.now.items c.args.iteration c.index_mut-changed.result.now _ _ (search rules)
    c.index_mut-changed.ensures.value refl

pub returns-else-index-len : goal.returns-else-index-len
returns-else-index-len c = sym (update_past c.args.iterations.now.items c.args.iteration _ (search rules))
