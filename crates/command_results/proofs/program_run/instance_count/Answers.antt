use Rattle.std.proofs.Common.{◌≡◌, ◌<◌, ◌+◌, suc, ap, arith, length, get_or}
use Rattle.command_results.proofs.InstanceCounts.{count_is_small, counted_with}
use Rattle.command_results.proofs.program_run.instance_count.Goals as goal

pub overflow_add-count : goal.overflow_add-count
overflow_add-count c =
    let columns = c.args.columns.now in
    let k = c.loop-column.column-index in
    let column = c.column-item.result in
    let same = c.as_slice-column-items.ensures in
    let within : k < length columns = (let l = ap length same in omega (arith, l)) in
    let at : column ≡ get_or columns k column = rw same at c.column-item.is in
    let small = count_is_small columns k c.loop-column.count column within at c.loop-column.invariant c.requires in
    let length_is = c.len.ensures in
    omega (arith, small, length_is)

pub loop-column-preserved : goal.loop-column-preserved
loop-column-preserved c =
    let columns = c.args.columns.now in
    let k = c.loop-column.column-index in
    let column = c.column-item.result in
    let same = c.as_slice-column-items.ensures in
    let within : k < length columns = (let l = ap length same in omega (arith, l)) in
    let at : column ≡ get_or columns k column = rw same at c.column-item.is in
    let here : suc k ≡ k + 1 = omega arith in
    let more = rw here at (counted_with columns k column within at) in
    let length_is = c.len.ensures in
    let counted = c.loop-column.invariant in
    omega (arith, more, length_is, counted)
