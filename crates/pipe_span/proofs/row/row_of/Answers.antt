use Rattle.std.proofs.Common.{◌+◌, arith, get_or}
use Rattle.pipe_span.specs.Entries.{IsNextEntry}
use Rattle.pipe_span.proofs.LeftParents.{parent_within, still_counted}
use Rattle.pipe_span.proofs.ColumnRows.{one_more_entry}
use Rattle.pipe_span.proofs.row.row_of.Goals as goal

pub entry_of-requires-clause-left : goal.entry_of-requires-clause-left
entry_of-requires-clause-left c = λ j e. (
    let w = parent_within _ _ _ _ c.left_parent-parent.ensures j e in
    let s = c.requires.whole in
    omega (arith, w, s))

pub loop-k-preserved : goal.loop-k-preserved
loop-k-preserved c =
    let step : IsNextEntry c.args.left_row.now c.loop-k.row c.left_parent-parent.result
    (get_or c.args.weights.now (c.args.first + c.loop-k.k) 0) c.entry_of.result
    = rw (← c.as_slice.ensures) c.entry_of.ensures.step in (
      c.count_up_to-count.ensures.within,
      still_counted c.args.left.now c.args.right.now c.loop-k.k c.count_up_to-count.result c.requires.right c.count_up_to-count.ensures,
      one_more_entry _ _ _ _ _ _ _ _ _ _ c.loop-k.invariant.2 c.left_parent-parent.ensures step c.entry_of.ensures.below
          c.in_ok-push.ensures.ok,
    )
