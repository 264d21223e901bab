use Rattle.std.proofs.Common.{◌∙◌, ◌+◌, arith, length, ap}
use Rattle.pipe_model.specs.Races.Columns.{nodes_at}
use Rattle.pipe_span.specs.Entries.{AreEntries, IsBounded}
use Rattle.pipe_span.specs.HeaviestPaths.{instances_before}
use Rattle.pipe_span.specs.Tables.{left_nodes, left_row}
use Rattle.pipe_span.proofs.AllRows.{all_rows, column_within, first_more, one_more_row}
use Rattle.pipe_span.proofs.rows.rows_of.Goals as goal

pub row_of-requires-clause-place : goal.row_of-requires-clause-place
row_of-requires-clause-place c =
    let a = column_within c.args.columns.now c.loop-i.i c.loop-i-test.true in
    let b = c.loop-i.invariant.0 in
    let d = ap length c.nodes_of-right.ensures in
    let e = c.requires.whole in
    omega (arith, a, b, d, e)

pub row_of-requires-clause-bounded : goal.row_of-requires-clause-bounded
row_of-requires-clause-bounded c =
    let a = column_within c.args.columns.now c.loop-i.i c.loop-i-test.true in
    let b = c.loop-i.invariant.0 in
    let d = ap length c.nodes_of-right.ensures in
    let e = c.requires.bounded in
    omega (arith, a, b, d, e)

pub overflow_add-first : goal.overflow_add-first
overflow_add-first c =
    let a = column_within c.args.columns.now c.loop-i.i c.loop-i-test.true in
    let b = c.loop-i.invariant.0 in
    let d = ap length c.nodes_of-right.ensures in
    let e = c.requires.bounded in
    omega (arith, a, b, d, e)

pub loop-i-preserved : goal.loop-i-preserved
loop-i-preserved c =
    let a = first_more c.args.columns.now c.loop-i.i in
    let b = c.loop-i.invariant.0 in
    let d = ap length c.nodes_of-right.ensures in
    let len = c.in_ok-row.ensures.whole ∙ d in
    let entries : AreEntries (left_nodes c.args.columns.now c.loop-i.i) (nodes_at c.args.columns.now c.loop-i.i)
    (left_row c.loop-i.rows c.loop-i.i)
    c.in_ok-row.row c.args.weights.now (instances_before c.args.columns.now c.loop-i.i) =
    rw (← c.nodes_left_of-left.ensures, ← c.nodes_of-right.ensures, ← c.as_slice.ensures, ← c.entries_left_of-left_row.ensures, ← b)
    c.in_ok-row.ensures.entries in
    let below : IsBounded (instances_before c.args.columns.now c.loop-i.i + length (nodes_at c.args.columns.now c.loop-i.i))
    c.in_ok-row.row =
    rw (← c.nodes_of-right.ensures, ← b) c.in_ok-row.ensures.below in (
      omega (arith, a, b, d),
      one_more_row _ _ _ _ _ _ c.loop-i.invariant.1 len entries below c.in_ok-push.ensures.ok,
    )

pub returns : goal.returns
returns c = all_rows _ _ _ _ (omega arith) c.requires.bounded c.loop-i.invariant.1
