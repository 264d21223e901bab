use Rattle.std.proofs.Common.{◌≤◌, ◌*◌, List, ap, arith, length, subst, sym}
use Rattle.pipe_span.specs.declared.entry.Entry.{Entry}
use Rattle.pipe_span.specs.Entries.{entry_at, most_entries, most_weight, weight_in}
use Rattle.pipe_span.specs.Tables.{AreRows}
use Rattle.pipe_span.proofs.AllRows.{few_rows}
use Rattle.pipe_span.proofs.TracedPaths.{heaviest_to}
use Rattle.pipe_span.proofs.heaviest.heaviest_path.Goals as goal

pub heaviest_last-last-requires-clause-bounded : goal.heaviest_last-last-requires-clause-bounded
heaviest_last-last-requires-clause-bounded c =
    rw c.as_slice-rows.ensures (few_rows _ _ _ c.requires.columns c.in_ok-table.ensures c.requires.bounded)

pub traced-requires-clause-bounded : goal.traced-requires-clause-bounded
traced-requires-clause-bounded c =
    rw c.as_slice-rows.ensures (few_rows _ _ _ c.requires.columns c.in_ok-table.ensures c.requires.bounded)

pub returns-clause-heaviest : goal.returns-clause-heaviest
returns-clause-heaviest c =
    let rows : AreRows c.args.columns.now c.args.weights.now c.as_slice-rows.result.now = rw c.as_slice-rows.ensures c.in_ok-table.ensures
    in
    heaviest_to c.args.columns.now c.args.weights.now c.as_slice-rows.result.now c.heaviest_last-last.result _ _ rows
    c.heaviest_last-last.ensures
    c.in_ok-path.ensures.traced c.in_ok-path.ensures.weight
    (ap (λ (r : List Entry). (entry_at r c.heaviest_last-last.result.index).weight) c.entries_of.ensures)

pub rows_of-requires : goal.rows_of-requires
rows_of-requires c = record {
  columns = c.requires.columns;
  rising = c.requires.rising;
  weights = c.requires.weights;
  whole = c.requires.whole;
  bounded = c.requires.bounded;
}

pub heaviest_last-last-requires-clause-nonempty : goal.heaviest_last-last-requires-clause-nonempty
heaviest_last-last-requires-clause-nonempty c =
    omega (arith, ap length c.as_slice-rows.ensures, c.in_ok-table.ensures.whole, c.requires.nonempty)

pub heaviest_last-last-requires-clause-full : goal.heaviest_last-last-requires-clause-full
heaviest_last-last-requires-clause-full c =
    let rows : AreRows c.args.columns.now c.args.weights.now c.as_slice-rows.result.now = rw c.as_slice-rows.ensures c.in_ok-table.ensures
    in
    λ i within. omega (arith, rows.lengths i, c.requires.columns.full i (omega (arith, rows.whole, within)))

pub traced-requires-clause-rows : goal.traced-requires-clause-rows
traced-requires-clause-rows c = rw c.as_slice-rows.ensures c.in_ok-table.ensures

pub traced-requires-clause-last : goal.traced-requires-clause-last
traced-requires-clause-last c = c.heaviest_last-last.ensures.within

pub returns-clause-below : goal.returns-clause-below
returns-clause-below c =
    let last = c.heaviest_last-last.result in
    let rows : AreRows c.args.columns.now c.args.weights.now c.as_slice-rows.result.now = rw c.as_slice-rows.ensures c.in_ok-table.ensures
    in
    subst (λ (row : List Entry). weight_in row last.index ≤ most_weight * most_entries) (sym c.entries_of.ensures)
    ((rows.below last.iteration).each last.index)
