use Rattle.std.proofs.Common.{rules}
use Rattle.std.proofs.lemmas.List.Sorted.{All-permutation, IsNonDecreasingBy-from_sort_by_key, answers_always}
use Rattle.std.proofs.lemmas.Result.{IfOk-weaker}
use Rattle.dag_build.specs.NodeColumns.{IsAccessOf}
use Rattle.dag_build.proofs.CellGroups.{cell_of}
use Rattle.dag_build.proofs.SortedAccesses.{accesses_to-stable, first_races_of_same}
use Rattle.dag_build.proofs.dag.Dag.sorted_races.Goals as goal

pub races_by_cell-requires-clause-inside : goal.races_by_cell-requires-clause-inside
races_by_cell-requires-clause-inside c =
    rw c.as_slice.ensures.value
    (All-permutation (IsAccessOf c.args.self.now) _ _ c.sort_by_key.ensures.permutation
    (rw (c.in_ok-sorted.ensures.items) c.requires))

pub races_by_cell-requires-clause-sorted : goal.races_by_cell-requires-clause-sorted
races_by_cell-requires-clause-sorted c =
    rw c.as_slice.ensures.value
    (IsNonDecreasingBy-from_sort_by_key cell_of _ c.in_ok-sort_by_key.ensures.sorted (λ a r q k. search rules))

pub returns : goal.returns
returns c =
    IfOk-weaker c.races_by_cell.result _ _
    (λ reports h. first_races_of_same _ _ _ reports
    (accesses_to-stable _ _ (rw (c.in_ok-sorted.ensures.items) at
    (c.in_ok-sort_by_key.ensures.stable cell_of (answers_always _ _ _ (λ f a r g h. search rules)))))
    (rw c.as_slice.ensures.value at h)) c.races_by_cell.ensures
