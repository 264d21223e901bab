use Rattle.std.proofs.Common.{ap}
use Rattle.std.proofs.lemmas.List.Elements.{All-drop}
use Rattle.std.proofs.lemmas.List.Sums.{prefix_len-le-length}
use Rattle.pipe_model.specs.declared.access.CellId.{CellId}
use Rattle.dag_build.specs.NodeColumns.{IsAccessOf}
use Rattle.dag_build.proofs.CellGroups.{group_of_first, progress_starts, progress_without, progress_with}
use Rattle.dag_build.proofs.dag.Dag.races_by_cell.Goals as goal

pub loop-first-init : goal.loop-first-init
loop-first-init c = (rw c.new-reports.ensures (progress_starts _ _ c.requires.sorted), c.requires.inside)

pub split_at-requires : goal.split_at-requires
split_at-requires c = rw c.leading.ensures (prefix_len-le-length _ _)

pub loop-first-preserved-in_ok-push : goal.loop-first-preserved-in_ok-push
loop-first-preserved-in_ok-push c =
    let before = c.loop-first.invariant in
    let group = group_of_first _ _ _ c.in-Some.ensures.value c.leading.ensures before.0.sorted in (
      rw (c.in_ok-push.ensures.ok, c.split_at.ensures.back) (progress_with _ _ _ _ _ _ _ before.0 group
          (rw c.split_at.ensures.front at c.in-Some-cell_report.ensures.some)
          (ap (λ (cell : CellId). cell.0) c.in-Some-cell_report.ensures.cell)),
      rw c.split_at.ensures.back (All-drop (IsAccessOf c.args.self.now) _ _ before.1),
    )

pub loop-first-preserved : goal.loop-first-preserved
loop-first-preserved c =
    let before = c.loop-first.invariant in
    let group = group_of_first _ _ _ c.in-Some.ensures.value c.leading.ensures before.0.sorted in (
      rw c.split_at.ensures.back (progress_without _ _ _ _ _ _ before.0 group
          (rw c.split_at.ensures.front at c.in_default-cell_report.ensures.none)),
      rw c.split_at.ensures.back (All-drop (IsAccessOf c.args.self.now) _ _ before.1),
    )
