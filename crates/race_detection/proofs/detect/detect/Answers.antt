use Rattle.std.proofs.Common.{◌≡◌, ◌∙◌, ap, arith, length}
use Rattle.order_2d.specs.LogStarts.{log_columns, log_starts}
use Rattle.race_detection.specs.NotedRuns.{found_below}
use Rattle.race_detection.specs.FoundReports.{cell_bound}
use Rattle.race_detection.specs.LogAccesses.{log_accesses}
use Rattle.race_detection.proofs.CellBounds.{cells_below}
use Rattle.race_detection.proofs.FoundRaces.{all_detected, found_apart, found_inside}
use Rattle.race_detection.proofs.NotedCells.{count_of_nothing, none_noted}
use Rattle.race_detection.proofs.ReplayedRuns.{are_lists, is_replay}
use Rattle.race_detection.proofs.detect.detect.Goals as goal
use Rattle.pipe_model.specs.Races.Columns.{node_columns}

pub note_all-requires-clause-run : goal.note_all-requires-clause-run
note_all-requires-clause-run c =
    let e = c.in_ok-replayed.ensures in
    is_replay c.args.run_log.now c.in_ok-replayed.replayed c.requires.own e.nodes e.down e.right e.marks e.rows e.placed e.instances

pub note_all-requires-clause-lists : goal.note_all-requires-clause-lists
note_all-requires-clause-lists c =
    let e = c.in_ok-replayed.ensures in
    are_lists c.args.run_log.now c.in_ok-replayed.replayed c.requires.own e.nodes e.down e.right

pub note_all-requires-clause-cells : goal.note_all-requires-clause-cells
note_all-requires-clause-cells c = λ k d w.
    let count : length c.in_ok-histories.histories.items ≡ c.cell_bound.result = ap length c.in_ok-histories.ensures
    ∙ count_of_nothing c.cell_bound.result in
    let bound = c.cell_bound.ensures.bound in
    let below = cells_below (log_accesses c.as_slice-events.result.now) k d w in
    omega (arith, count, bound, below)

pub note_all-requires-clause-empty : goal.note_all-requires-clause-empty
note_all-requires-clause-empty c = none_noted (node_columns c.args.run_log.now.columns) c.in_ok-replayed.replayed.nodes
    c.cell_bound.result _ c.in_ok-histories.ensures

pub found_races-requires : goal.found_races-requires
found_races-requires c =
    let count : length c.in_ok-histories.histories.items ≡ c.cell_bound.result = ap length c.in_ok-histories.ensures
    ∙ count_of_nothing c.cell_bound.result in
    let kept = c.in_ok-note_all.ensures.count in
    let here = ap length c.as_slice.ensures.value in
    let small = c.cell_bound.ensures.small in
    omega (arith, count, kept, here, small)

pub gather-requires-clause-cells : goal.gather-requires-clause-cells
gather-requires-clause-cells c =
    found_apart c.as_slice.result.now (length c.as_slice.result.now) c.as_slice-2.result.now
    (c.as_slice-2.ensures.value ∙ c.in_ok-found.ensures)

pub gather-requires-clause-instances : goal.gather-requires-clause-instances
gather-requires-clause-instances c =
    let same = c.as_slice.ensures.value in
    found_inside (node_columns c.args.run_log.now.columns) c.in_ok-replayed.replayed.nodes
    (log_accesses c.as_slice-events.result.now) c.note_all.new.histories.items c.as_slice-2.result.now c.in_ok-note_all.ensures.noted
    (c.as_slice-2.ensures.value ∙ c.in_ok-found.ensures ∙ ap (λ hs. found_below hs (length hs)) same)

pub returns : goal.returns
returns c =
    let same = c.as_slice.ensures.value in
    let events = c.args.run_log.now.events in
    let logged = ap log_accesses c.as_slice-events.ensures in
    let count : length c.in_ok-histories.histories.items ≡ c.cell_bound.result = ap length c.in_ok-histories.ensures
    ∙ count_of_nothing c.cell_bound.result in
    all_detected (node_columns c.args.run_log.now.columns) (log_columns events) c.in_ok-replayed.replayed.nodes (log_starts events)
    (log_accesses c.as_slice-events.result.now) (log_accesses events) c.note_all.new.histories.items (cell_bound (log_accesses events))
    c.as_slice-2.result.now c.gather.result c.in_ok-note_all.ensures.noted
    (c.as_slice-2.ensures.value ∙ c.in_ok-found.ensures ∙ ap (λ hs. found_below hs (length hs)) same)
    c.requires.own.columns c.in_ok-replayed.ensures.nodes logged
    (c.in_ok-note_all.ensures.count ∙ count ∙ c.cell_bound.ensures.bound ∙ ap cell_bound logged) c.gather.ensures.each c.gather.ensures.rise
