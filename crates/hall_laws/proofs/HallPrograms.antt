-- Closed halls of whole programs.
use Rattle.std.proofs.Common.{◌≡◌, ◌∙◌, refl, sym, ap, subst, List, [], ◌∷◌, map, All}
use Rattle.std.specs.List.Sorted.{IsPermutation}
use Rattle.access_history.specs.declared.history.Found.{Found}
use Rattle.pipe_model.specs.declared.access.CellId.{CellId}
use Rattle.pipe_model.specs.Language.SyntaxTree.{tree_of}
use Rattle.pipe_model.specs.Pipelines.Pipeline.{Pipeline}
use Rattle.pipe_model.specs.Pipelines.WholePrograms.{init_accesses, loop_after_init}
use Rattle.pipe_model.specs.Runs.RunLogs.{column_of_frame, ended_columns_after, state_after}
use Rattle.pipe_model.specs.Runs.State.{Frame}
use Rattle.pipe_model.specs.Runs.WholeProgramRuns.{OfLoop, WithLoop}
use Rattle.program_laws.proofs.Headlines.{runs_meet_the_headline}
use Rattle.run_laws.proofs.RunStates.IterationCounts.{runs_keep_rules}
use Rattle.race_report.specs.RaceReports.{IsFoundIn, report_found}
use Rattle.run_record.proofs.RunColumns.{runs_make_their_columns}
use Rattle.hall_laws.specs.HallPrograms.{FinishedHallsMeetTheHeadline, MergedHallsReportTheirRaces, MergedHallsAreProgramRuns, whole_in}
use Rattle.hall_laws.specs.HallRuns.{IsRunOfHall}
use Rattle.hall_laws.proofs.FoundRaces.{histories_find_races}
use Rattle.hall_laws.proofs.HallRuns.{closed_halls_are_runs}
use Rattle.pipe_model.specs.Races.Columns.{node_columns}

nodes_of_frames : (frames : List Frame) → node_columns (map column_of_frame frames) ≡ map (λ (f : Frame). f.nodes) frames
nodes_of_frames [] = refl
nodes_of_frames (f ∷ frames) = ap (λ ns. f.nodes ∷ ns) (nodes_of_frames frames)

pub merged_halls_are_program_runs : MergedHallsAreProgramRuns
merged_halls_are_program_runs v shards log h =
    let r : IsRunOfHall v (init_accesses (whole_in v)) shards log.events = closed_halls_are_runs v
    (init_accesses (whole_in v)) shards log.events h.closed h.none h.events in
    let p : Pipeline = loop_after_init (whole_in v) in
    let columns : log.columns ≡ ended_columns_after log.events = h.columns ∙ runs_make_their_columns p v.limit log.events r.run in
    record {
      run = OfLoop h.opened r.run;
      columns = columns;
      nodes = ap node_columns columns ∙ nodes_of_frames (state_after log.events).frames;
      throttled = (runs_keep_rules p v.limit log.events (state_after log.events) r.run).throttled;
      finished = λ f. record { run = OfLoop h.opened r.run; finished = WithLoop h.opened (r.finished f); columns = columns };
      stopped = r.stopped;
    }

pub finished_halls_meet_the_headline : FinishedHallsMeetTheHeadline
finished_halls_meet_the_headline v shards log reports races rules h finished right =
    runs_meet_the_headline (tree_of v.program) v.input v.limit log reports races rules
    ((merged_halls_are_program_runs v shards log h).finished finished) right

pub merged_halls_report_their_races : MergedHallsReportTheirRaces
merged_halls_report_their_races v shards log history found reports h noted are =
    let r : IsRunOfHall v (init_accesses (whole_in v)) shards log.events = closed_halls_are_runs v
    (init_accesses (whole_in v)) shards log.events h.closed h.none h.events in
    let finds = histories_find_races v (init_accesses (whole_in v)) shards log.events history found r noted are in
    let nodes = (merged_halls_are_program_runs v shards log h).nodes in (
      subst (λ cs. All (λ (f : CellId × Found). IsFoundIn cs f.1) found) (sym nodes) finds.inside,
      λ same rise. finds.reports reports (subst (λ cs. IsPermutation (map (λ (f : CellId × Found). report_found cs f.0 f.1) found) reports)
          nodes same) rise,
    )
