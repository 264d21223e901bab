-- Runs of accepted programs, as they are played: their races can be detected, and they have the schedules of the definition.
use Rattle.std.proofs.Common.{◌≡◌, ◌∙◌, inl, inr, ap, ap₂, sym, subst, refl, arith, ℕ, zero, suc, ℤ, ◌<◌, ◌≤◌, ◌++◌, All, List, [], ◌∷◌}
use Rattle.std.proofs.Common.{false, Option, Some, None, length, map, get_or}
use Rattle.std.specs.Prelude.{◌↔◌, option_map}
use Rattle.std.specs.Prelude.{IsTrue}
use Rattle.std.proofs.lemmas.Bool.{cases_lt}
use Rattle.cell_store.specs.ShardState.{IsStateAfter}
use Rattle.pipe_model.specs.Language.Programs.{store_of}
use Rattle.pipe_model.specs.Pipelines.WholePrograms.{init_accesses}
use Rattle.stage_code.specs.FlatCode.{FlatCode}
use Rattle.schedule_play.specs.declared.loop_play.LoopPlay.{LoopPlay}
use Rattle.schedule_play.specs.declared.loop_play.PlayLimits.{PlayLimits}
use Rattle.schedule_play.specs.LoopPlays.{IsEndOf, IsLoopPlay}
use Rattle.schedule_play.specs.OneAccess.{HasAllCells}
use Rattle.schedule_play.specs.PlayStates.{IsPlay, PlayState, pipeline_played, run_state}
use Rattle.order_2d.specs.declared.starts.TheConstants.{MOST_STARTS}
use Rattle.order_2d.specs.LogStarts.{IsOwnLog, log_columns, log_starts}
use Rattle.pipe_model.specs.declared.access.NodeAccess.{NodeAccess}
use Rattle.pipe_model.specs.declared.column.Column.{Column}
use Rattle.pipe_model.specs.declared.event.Event.{Event}
use Rattle.pipe_model.specs.declared.node.Node.{Node}
use Rattle.pipe_model.specs.Language.ProgramsOfTrees.{pipeline_after_init, whole_of}
use Rattle.pipe_model.specs.Language.CheckingRules.{BreaksNoRule}
use Rattle.pipe_model.specs.Language.SyntaxTree.{SyntaxTree, tree_of}
use Rattle.pipe_model.specs.Orders.Starts.{starts_of}
use Rattle.pipe_model.specs.Pipelines.Pipeline.{IsWellFormed, Pipeline}
use Rattle.pipe_model.specs.Races.Columns.{IsNodeOf, nodes_at, node_columns}
use Rattle.pipe_model.specs.Races.Reports.{AreRight}
use Rattle.pipe_model.specs.Runs.Run.{IsFinished, Run}
use Rattle.pipe_model.specs.Runs.RunLogs.{accesses_after, column_of_frame, columns_after, ended_columns_after, state_after}
use Rattle.pipe_model.specs.Runs.Schedules.{candidates, chosen, played, running_instances}
use Rattle.pipe_model.specs.Runs.State.{Frame, State, accesses_of, own_columns}
use Rattle.pipe_model.specs.Runs.Throttling.{IsThrottled}
use Rattle.pipe_model.proofs.Members.{among_at}
use Rattle.book_laws.proofs.PlannedPrograms.{accepted_programs_are_planned}
use Rattle.schedule_laws.proofs.Candidates.{played_runs_are_runs}
use Rattle.program_laws.proofs.InstanceBounds.{program_instances_are_bounded}
use Rattle.schedule_laws.proofs.CountedStarts.{starts_are_counted}
use Rattle.schedule_laws.proofs.PlayedSchedules.{finished_runs_have_no_candidate, schedules_play_runs}
use Rattle.race_detection.proofs.RunReports.{runs_are_detected}
use Rattle.race_detection.specs.FoundReports.{found_reports}
use Rattle.race_detection.specs.LogAccesses.{log_accesses}
use Rattle.run_laws.proofs.RunStates.IterationCounts.{runs_keep_rules}
use Rattle.run_record.proofs.RunColumns.{runs_make_their_columns}
use Rattle.run_record.specs.OwnColumns.{made_columns}

-- ---- detection

nodes_of_frames : (frames : List Frame) → node_columns (map column_of_frame frames) ≡ map (λ (f : Frame). f.nodes) frames
nodes_of_frames [] = refl
nodes_of_frames (f ∷ frames) = ap (λ ns. f.nodes ∷ ns) (nodes_of_frames frames)

-- a column with an instance is there
pub column_inside : (columns : List (List Node)) (i k : ℕ) → k < length (nodes_at columns i) → i < length columns
column_inside [] i k w = absurd (omega (arith, w))
column_inside (c ∷ cs) zero k w = omega arith
column_inside (c ∷ cs) (suc i) k w = let h = column_inside cs i k w in omega (arith, h)

-- what detection needs of a run's log, and what it finds
pub record IsDetectable (columns : List Column) (events : List Event) : Type 0 where
  pub ended : columns ≡ ended_columns_after events
  pub own : IsOwnLog (record { columns = columns; events = events })
  pub bounded : length (log_starts events) ≤ MOST_STARTS
  pub inside : All (λ (a : NodeAccess). IsNodeOf (log_columns events) a.node) (log_accesses events)
  pub found : found_reports (log_columns events) (log_starts events) (log_accesses events)
      ≡ found_reports (columns_after events) (starts_of events) (accesses_after events)

pub detectable : (tree : SyntaxTree) (input : List ℤ) (limit : ℕ) (events : List Event) (columns : List Column)
    → BreaksNoRule tree → Run (pipeline_after_init tree input) limit events (state_after events) → columns ≡ made_columns events
    → IsDetectable columns events
detectable tree input limit events columns accepted run made =
    let p = pipeline_after_init tree input in
    let s = state_after events in
    let d = runs_are_detected p limit events s run in
    let rules = runs_keep_rules p limit events s run in
    let ended : columns ≡ ended_columns_after events = made ∙ runs_make_their_columns p limit events run in
    let counted = starts_are_counted p limit events s run in
    let small = program_instances_are_bounded tree input limit events s accepted run in
    let bounded = (accepted_programs_are_planned tree input accepted).bounded in
    let starts = ap length d.starts in
    record {
      ended = ended;
      own = record { control = d.control; columns = ap node_columns ended ∙ nodes_of_frames s.frames ∙ sym d.columns };
      bounded = omega (arith, counted, small, bounded, starts);
      inside = subst (λ cs. All (λ (a : NodeAccess). IsNodeOf cs a.node) (log_accesses events)) (sym d.columns)
          (subst (All (λ (a : NodeAccess). IsNodeOf (own_columns s) a.node)) (sym d.accesses)
          (λ k x w. let inside = rules.inside (get_or s.accesses k x) (among_at s.accesses k x w) in
          (column_inside (own_columns s) (get_or s.accesses k x).node.iteration (get_or s.accesses k x).node.index inside, inside)));
      found = λ i. found_reports (d.columns i) (d.starts i) (d.accesses i);
    }

-- the reports of a run are right
pub reports_right : (p : Pipeline) (limit : ℕ) (events : List Event) → Run p limit events (state_after events)
    → AreRight (own_columns (state_after events)) (state_after events).accesses
    (found_reports (own_columns (state_after events)) (starts_of events) (state_after events).accesses)
reports_right p limit events run = (runs_are_detected p limit events (state_after events) run).right

-- ---- the end of a run

-- no turn is found exactly if the run is finished
pub finished_by : {T : Type 0} (f : T → Option Event) (t : Option T) (p : Pipeline) (limit : ℕ) (events : List Event) (s : State)
    → Run p limit events s
    → IsWellFormed p → 0 < limit → s.stopped ≡ false → option_map f t ≡ option_map Some (chosen 0 (candidates p limit 1 s))
    → (t ≡ None) ↔ IsFinished s
finished_by {T} f t p limit events s run well some going is = by (candidates p limit 1 s) refl t is
  where
    finished : IsFinished s ↔ (candidates p limit 1 s ≡ [])
    finished = finished_runs_have_no_candidate p limit 1 events s run well some (omega arith) going

    by : (es : List Event) → candidates p limit 1 s ≡ es → (o : Option T) → option_map f o ≡ option_map Some (chosen 0 es)
        → (o ≡ None) ↔ IsFinished s
    by [] none None q = ((λ e. finished.1 none), (λ h. refl))
    by [] none (Some x) q = absurd (cc)
    by (e ∷ es) more None q = absurd (cc)
    by (e ∷ es) more (Some x) q = ((λ z. absurd (cc)), (λ h. absurd (let z : e ∷ es ≡ [] = sym more ∙ finished.0 h in cc)))

-- ---- schedules

-- what holds of a schedule of a well-formed pipeline
pub record IsPlayedRun (p : Pipeline) (limit workers turns : ℕ) (events : List Event) : Type 0 where
  pub run : Run p limit events (state_after events)
  pub at_most_workers : (before after : List Event) → events ≡ before ++ after → running_instances (state_after before) ≤ workers
  pub throttled : IsThrottled limit events
  pub all_turns : (IsFinished (state_after events) → ⊥) → length events ≡ turns

pub schedule_is_run : (p : Pipeline) (limit workers : ℕ) (choices : List ℕ) (turns : ℕ) (events : List Event) → IsWellFormed p → 0 < limit
    → 0 < workers
    → events ≡ played p limit workers choices turns → IsPlayedRun p limit workers turns events
schedule_is_run p limit workers choices turns events well some busy are =
    subst (IsPlayedRun p limit workers turns) (sym are) here
  where
    here : IsPlayedRun p limit workers turns (played p limit workers choices turns)
    here =
        let h = schedules_play_runs p limit workers choices turns well some busy in
        let r = played_runs_are_runs p limit workers (played p limit workers choices turns)
        (state_after (played p limit workers choices turns)) h.run well in
        let within = h.within in
        record {
          run = r.run;
          at_most_workers = r.at_most_workers;
          throttled = (runs_keep_rules p limit (played p limit workers choices turns) (state_after (played p limit workers choices turns))
              r.run).throttled;
          all_turns = λ unfinished. elim (cases_lt (length (played p limit workers choices turns)) turns) [
            | inl less ↦ absurd (unfinished (h.ended less))
            | inr ge ↦ omega (arith, within, ge)
          ];
        }

-- ---- results

-- a play of the loop is what its player has at the end
pub loop_play : (tree : SyntaxTree) (input : List ℤ) (limits : PlayLimits) (choices : List ℕ) (v : PlayState) (code : FlatCode) (cells : ℕ)
    (r : LoopPlay) → IsPlay code cells v
    → 0 < limits.throttle → 0 < limits.workers → tree_of v.book.program ≡ tree → v.book.input ≡ input → v.book.limit ≡ limits.throttle
    → v.events ≡ played (pipeline_played v) v.book.limit limits.workers choices limits.turns → IsEndOf v r
    → IsLoopPlay tree input limits choices r
loop_play tree input limits choices v code cells r h some busy same_tree same_input same_limit are end =
    let p = pipeline_after_init tree input in
    let same : pipeline_played v ≡ p = ap₂ (λ t i. pipeline_after_init t i) same_tree same_input in
    let events : r.run_log.events ≡ played p limits.throttle limits.workers choices limits.turns =
    end.events ∙ are ∙ ap₂ (λ q l. played q l limits.workers choices limits.turns) same same_limit in
    let run = schedule_is_run p limits.throttle limits.workers choices limits.turns r.run_log.events
    (subst IsWellFormed same h.proper) some busy events in
    let reports : r.reports
    ≡ found_reports (columns_after r.run_log.events) (starts_of r.run_log.events) (accesses_after r.run_log.events) =
    end.reports ∙ ap (λ es. found_reports (columns_after es) (starts_of es) (accesses_after es)) (sym end.events) in
    let finished : IsTrue r.finished ↔ IsFinished (state_after r.run_log.events) =
    subst (λ es. IsTrue r.finished ↔ IsFinished (state_after es)) (sym end.events) end.finished in
    record {
      scheduled = record {
        events = events;
        run = run.run;
        workers = run.at_most_workers;
        throttled = run.throttled;
        columns = end.columns ∙ ap ended_columns_after (sym end.events);
      };
      finished = finished;
      turns = λ unfinished. run.all_turns (λ over. unfinished (finished.1 over));
      reports = reports;
      right = subst (AreRight (columns_after r.run_log.events) (accesses_after r.run_log.events)) (sym reports)
          (reports_right p limits.throttle r.run_log.events run.run);
      state = subst (λ c. IsStateAfter (store_of tree) (init_accesses (whole_of tree input)
          ++ accesses_of (accesses_after r.run_log.events)) c) (sym end.cells)
          (subst (λ es. IsStateAfter (store_of tree) (init_accesses (whole_of tree input) ++ accesses_of (accesses_after es)) v.cells)
          (sym end.events)
          (subst (λ (q : Pipeline). IsStateAfter q.store (q.preamble ++ accesses_of (run_state v).accesses) v.cells) same h.state));
      all = subst HasAllCells (sym end.cells) h.all;
    }
