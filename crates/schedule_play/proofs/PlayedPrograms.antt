-- Programs that were played: what is reported, and when the play is finished.
use Rattle.std.proofs.Common.{◌≡◌, ◌≢◌, ◌∙◌, ap, sym, refl, subst, arith, ℕ, ℤ, ◌<◌, ◌≤◌, ◌++◌, ◌∷◌, List, [], Bool, true, false}
use Rattle.std.specs.Prelude.{IsTrue, is_some, length}
use Rattle.std.proofs.lemmas.Bool.{false≢true}
use Rattle.pipe_model.specs.declared.event.Event.{Event}
use Rattle.pipe_model.specs.declared.event.Event.TheVariants.{Begin, Access, Advance, Enter, Finish, Stop}
use Rattle.pipe_model.specs.declared.event.RunLog.{RunLog}
use Rattle.pipe_model.specs.declared.report.Report.{Report}
use Rattle.pipe_model.specs.Language.ProgramsOfTrees.{pipeline_after_init, whole_of}
use Rattle.pipe_model.specs.Language.CheckingRules.{BreaksNoRule}
use Rattle.pipe_model.specs.Language.SyntaxTree.{SyntaxTree}
use Rattle.pipe_model.specs.Orders.Starts.{starts_of}
use Rattle.pipe_model.specs.Pipelines.SerialElision.{unless}
use Rattle.pipe_model.specs.Pipelines.WholePrograms.{WholeProgram, init_trap}
use Rattle.pipe_model.specs.Pipelines.Pipeline.{Pipeline}
use Rattle.pipe_model.specs.Runs.Run.{EmptyRun, IsFinished, Run, state_from}
use Rattle.pipe_model.specs.Runs.RunLogs.{state_after}
use Rattle.pipe_model.specs.Runs.Schedules.{candidates, played, running_instances}
use Rattle.pipe_model.specs.Runs.State.{State, initial_state, next_state}
use Rattle.pipe_model.specs.Runs.WholeProgramRuns.{NoLoop, OfLoop, ProgramIsFinished, WithLoop, WithoutLoop, played_output, played_trap}
use Rattle.program_laws.proofs.WellFormed.{accepted_is_well_formed}
use Rattle.program_ends.specs.declared.ends.ProgramResults.{ProgramResults}
use Rattle.program_ends.specs.ProgramEnds.{HasResults, reaches_final}
use Rattle.program_ends.proofs.ElidedRuns.{finished_runs_agree_with_elisions}
use Rattle.program_laws.proofs.BoundedWork.{program_runs_are_bounded}
use Rattle.schedule_laws.proofs.Candidates.{played_runs_are_runs}
use Rattle.program_laws.proofs.InstanceBounds.{program_instances_are_bounded}
use Rattle.schedule_laws.proofs.CountedStarts.{starts_are_counted}
use Rattle.schedule_laws.proofs.PlayedSchedules.{finished_runs_have_no_candidate, schedules_play_runs}
use Rattle.program_laws.proofs.FinishedSchedules.{schedules_finish}
use Rattle.program_laws.proofs.ProgramRuns.{well_formed_after}
use Rattle.schedule_laws.specs.ScheduleLaws.{IsPlayed as IsPlayedRun}
use Rattle.schedule_laws.specs.StartCounts.{most_instances}
use Rattle.run_laws.proofs.RunStates.FrontAndBack.{front_is_run}
use Rattle.run_laws.proofs.RunStates.IterationCounts.{runs_keep_rules}
use Rattle.schedule_play.specs.declared.loop_play.LoopPlay.{LoopPlay}
use Rattle.schedule_play.specs.declared.loop_play.PlayLimits.{PlayLimits}
use Rattle.schedule_play.specs.declared.program_play.Played.{Played}
use Rattle.schedule_play.specs.LoopPlays.{IsLoopPlay}
use Rattle.schedule_play.specs.ProgramPlays.{HasElisionResults, IsEndOfLoop, IsPlayed, MeetsPlayGuarantees, enough_turns}
use Rattle.schedule_play.proofs.PlayedRuns.{reports_right}

-- ---- `init` trapped

nothing_before : (before after : List Event) → [] ≡ before ++ after → before ≡ []
nothing_before [] after e = refl
nothing_before (x ∷ before) after e = absurd (cc)

-- the play of a program whose `init` trapped
pub trapped_in_init : (tree : SyntaxTree) (input : List ℤ) (limits : PlayLimits) (choices : List ℕ) (r : ProgramResults)
    → is_some (init_trap (whole_of tree input)) ≡ true → HasResults (whole_of tree input) true initial_state r
    → IsPlayed tree input limits choices
    (record { run_log = record { columns = []; events = [] }; reports = []; output = r.output; trap = r.trap; finished = true })
trapped_in_init tree input limits choices r trapped results =
    let p = pipeline_after_init tree input in
    record {
      log = record {
        events = sym (ap (λ b. unless b (played p limits.throttle limits.workers choices limits.turns)) trapped);
        run = NoLoop trapped;
        columns = refl;
        workers = λ before after e. subst (λ l. running_instances (state_after l) ≤ limits.workers) (sym (nothing_before before after e))
            (omega arith);
        throttled = (runs_keep_rules p limits.throttle [] initial_state EmptyRun).throttled;
        finished = ((λ t. WithoutLoop trapped), (λ f. refl));
        turns = λ no. absurd (no refl);
      };
      reports = record { found = refl; right = reports_right p limits.throttle [] EmptyRun };
      results = record { output = results.output; trap = results.trap };
    }

-- ---- the loop was played

finished_loop : (w : WholeProgram) (s : State) → is_some (init_trap w) ≡ false → ProgramIsFinished w s → IsFinished s
finished_loop w s no_trap (WithoutLoop some) = absurd (false≢true (sym no_trap ∙ some))
finished_loop w s no_trap (WithLoop none over) = over

abbrev result_with : Played → RunLog → List Report → Bool → Played
result_with r log reports finished = record { run_log = log; reports = reports; output = r.output; trap = r.trap; finished = finished }

-- the play of a program whose loop was played
pub loop_was_played : (tree : SyntaxTree) (input : List ℤ) (limits : PlayLimits) (choices : List ℕ) (play : LoopPlay) (r : Played)
    → is_some (init_trap (whole_of tree input)) ≡ false → IsLoopPlay tree input limits choices play
    → IsEndOfLoop (whole_of tree input) play r
    → IsPlayed tree input limits choices r
loop_was_played tree input limits choices play r no_trap loop end =
    let w = whole_of tree input in
    let p = pipeline_after_init tree input in
    let s = state_after play.run_log.events in
    let ran : reaches_final r.finished r.reports ≡ reaches_final play.finished play.reports =
    ap (λ f. reaches_final f r.reports) end.finished ∙ ap (reaches_final play.finished) end.reports in
    let same : result_with r play.run_log play.reports play.finished ≡ r =
    ap (λ x. result_with r x play.reports play.finished) (sym end.log) ∙ ap (λ x. result_with r r.run_log x play.finished) (sym end.reports)
    ∙ ap (result_with r r.run_log r.reports) (sym end.finished) in
    subst (IsPlayed tree input limits choices) same (record {
      log = record {
        events = loop.scheduled.events ∙ sym (ap (λ b. unless b (played p limits.throttle limits.workers choices limits.turns)) no_trap);
        run = OfLoop no_trap loop.scheduled.run;
        columns = loop.scheduled.columns;
        workers = loop.scheduled.workers;
        throttled = loop.scheduled.throttled;
        finished = ((λ t. WithLoop no_trap (loop.finished.0 t)), (λ f. loop.finished.1 (finished_loop w s no_trap f)));
        turns = loop.turns;
      };
      reports = record {
        found = loop.reports;
        right = loop.right;
      };
      results = record {
        output = end.results.output ∙ ap (λ b. played_output w b s) ran;
        trap = end.results.trap ∙ ap (λ b. played_trap w b s) ran;
      };
    })

-- ---- the headline

-- a finished play agrees with the serial elision
agrees : (tree : SyntaxTree) (input : List ℤ) (limits : PlayLimits) (choices : List ℕ) (r : Played) → BreaksNoRule tree
    → IsPlayed tree input limits choices r → IsTrue r.finished → HasElisionResults (whole_of tree input) r
agrees tree input limits choices r accepted h over =
    let w = whole_of tree input in
    let s = state_after r.run_log.events in
    let ran : reaches_final r.finished r.reports ≡ reaches_final true r.reports = ap (λ f. reaches_final f r.reports) over in
    let a = finished_runs_agree_with_elisions tree input limits.throttle r.run_log r.reports
    (record { output = r.output; trap = r.trap }) accepted
    (record { run = h.log.run; finished = h.log.finished.0 over; columns = h.log.columns }) h.reports.right
    (record { output = h.results.output ∙ ap (λ b. played_output w b s) ran; trap = h.results.trap ∙ ap (λ b. played_trap w b s) ran }) in
    record { silent = a.silent; columns = a.columns; output = a.output; trap = a.trap }

-- a stop is not undone
was_going : (s : State) (e : Event) → (next_state s e).stopped ≡ false → s.stopped ≡ false
was_going s (Begin i) h = h
was_going s (Access i a) h = h
was_going s (Advance i k n) h = h
was_going s (Enter i) h = h
was_going s (Finish i e) h = h
was_going s Stop h = absurd (false≢true (sym h))

going_at_first : (s : State) (events : List Event) → (state_from s events).stopped ≡ false → s.stopped ≡ false
going_at_first s [] h = h
going_at_first s (e ∷ events) h = was_going s e (going_at_first (next_state s e) events h)

going_before : (s : State) (before after : List Event) → (state_from s (before ++ after)).stopped ≡ false
    → (state_from s before).stopped ≡ false
going_before s [] after h = going_at_first s after h
going_before s (e ∷ before) after h = going_before (next_state s e) before after h

-- the run of the loop, if `init` did not trap
loop_run : (tree : SyntaxTree) (input : List ℤ) (limits : PlayLimits) (choices : List ℕ) (r : Played) → BreaksNoRule tree
    → 0 < limits.throttle → 0 < limits.workers → IsPlayed tree input limits choices r → is_some (init_trap (whole_of tree input)) ≡ false
    → IsPlayedRun (pipeline_after_init tree input) limits.throttle limits.workers r.run_log.events (state_after r.run_log.events)
loop_run tree input limits choices r accepted throttle workers h none =
    let p = pipeline_after_init tree input in
    let es = played p limits.throttle limits.workers choices limits.turns in
    let events : r.run_log.events ≡ es = h.log.events ∙ ap (λ b. unless b es) none in
    let well = well_formed_after (whole_of tree input) (accepted_is_well_formed tree input accepted) in
    let schedule = schedules_play_runs p limits.throttle limits.workers choices limits.turns well throttle workers in
    subst (λ l. IsPlayedRun p limits.throttle limits.workers l (state_after l)) (sym events)
    (played_runs_are_runs p limits.throttle limits.workers es (state_after es) schedule.run well)

-- a play with enough turns is finished
finishes : (tree : SyntaxTree) (input : List ℤ) (limits : PlayLimits) (choices : List ℕ) (r : Played) → BreaksNoRule tree
    → 0 < limits.throttle → 0 < limits.workers → IsPlayed tree input limits choices r → enough_turns tree ≤ limits.turns → IsTrue r.finished
finishes tree input limits choices r accepted throttle workers h enough = by (is_some (init_trap w)) refl
  where
    w : WholeProgram
    w = whole_of tree input

    by : (b : Bool) → is_some (init_trap w) ≡ b → IsTrue r.finished
    by true some = h.log.finished.1 (WithoutLoop some)
    by false none =
        let events : r.run_log.events ≡ played (pipeline_after_init tree input) limits.throttle limits.workers choices limits.turns =
        h.log.events ∙ ap (λ b. unless b (played (pipeline_after_init tree input) limits.throttle limits.workers choices limits.turns))
        none in
        h.log.finished.1 (WithLoop none (subst (λ es. IsFinished (state_after es)) (sym events)
        (schedules_finish tree input limits.throttle limits.workers choices limits.turns accepted throttle workers enough)))

-- each state of a play that is not finished can go on
goes_on : (tree : SyntaxTree) (input : List ℤ) (limits : PlayLimits) (choices : List ℕ) (r : Played) → BreaksNoRule tree
    → 0 < limits.throttle → 0 < limits.workers → IsPlayed tree input limits choices r → (before after : List Event)
    → r.run_log.events ≡ before ++ after
    → (ProgramIsFinished (whole_of tree input) (state_after before) → ⊥)
    → candidates (pipeline_after_init tree input) limits.throttle limits.workers (state_after before) ≢ []
goes_on tree input limits choices r accepted throttle workers h before after are unfinished = by (is_some (init_trap w)) refl
  where
    w : WholeProgram
    w = whole_of tree input

    p : Pipeline
    p = pipeline_after_init tree input

    by : (b : Bool) → is_some (init_trap w) ≡ b → candidates p limits.throttle limits.workers (state_after before) ≢ []
    by true some = absurd (unfinished (WithoutLoop some))
    by false none = λ empty.
        let well = well_formed_after w (accepted_is_well_formed tree input accepted) in
        let run = loop_run tree input limits choices r accepted throttle workers h none in
        let s = state_after r.run_log.events in
        let front = front_is_run p limits.throttle before after s (subst (λ l. Run p limits.throttle l s) are run.run) in
        let going = going_before initial_state before after (subst (λ l. (state_after l).stopped ≡ false) are run.not_stopped) in
        unfinished (WithLoop none
        ((finished_runs_have_no_candidate p limits.throttle limits.workers before (state_after before) front well throttle workers going).1
        empty))

record IsBounded (tree : SyntaxTree) (events : List Event) : Type 0 where
  most : length events ≤ enough_turns tree
  starts : length (starts_of events) ≤ most_instances tree

-- a play has few events and few instances
bounded : (tree : SyntaxTree) (input : List ℤ) (limits : PlayLimits) (choices : List ℕ) (r : Played) → BreaksNoRule tree
    → 0 < limits.throttle → 0 < limits.workers → IsPlayed tree input limits choices r → IsBounded tree r.run_log.events
bounded tree input limits choices r accepted throttle workers h = by (is_some (init_trap w)) refl
  where
    w : WholeProgram
    w = whole_of tree input

    p : Pipeline
    p = pipeline_after_init tree input

    by : (b : Bool) → is_some (init_trap w) ≡ b → IsBounded tree r.run_log.events
    by true some =
        let nothing : r.run_log.events ≡ [] = h.log.events
        ∙ ap (λ b. unless b (played p limits.throttle limits.workers choices limits.turns)) some in
        subst (IsBounded tree) (sym nothing) (record { most = omega arith; starts = omega arith })
    by false none =
        let run = loop_run tree input limits choices r accepted throttle workers h none in
        let events = r.run_log.events in
        let counted = starts_are_counted p limits.throttle events (state_after events) run.run in
        let within = program_instances_are_bounded tree input limits.throttle events (state_after events) accepted run.run in
        record {
          most = (program_runs_are_bounded tree input limits.throttle events (state_after events) accepted run.run run.not_stopped).0;
          starts = omega (arith, counted, within);
        }

pub plays_meet_the_headline : (tree : SyntaxTree) (input : List ℤ) (limits : PlayLimits) (choices : List ℕ) (r : Played)
    → BreaksNoRule tree → 0 < limits.throttle → 0 < limits.workers → IsPlayed tree input limits choices r
    → MeetsPlayGuarantees tree input limits r
plays_meet_the_headline tree input limits choices r accepted throttle workers h = record {
  elision = agrees tree input limits choices r accepted h;
  enough = finishes tree input limits choices r accepted throttle workers h;
  goes_on = goes_on tree input limits choices r accepted throttle workers h;
  bounded = (bounded tree input limits choices r accepted throttle workers h).most;
  instances = (bounded tree input limits choices r accepted throttle workers h).starts;
}
