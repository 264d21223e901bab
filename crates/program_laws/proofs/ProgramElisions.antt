-- The serial elision of a program as a run, and accepted programs.
use Rattle.std.proofs.Common.{◌≡◌, ◌∙◌, sym, ap, subst, refl, ℤ, List, [], ◌∷◌, ◌++◌, Bool, true, false, inl, inr, map, Option, Some, None}
use Rattle.std.proofs.Common.{append-nil}
use Rattle.std.specs.Prelude.{is_some}
use Rattle.std.proofs.lemmas.Bool.{cases_Bool}
use Rattle.pipe_model.specs.declared.event.Event.{Event}
use Rattle.pipe_model.specs.declared.column.ColumnEnd.TheVariants as ends
use Rattle.pipe_model.specs.Pipelines.Behaviour.{Ended, accesses_in, trace_end}
use Rattle.pipe_model.specs.Pipelines.ElisionResults.{ended_column, serial_output, serial_trap, first_of_both}
use Rattle.pipe_model.specs.Pipelines.Pipeline.{Pipeline}
use Rattle.pipe_model.specs.Language.Programs.{pipeline_of}
use Rattle.pipe_model.specs.Races.DeterminacyRaces.{IsRaceFree}
use Rattle.pipe_model.specs.Runs.Run.{Run, EmptyRun, IsFinished}
use Rattle.pipe_model.specs.Runs.RunLogs.{accesses_after, column_of_frame, columns_after, ended_columns_after, state_after}
use Rattle.pipe_model.specs.Pipelines.SerialElision.{located_from, serial_accesses, serial_events, serial_traces, unless, trace_events_from}
use Rattle.pipe_model.specs.Pipelines.SerialElision.{serial_trace}
use Rattle.pipe_model.specs.Runs.State.{State, initial_state, accesses_of}
use Rattle.pipe_model.specs.Language.SyntaxTree.{Empty, Statements, SyntaxTree}
use Rattle.pipe_model.specs.Runs.Throttling.{IsThrottled}
use Rattle.program_laws.proofs.WellFormed.{accepted_is_well_formed}
use Rattle.run_laws.proofs.Elision.SerialRun.{serial_elision_is_a_run}
use Rattle.run_laws.proofs.RunStates.FrontAndBack.{run_state_is}
use Rattle.run_laws.proofs.RunStates.IterationCounts.{runs_keep_rules}
use Rattle.pipe_model.specs.Language.ProgramsOfTrees.{part_of, pipeline_after_init, whole_of}
use Rattle.pipe_model.specs.Runs.WholeProgramRuns.{ProgramRun, NoLoop, OfLoop, WithoutLoop, WithLoop}
use Rattle.pipe_model.specs.Pipelines.WholePrograms.{init_trap, loop_after_init, loop_traces, program_output, program_trap, part_trap}
use Rattle.pipe_model.specs.Pipelines.Store.{output_of}
use Rattle.pipe_model.specs.declared.trap.TrapAt.{TrapAt}
use Rattle.pipe_model.specs.declared.trap.TrapPlace.TheVariants.{Last}
use Rattle.program_laws.specs.ProgramRunLaws.{ProgramElisionIsARun, AcceptedProgramsMeetTheElision, NoInitNoAccesses, LoopsAlone}
use Rattle.program_laws.proofs.ProgramRuns.{loop_traces_are, no_loop_traces, well_formed_after, race_free_program_runs_are_serial}
use Rattle.program_laws.proofs.ProgramRuns.{program_races_are_those_of_the_elision}

pub program_elision_is_a_run : ProgramElisionIsARun
program_elision_is_a_run w limit well room = elim (cases_Bool (is_some (init_trap w))) [
  | inl trapped ↦ (
      let none : loop_traces w ≡ [] = no_loop_traces w trapped in
      let events : trace_events_from 0 (loop_traces w) ≡ [] = ap (trace_events_from 0) none in
      record {
        run = record {
          run = subst (λ l. ProgramRun w limit l (state_after l)) (sym events) (NoLoop trapped);
          finished = WithoutLoop trapped;
          columns = ap (λ l. map ended_column l) none ∙ ap (λ l. ended_columns_after l) (sym events);
        };
        accesses = ap (λ l. accesses_after l) events ∙ ap (λ l. located_from 0 l) (sym none);
      })
  | inr free ↦ (
      let p = loop_after_init w in
      let r = serial_elision_is_a_run p limit (well_formed_after w well) room in
      let same : loop_traces w ≡ serial_traces p = loop_traces_are w free in
      let events : trace_events_from 0 (loop_traces w) ≡ serial_events p = ap (trace_events_from 0) same in
      let state : r.state ≡ state_after (trace_events_from 0 (loop_traces w)) = run_state_is r.run ∙ ap (λ l. state_after l) (sym events) in
      let run : Run p limit (trace_events_from 0 (loop_traces w)) (state_after (trace_events_from 0 (loop_traces w))) =
      subst (λ l. Run p limit l (state_after (trace_events_from 0 (loop_traces w)))) (sym events)
      (subst (λ s. Run p limit (serial_events p) s) state r.run) in
      record {
        run = record {
          run = OfLoop free run;
          finished = WithLoop free (subst IsFinished state r.finished);
          columns = ap (λ l. map ended_column l) same ∙ sym r.ended ∙ ap (λ (s : State). map column_of_frame s.frames) state;
        };
        accesses = ap (λ (s : State). s.accesses) (sym state) ∙ r.accesses ∙ ap (λ l. located_from 0 l) (sym same);
      })
]

pub accepted_programs_meet_the_elision : AcceptedProgramsMeetTheElision
accepted_programs_meet_the_elision tree input limit log a h =
    let w = whole_of tree input in
    let well = accepted_is_well_formed tree input a in
    let serial = λ (free : IsRaceFree (columns_after log.events) (accesses_after log.events)).
    race_free_program_runs_are_serial w limit log.events (state_after log.events) h.run well.closes h.finished free in
    record {
      races = program_races_are_those_of_the_elision w limit log.events (state_after log.events) h.run well h.finished;
      columns = λ free. h.columns ∙ (serial free).columns;
      output = λ free. (serial free).output;
      trap = λ free. (serial free).trap;
      throttled = throttled_run log.events (state_after log.events) h.run;
    }
  where
    throttled_run : (events : List Event) (s : State) → ProgramRun (whole_of tree input) limit events s → IsThrottled limit events
    throttled_run events s (NoLoop e) = (runs_keep_rules (pipeline_of tree input) limit [] initial_state EmptyRun).throttled
    throttled_run events s (OfLoop e r) = (runs_keep_rules (pipeline_after_init tree input) limit events s r).throttled

-- ---- programs without `init` and `final`

empty_part : (tree : SyntaxTree) (input : List ℤ) (p : Pipeline) (statements : Statements) → statements ≡ Empty
    → serial_trace p.store (part_of tree input statements) [] ≡ Ended ends.End ∷ []
empty_part tree input p statements e = ap (λ ss. serial_trace p.store (part_of tree input ss) []) e

pub no_init_no_accesses : NoInitNoAccesses
no_init_no_accesses tree input e =
    ap (λ l. (let p : Pipeline = record (pipeline_of tree input) { preamble = accesses_in l } in p))
    (empty_part tree input (pipeline_of tree input) tree.init e)

abbrev bare : SyntaxTree → SyntaxTree
bare tree = record tree { init = Empty; last = Empty }

abbrev IsLoopAlone : SyntaxTree → List ℤ → Type 0
IsLoopAlone tree input = (program_output (whole_of tree input) ≡ serial_output (pipeline_of tree input))
    × (program_trap (whole_of tree input) ≡ serial_trap (pipeline_of tree input))

no_access_or_none : (b : Bool) → accesses_in (unless b (Ended ends.End ∷ [])) ≡ []
no_access_or_none true = refl
no_access_or_none false = refl

no_trap_or_none : (b : Bool) → part_trap Last (trace_end (unless b (Ended ends.End ∷ []))) ≡ None
no_trap_or_none true = refl
no_trap_or_none false = refl

pub first_alone : (o : Option TrapAt) → first_of_both o None ≡ o
first_alone None = refl
first_alone (Some t) = refl

bare_is_loop : (tree : SyntaxTree) (input : List ℤ) → IsLoopAlone (bare tree) input
bare_is_loop tree input =
    let p = pipeline_of (bare tree) input in
    let t = is_some (serial_trap p) in (
      ap (λ l. output_of p.store (accesses_of (serial_accesses p) ++ l)) (no_access_or_none t)
          ∙ ap (λ l. output_of p.store l) (append-nil (accesses_of (serial_accesses p))),
      ap (λ o. first_of_both (serial_trap p) o) (no_trap_or_none t) ∙ first_alone (serial_trap p),
    )

pub loops_alone : LoopsAlone
loops_alone tree input e f =
    let same : tree ≡ bare tree =
    ap (λ ss. (let q : SyntaxTree = record tree { init = ss } in q)) e
    ∙ ap (λ ss. (let q : SyntaxTree = record tree { init = Empty; last = ss } in q)) f in
    subst (λ q. IsLoopAlone q input) (sym same) (bare_is_loop tree input)
