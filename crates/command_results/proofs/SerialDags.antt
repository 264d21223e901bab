-- The serial elision of an accepted program as a run, and the dag and the races of its columns and accesses.
use Rattle.pipe_model.specs.Language.CheckingRules.{BreaksNoRule}
use Rattle.std.proofs.Common.{◌≡◌, ◌∙◌, ◌≤◌, ℕ, ℤ, All, List, [], ◌∷◌, Option, map, refl, sym, ap, subst, arith}
use Rattle.pipe_model.specs.declared.access.NodeAccess.{NodeAccess}
use Rattle.pipe_model.specs.declared.column.Column.{Column}
use Rattle.pipe_model.specs.declared.event.Event.{Event}
use Rattle.pipe_model.specs.declared.node.Node.{Node}
use Rattle.pipe_model.specs.declared.report.Report.{Report}
use Rattle.pipe_model.specs.declared.trap.TrapAt.{TrapAt}
use Rattle.pipe_model.specs.Language.ProgramsOfTrees.{whole_of}
use Rattle.pipe_model.specs.Language.SyntaxTree.{SyntaxTree}
use Rattle.pipe_model.specs.Pipelines.Behaviour.{Action, column_of}
use Rattle.pipe_model.specs.Pipelines.ElisionResults.{ended_column}
use Rattle.pipe_model.specs.Pipelines.WholePrograms.{WholeProgram, loop_after_init, loop_traces, program_columns, program_log}
use Rattle.pipe_model.specs.Races.FirstRaces.{AreFirstRaces}
use Rattle.pipe_model.specs.Runs.Run.{EmptyRun}
use Rattle.pipe_model.specs.Runs.RunLogs.{accesses_after, column_of_frame, columns_after, state_after}
use Rattle.pipe_model.specs.Runs.State.{Frame, State, initial_state}
use Rattle.pipe_model.specs.Runs.WholeProgramRuns.{IsFinishedProgramRun, ProgramRun, NoLoop, OfLoop}
use Rattle.pipe_model.proofs.Members.{among_at}
use Rattle.dag_build.specs.NodeColumns.{AreRising, IsAccessOf}
use Rattle.dag_build.proofs.FirstRaceLaws.{no_report_is_race_free}
use Rattle.program_laws.proofs.WellFormed.{accepted_is_well_formed}
use Rattle.run_laws.proofs.RunStates.IterationCounts.{runs_keep_rules}
use Rattle.run_laws.specs.RunLaws.{KeepsRules}
use Rattle.program_laws.proofs.ProgramElisions.{program_elision_is_a_run}
use Rattle.program_laws.specs.ProgramRunLaws.{HasElisionLog}
use Rattle.schedule_play.proofs.PlayedRuns.{column_inside}
use Rattle.command_results.specs.SerialResults.{ElisionResult, Races, Finishes, Traps, elision_accesses, elision_columns, elision_log}
use Rattle.command_results.specs.SerialResults.{elision_output, elision_trap}
use Rattle.command_results.specs.RunTexts.{IsPrintedAs, WithRaces, ToItsEnd, WithTrap}
use Rattle.pipe_model.specs.Races.Columns.{node_columns}

-- ---- the elision as a run

-- the instances of ended columns
pub ended_nodes : (traces : List (List Action)) → node_columns (map ended_column traces) ≡ map column_of traces
ended_nodes [] = refl
ended_nodes (t ∷ traces) = ap (λ cs. column_of t ∷ cs) (ended_nodes traces)

-- the columns of frames have the same instances as the frames
pub nodes_of_frames : (frames : List Frame) → node_columns (map column_of_frame frames) ≡ map (λ (f : Frame). f.nodes) frames
nodes_of_frames [] = refl
nodes_of_frames (f ∷ frames) = ap (λ ns. f.nodes ∷ ns) (nodes_of_frames frames)

-- a run of a program keeps the rules of the runs of its loop
program_rules : (w : WholeProgram) (limit : ℕ) (events : List Event) (s : State) → ProgramRun w limit events s → KeepsRules limit events s
program_rules w limit events s (NoLoop trapped) = runs_keep_rules w.loop limit [] initial_state EmptyRun
program_rules w limit events s (OfLoop free r) = runs_keep_rules (loop_after_init w) limit events s r

-- the log of the serial elision is a finished run, with the columns and accesses of the elision
pub record IsSerialLog (tree : SyntaxTree) (input : List ℤ) (limit : ℕ) : Type 0 where
  pub run : IsFinishedProgramRun (whole_of tree input) limit (elision_log tree input)
  pub columns : columns_after (elision_log tree input).events ≡ elision_columns tree input
  pub accesses : accesses_after (elision_log tree input).events ≡ elision_accesses tree input
  pub rules : KeepsRules limit (elision_log tree input).events (state_after (elision_log tree input).events)

-- this holds for every accepted program and every limit of at least 1
pub serial_log : (tree : SyntaxTree) (input : List ℤ) (limit : ℕ) → BreaksNoRule tree → 1 ≤ limit → IsSerialLog tree input limit
serial_log tree input limit form room =
    let w : WholeProgram = whole_of tree input in
    let h : HasElisionLog w limit = program_elision_is_a_run w limit (accepted_is_well_formed tree input form) (omega (arith, room)) in
    let end : State = state_after (program_log w).events in
    record {
      run = h.run;
      columns = sym (nodes_of_frames end.frames) ∙ ap node_columns (sym h.run.columns) ∙ ended_nodes (loop_traces w);
      accesses = h.accesses;
      rules = program_rules w limit (program_log w).events end h.run.run;
    }

-- ---- the dag that is built from the elision's columns and accesses

-- the columns that the elision returns have the program's instances
pub given_columns : (tree : SyntaxTree) (input : List ℤ) (columns : List Column) → columns ≡ program_columns (whole_of tree input)
    → node_columns columns ≡ elision_columns tree input
given_columns tree input columns e = ap node_columns e ∙ ended_nodes (loop_traces (whole_of tree input))

-- the dag that is built has rising columns
pub given_columns_rise : (tree : SyntaxTree) (input : List ℤ) (columns : List Column) → BreaksNoRule tree
    → columns ≡ program_columns (whole_of tree input)
    → AreRising (node_columns columns)
given_columns_rise tree input columns form e =
    let h = serial_log tree input 1 form (omega arith) in
    subst AreRising (h.columns ∙ sym (given_columns tree input columns e)) (record { each = h.rules.rising })

-- the accesses of the loop are made by instances of its columns
pub accesses_inside : (tree : SyntaxTree) (input : List ℤ) → BreaksNoRule tree
    → All (IsAccessOf (elision_columns tree input)) (elision_accesses tree input)
accesses_inside tree input form =
    let h = serial_log tree input 1 form (omega arith) in
    subst (λ cs. All (IsAccessOf cs) (elision_accesses tree input)) h.columns (subst (All (IsAccessOf _)) h.accesses
    (λ k d w. let inside = h.rules.inside _ (among_at _ k d w) in (column_inside _ _ _ inside, inside)))

-- the accesses that the elision returns are made by instances of the dag that is built
pub given_accesses_inside : (tree : SyntaxTree) (input : List ℤ) (dag : List (List Node)) (columns : List Column)
    (accesses : List NodeAccess)
    → BreaksNoRule tree
    → dag ≡ node_columns columns → columns ≡ program_columns (whole_of tree input) → accesses ≡ elision_accesses tree input
    → All (IsAccessOf dag) accesses
given_accesses_inside tree input dag columns accesses form d e a =
    rw (a, d ∙ given_columns tree input columns e) (accesses_inside tree input form)

-- the dag that is built has the same races as the program
pub given_races : (tree : SyntaxTree) (input : List ℤ) (dag : List (List Node)) (columns : List Column) (accesses : List NodeAccess)
    (reports : List Report)
    → dag ≡ node_columns columns
    → columns ≡ program_columns (whole_of tree input) → accesses ≡ elision_accesses tree input → AreFirstRaces dag accesses reports
    → AreFirstRaces (elision_columns tree input) (elision_accesses tree input) reports
given_races tree input dag columns accesses reports d e a r = rw (← a, ← (d ∙ given_columns tree input columns e)) r

-- what is printed for the elision's output, trap and races is the elision's result
pub printed_result : (tree : SyntaxTree) (input : List ℤ) (output : List ℤ) (trap : Option TrapAt)
    (reports : List Report) {status : ℕ} {text : List ℕ}
    → output ≡ elision_output tree input → trap ≡ elision_trap tree input
    → AreFirstRaces (elision_columns tree input) (elision_accesses tree input) reports
    → IsPrintedAs tree.cells output trap reports status text → ElisionResult tree input status text reports
printed_result tree input output trap reports o t first (WithRaces some) =
    Races reports (λ free. some ((no_report_is_race_free _ _ reports first).1 free)) first
printed_result tree input output trap reports o t first (ToItsEnd none ends) =
    let free = (no_report_is_race_free _ _ reports first).0 none in rw (none, o) (Finishes free (sym t ∙ ends))
printed_result tree input output trap reports o t first (WithTrap at none ends) =
    let free = (no_report_is_race_free _ _ reports first).0 none in rw (none, o) (Traps at free (sym t ∙ ends))
