-- The output and the trap of a program, by which of its parts ran.
use Rattle.std.proofs.Common.{◌≡◌, ◌∙◌, ap, sym, refl, ℕ, ℤ, List, [], ◌++◌, Bool, true, false, Option, append-nil}
use Rattle.std.specs.Prelude.{◌&&◌, is_some, not}
use Rattle.std.proofs.lemmas.Bool.{false≢true}
use Rattle.pipe_model.specs.declared.trap.TrapAt.{TrapAt}
use Rattle.pipe_model.specs.declared.trap.TrapPlace.TheVariants.{Last}
use Rattle.pipe_model.specs.declared.column.Column.{Column}
use Rattle.pipe_model.specs.declared.event.Event.{Event}
use Rattle.pipe_model.specs.Language.ProgramsOfTrees.{pipeline_after_init, whole_of}
use Rattle.pipe_model.specs.Language.SyntaxTree.{SyntaxTree}
use Rattle.pipe_model.specs.Runs.Run.{Run}
use Rattle.pipe_model.specs.Runs.RunLogs.{ended_columns_after, state_after}
use Rattle.pipe_model.specs.Pipelines.Behaviour.{accesses_in, trace_end}
use Rattle.pipe_model.specs.Pipelines.ElisionResults.{first_of_both}
use Rattle.pipe_model.specs.Pipelines.SerialElision.{unless}
use Rattle.pipe_model.specs.Pipelines.Store.{output_of}
use Rattle.pipe_model.specs.Pipelines.WholePrograms.{WholeProgram, init_accesses, init_trap, part_trap, trap_before_final}
use Rattle.pipe_model.specs.Runs.State.{State, accesses_of}
use Rattle.pipe_model.specs.Runs.WholeProgramRuns.{played_final_trace, run_traces}
use Rattle.program_ends.specs.declared.ends.ProgramResults.{ProgramResults}
use Rattle.program_ends.specs.ProgramEnds.{HasResults}
use Rattle.program_laws.proofs.ProgramRuns.{played_where_final_ran}
use Rattle.serial_elision.specs.ColumnTraps.{least_trap}
use Rattle.serial_elision.proofs.RunTraps.{run_traps_are_those_of_columns}
use Rattle.serial_elision.proofs.Elisions.{first_or_none, last_trace, trap_of_loop, with_final}

abbrev pub results : List ℤ → Option TrapAt → ProgramResults
results output trap = record { output = output; trap = trap }

-- `final` did not run
not_run : (w : WholeProgram) (ran : Bool) (s : State) (output : List ℤ) (trap : Option TrapAt) → played_final_trace w ran s ≡ []
    → trap ≡ trap_before_final w (run_traces s) → output ≡ output_of w.loop.store (init_accesses w ++ accesses_of s.accesses)
    → HasResults w ran s (results output trap)
not_run w ran s output trap none first all = record {
  output = all ∙ sym (ap (λ t. output_of w.loop.store (init_accesses w ++ (accesses_of s.accesses ++ accesses_in t))) none
      ∙ ap (λ l. output_of w.loop.store (init_accesses w ++ l)) (append-nil (accesses_of s.accesses)));
  trap = first ∙ sym (ap (λ t. first_of_both (trap_before_final w (run_traces s)) (part_trap Last (trace_end t))) none
      ∙ first_or_none (trap_before_final w (run_traces s)));
}

-- the run is not finished, or has a report
stopped_before : (w : WholeProgram) (s : State) (output : List ℤ) (trap : Option TrapAt) → trap ≡ trap_before_final w (run_traces s)
    → output ≡ output_of w.loop.store (init_accesses w ++ accesses_of s.accesses) → HasResults w false s (results output trap)
stopped_before w s output trap first all = not_run w false s output trap refl first all

-- a trap before `final`
pub trapped_before : (w : WholeProgram) (ran : Bool) (s : State) (output : List ℤ) (trap : Option TrapAt) → is_some trap ≡ true
    → trap ≡ trap_before_final w (run_traces s) → output ≡ output_of w.loop.store (init_accesses w ++ accesses_of s.accesses)
    → HasResults w ran s (results output trap)
trapped_before w false s output trap some first all = stopped_before w s output trap first all
trapped_before w true s output trap some first all =
    not_run w true s output trap (ap (λ b. unless b (last_trace w (accesses_of s.accesses))) (ap is_some (sym first) ∙ some)) first all

is_true : (b : Bool) → not b ≡ false → b ≡ true
is_true true e = refl
is_true false e = absurd (false≢true (sym e))

-- `final` did not run after the loop
pub without_final : (w : WholeProgram) (ran : Bool) (s : State) (output : List ℤ) (trap : Option TrapAt)
    → (ran && not (is_some trap)) ≡ false
    → trap ≡ trap_before_final w (run_traces s) → output ≡ output_of w.loop.store (init_accesses w ++ accesses_of s.accesses)
    → HasResults w ran s (results output trap)
without_final w false s output trap e first all = stopped_before w s output trap first all
without_final w true s output trap e first all = trapped_before w true s output trap (is_true (is_some trap) e) first all

is_false : (b : Bool) → not b ≡ true → b ≡ false
is_false true e = absurd (false≢true e)
is_false false e = refl

-- `final` ran after the loop
pub after_final : (w : WholeProgram) (ran : Bool) (s : State) (output : List ℤ) (before trap : Option TrapAt)
    → (ran && not (is_some before)) ≡ true
    → before ≡ trap_before_final w (run_traces s) → trap ≡ part_trap Last (trace_end (last_trace w (accesses_of s.accesses)))
    → output ≡ output_of w.loop.store ((init_accesses w ++ accesses_of s.accesses) ++ accesses_in (last_trace w (accesses_of s.accesses)))
    → HasResults w ran s (results output trap)
after_final w false s output before trap e first last all = absurd (false≢true e)
after_final w true s output before trap e first last all =
    let none : is_some before ≡ false = is_false (is_some before) e in
    let h = with_final w (run_traces s) (accesses_of s.accesses) (ap is_some (sym first) ∙ none) in
    let played = played_where_final_ran w s in
    record {
      output = all ∙ sym h.output ∙ sym played.0;
      trap = last ∙ sym h.trap ∙ sym played.1;
    }

-- the trap of a run whose `init` did not trap, by the columns of its events
pub trap_by_columns : (tree : SyntaxTree) (input : List ℤ) (limit : ℕ) (events : List Event) (columns : List Column) (trap : Option TrapAt)
    → is_some (init_trap (whole_of tree input)) ≡ false → Run (pipeline_after_init tree input) limit events (state_after events)
    → columns ≡ ended_columns_after events → trap ≡ least_trap 0 columns
    → trap ≡ trap_before_final (whole_of tree input) (run_traces (state_after events))
trap_by_columns tree input limit events columns trap none run are is =
    is ∙ ap (least_trap 0) are ∙ sym (run_traps_are_those_of_columns (pipeline_after_init tree input) limit events (state_after events) run)
    ∙ sym (trap_of_loop (whole_of tree input) (run_traces (state_after events)) none)
