-- From the events of a loop to the events of a program.
use Rattle.std.proofs.Common.{◌≡◌, ◌∙◌, sym, subst, refl, arith, ℕ, ◌<◌, List, [], Bool, true, false, length}
use Rattle.std.specs.Prelude.{is_some}
use Rattle.std.proofs.lemmas.List.{length-take-le}
use Rattle.pipe_model.specs.declared.event.Event.{Event}
use Rattle.pipe_model.specs.declared.report.Report.{Report}
use Rattle.pipe_model.specs.declared.column.Column.{Column}
use Rattle.pipe_model.specs.Pipelines.WholePrograms.{WholeProgram, init_trap, loop_after_init}
use Rattle.pipe_model.specs.Races.Reports.{AreRight}
use Rattle.pipe_model.specs.Runs.Run.{EmptyRun, IsFinished, Run}
use Rattle.pipe_model.specs.Runs.RunLogs.{state_after}
use Rattle.pipe_model.specs.Runs.State.{State}
use Rattle.pipe_model.specs.Runs.WholeProgramRuns.{NoLoop, OfLoop, ProgramIsFinished, ProgramRun, WithLoop, WithoutLoop}
use Rattle.schedule_play.proofs.PlayedRuns.{reports_right}
use Rattle.record_check.specs.declared.answer.RecordAnswer.{RecordAnswer}
use Rattle.record_check.specs.declared.answer.RecordAnswer.TheVariants as answers
use Rattle.record_check.specs.declared.answer.RunKind.{RunKind}
use Rattle.record_check.specs.declared.answer.RunKind.TheVariants.{Finished, Unfinished, Stopped}
use Rattle.record_check.specs.CheckedLoops.{IsKindOf, IsLoopAnswer, IsNoRun, IsRun}
use Rattle.record_check.specs.CheckedRecords.{IsNoProgramRun, IsProgramKind, IsProgramRun, IsRecordAnswer}

both_ways : {b : Bool} → b ≡ true → b ≡ false → ⊥
both_ways t f = let z : true ≡ false = sym t ∙ f in cc

-- a run of a program whose `init` did not trap is one of its loop
loop_run : {w : WholeProgram} {limit : ℕ} {es : List Event} {s : State} → ProgramRun w limit es s → is_some (init_trap w) ≡ false
    → Run (loop_after_init w) limit es s
loop_run (NoLoop trap_is) none = absurd (both_ways trap_is none)
loop_run (OfLoop none r) f = r

-- after a trap of `init` there are no events
pub no_events : {w : WholeProgram} {limit : ℕ} {es : List Event} {s : State} → ProgramRun w limit es s → is_some (init_trap w) ≡ true
    → length es ≡ 0
no_events (NoLoop trap_is) t = refl
no_events (OfLoop none r) t = absurd (both_ways t none)

finished_loop : {w : WholeProgram} {s : State} → ProgramIsFinished w s → is_some (init_trap w) ≡ false → IsFinished s
finished_loop (WithoutLoop trap_is) none = absurd (both_ways trap_is none)
finished_loop (WithLoop none f) g = f

program_kind : (w : WholeProgram) (s : State) (kind : RunKind) → is_some (init_trap w) ≡ false → IsKindOf s kind → IsProgramKind w s kind
program_kind w s Finished none f = WithLoop none f
program_kind w s Unfinished none h = (h.0, λ f. h.1 (finished_loop f none))
program_kind w s Stopped none h = h

pub program_answer : {limit : ℕ} {events : List Event} {r : RecordAnswer} (w : WholeProgram) → is_some (init_trap w) ≡ false
    → IsLoopAnswer (loop_after_init w) limit events r → IsRecordAnswer w limit events r
program_answer {limit} {events} w none (IsRun kind log reports h) = IsProgramRun kind log reports (record {
  run = OfLoop none h.run;
  same = h.same;
  own = h.own;
  reached = program_kind w (state_after events) kind none h.reached;
  found = h.found;
  right = h.right;
})
program_answer w none (IsNoRun k h) = IsNoProgramRun k (record {
  within = h.within;
  run = OfLoop none h.run;
  refused = λ s r. h.refused s (loop_run r none);
})

-- `init` trapped, and there are no events
pub empty_answer : (w : WholeProgram) (limit : ℕ) (events own : List Event) (columns : List Column) (reports : List Report)
    → is_some (init_trap w) ≡ true
    → events ≡ [] → own ≡ [] → columns ≡ [] → reports ≡ []
    → IsRecordAnswer w limit events (answers.Run Finished (record { columns = columns; events = own }) reports)
empty_answer w limit events own columns reports trapped none e c r =
    subst (λ es. IsRecordAnswer w limit es (answers.Run Finished (record { columns = columns; events = own }) reports)) (sym none)
    (IsProgramRun Finished (record { columns = columns; events = own }) reports (record {
      run = NoLoop trapped;
      same = e;
      own = c;
      reached = WithoutLoop trapped;
      found = r;
      right = subst (λ rs. AreRight [] [] rs) (sym r) (reports_right (loop_after_init w) limit [] EmptyRun);
    }))

-- `init` trapped, and there is an event
pub trapped_answer : (w : WholeProgram) (limit : ℕ) (events : List Event) → is_some (init_trap w) ≡ true → 0 < length events
    → IsRecordAnswer w limit events (answers.NotAllowed 0)
trapped_answer w limit events trapped some = IsNoProgramRun 0 (record {
  within = some;
  run = NoLoop trapped;
  refused = λ s r. (
      let a = no_events r trapped in
      let b = length-take-le 1 events (omega (arith, some)) in
      omega (arith, a, b));
})
