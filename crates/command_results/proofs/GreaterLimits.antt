-- What meets the headline under a throttling limit meets it under every greater limit.
use Rattle.std.proofs.Common.{◌≤◌, ℕ, ℤ, List, arith}
use Rattle.pipe_model.specs.declared.event.Event.{Event}
use Rattle.pipe_model.specs.declared.event.Event.TheVariants.{Begin, Access, Advance, Enter, Finish, Stop}
use Rattle.pipe_model.specs.declared.event.RunLog.{RunLog}
use Rattle.pipe_model.specs.declared.report.Report.{Report}
use Rattle.pipe_model.specs.Language.SyntaxTree.{SyntaxTree}
use Rattle.pipe_model.specs.Pipelines.Pipeline.{Pipeline}
use Rattle.pipe_model.specs.Pipelines.WholePrograms.{WholeProgram}
use Rattle.pipe_model.specs.Runs.Allowed.{ControlAllows}
use Rattle.pipe_model.specs.Runs.Run.{Run, EmptyRun, RunThen}
use Rattle.pipe_model.specs.Runs.State.{State}
use Rattle.pipe_model.specs.Runs.Throttling.{IsThrottled}
use Rattle.pipe_model.specs.Runs.WholeProgramRuns.{ProgramRun, NoLoop, OfLoop}
use Rattle.command_results.specs.Headline.{MeetsHeadline}

control_allows_more : (limit more : ℕ) (s : State) → limit ≤ more → (e : Event) → ControlAllows limit s e → ControlAllows more s e
control_allows_more limit more s le (Begin i) h = record {
  number = h.number;
  room = (let l = h.room in omega (arith, l, le));
  follows =
      h.follows;
}
control_allows_more limit more s le (Access i a) h = h
control_allows_more limit more s le (Advance i k n) h = h
control_allows_more limit more s le (Enter i) h = h
control_allows_more limit more s le (Finish i f) h = h
control_allows_more limit more s le Stop h = h

more_runs : {p : Pipeline} {limit more : ℕ} {events : List Event} {s : State} → limit ≤ more → Run p limit events s → Run p more events s
more_runs le EmptyRun = EmptyRun
more_runs {p} {limit} {more} le (RunThen {s = t} r e h) =
    RunThen (more_runs le r) e (record { going = h.going; control = control_allows_more limit more t le e h.control; program = h.program })

more_program_runs : {w : WholeProgram} {limit more : ℕ} {events : List Event} {s : State} → limit ≤ more → ProgramRun w limit events s
    → ProgramRun w more events s
more_program_runs le (NoLoop trapped) = NoLoop trapped
more_program_runs le (OfLoop free r) = OfLoop free (more_runs le r)

more_throttled : {limit more : ℕ} {events : List Event} → limit ≤ more → IsThrottled limit events → IsThrottled more events
more_throttled le h = λ front rest is. (let l = h front rest is in omega (arith, l, le))

pub meets_more : {tree : SyntaxTree} {numbers : List ℤ} (limit more : ℕ) {log : RunLog} {reports : List Report} {status : ℕ} {text : List ℕ}
    → limit ≤ more → MeetsHeadline tree numbers limit log reports status text → MeetsHeadline tree numbers more log reports status text
meets_more limit more le h = record {
  run = record { run = more_program_runs le h.run.run; finished = h.run.finished; columns = h.run.columns };
  reported = h.reported;
  agrees = h.agrees;
  throttled = more_throttled le h.throttled;
}
