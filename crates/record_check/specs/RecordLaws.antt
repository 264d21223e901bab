-- Laws of records: the answers exclude one another.
use Rattle.std.specs.Prelude.{◌≡◌, ℕ, List}
use Rattle.pipe_model.specs.declared.event.Event.{Event}
use Rattle.pipe_model.specs.Pipelines.WholePrograms.{WholeProgram}
use Rattle.pipe_model.specs.Runs.State.{State}
use Rattle.pipe_model.specs.Runs.WholeProgramRuns.{ProgramRun}
use Rattle.record_check.specs.CheckedRecords.{IsRecordAnswer, IsRefusedRecord}
use Rattle.record_check.specs.declared.answer.RecordAnswer.{RecordAnswer}

-- a list of events has one answer at most: its kind, its log and its races are determined, or the first event that is not allowed
abbrev pub RecordsHaveOneAnswer : Type 0
RecordsHaveOneAnswer =
    (w : WholeProgram) (limit : ℕ) (events : List Event) (answer other : RecordAnswer) → IsRecordAnswer w limit events answer
    → IsRecordAnswer w limit events other → answer ≡ other

-- no event of a run is refused
abbrev pub RunsAreNotRefused : Type 0
RunsAreNotRefused =
    (w : WholeProgram) (limit : ℕ) (events : List Event) (s : State) (k : ℕ) → ProgramRun w limit events s
    → IsRefusedRecord w limit events k → ⊥
