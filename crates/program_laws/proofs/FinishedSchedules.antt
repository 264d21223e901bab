-- With enough turns every schedule of an accepted program finishes.
use Rattle.std.proofs.Common.{ℕ, ℤ, List, [], ◌∷◌, ◌++◌, inl, inr, ◌<◌, ◌≤◌, ◌+◌, ◌*◌}
use Rattle.std.proofs.Common.{length, arith}
use Rattle.std.proofs.lemmas.Bool.{cases_lt}
use Rattle.std.proofs.lemmas.List.{length_push}
use Rattle.pipe_model.specs.declared.event.Event.{Event}
use Rattle.pipe_model.specs.Pipelines.Pipeline.{IsWellFormed}
use Rattle.pipe_model.specs.Language.Programs.{natural}
use Rattle.pipe_model.specs.Races.DeterminacyRaces.{Among, Here}
use Rattle.pipe_model.specs.Runs.Run.{IsFinished}
use Rattle.pipe_model.specs.Runs.RunLogs.{state_after}
use Rattle.pipe_model.specs.Runs.State.{State, next_state}
use Rattle.program_laws.proofs.WellFormed.{accepted_is_well_formed}
use Rattle.pipe_model.specs.Runs.Schedules.{candidates, played, PlayedRun, OneTurn}
use Rattle.pipe_model.specs.Language.CheckingRules.{BreaksNoRule}
use Rattle.schedule_laws.specs.StartCounts.{most_instances}
use Rattle.pipe_model.specs.Language.ProgramsOfTrees.{pipeline_after_init}
use Rattle.program_laws.specs.WorkBounds.{SchedulesFinish}
use Rattle.program_laws.proofs.BoundedWork.{program_runs_are_bounded}
use Rattle.schedule_laws.proofs.Candidates.{played_runs_are_runs, runs_have_candidates}
use Rattle.schedule_laws.proofs.PlayedSchedules.{schedules_play_runs}

first_in : {A : Type 0} (xs : List A) → 0 < length xs → (x : A) × Among x xs
first_in [] l = absurd (omega (arith, l))
first_in (x ∷ xs) l = (x, Here)

-- a played run of an accepted program is finished if it is as long as the bound
long_is_finished : (tree : _) (input : List ℤ) (limit workers : ℕ) (events : List Event) (s : State) → BreaksNoRule tree
    → 0 < limit → 0 < workers → PlayedRun (pipeline_after_init tree input) limit workers events s
    → most_instances tree * (2 * natural tree.limits.steps + 2) ≤ length events → IsFinished s
long_is_finished tree input limit workers events s a one busy r le =
    let p = pipeline_after_init tree input in
    let given = accepted_is_well_formed tree input a in
    let well : IsWellFormed p = record { legal = given.legal; closes = given.closes } in
    let k = played_runs_are_runs p limit workers events s r well in
    elim (runs_have_candidates p limit workers events s k.run well one busy k.not_stopped) [
      | inl fin ↦ fin
      | inr some ↦ (
          let e = first_in (candidates p limit workers s) some in
          let longer : PlayedRun p limit workers (events ++ e.0 ∷ []) (next_state s e.0) = OneTurn r e.0 e.1 in
          let l = played_runs_are_runs p limit workers (events ++ e.0 ∷ []) (next_state s e.0) longer well in
          let b = (program_runs_are_bounded tree input limit (events ++ e.0 ∷ []) (next_state s e.0) a l.run l.not_stopped).0 in
          let w = length_push events e.0 in
          absurd (omega (arith, b, w, le)))
    ]

pub schedules_finish : SchedulesFinish
schedules_finish tree input limit workers choices turns a one busy le =
    let p = pipeline_after_init tree input in
    let given = accepted_is_well_formed tree input a in
    let well : IsWellFormed p = record { legal = given.legal; closes = given.closes } in
    let h = schedules_play_runs p limit workers choices turns well one busy in
    elim (cases_lt (length (played p limit workers choices turns)) turns) [
      | inl short ↦ h.ended short
      | inr long ↦ long_is_finished tree input limit workers (played p limit workers choices turns)
          (state_after (played p limit workers choices turns)) a one busy h.run
          (omega (arith, long, le))
    ]
