-- The events of a schedule, one a turn.
use Rattle.std.proofs.Common.{◌≡◌, ◌∙◌, ap, ap₂, sym, refl, ℕ, suc, ◌+◌, ◌-◌, ◌<◌, ◌≤◌, arith, List, [], ◌∷◌, ◌++◌, Option, Some, None}
use Rattle.std.proofs.Common.{append_assoc, append-nil}
use Rattle.pipe_model.specs.declared.event.Event.{Event}
use Rattle.pipe_model.specs.Language.ProgramsOfTrees.{pipeline_after_init}
use Rattle.pipe_model.specs.Language.SyntaxTree.{tree_of}
use Rattle.pipe_model.specs.Pipelines.Pipeline.{Pipeline}
use Rattle.pipe_model.specs.Runs.RunLogs.{state_after}
use Rattle.pipe_model.specs.Runs.Schedules.{after_choice, candidates, choice_at, chosen, played, played_from}
use Rattle.pipe_model.specs.Runs.State.{initial_state, next_state}
use Rattle.frame_book.proofs.BookLogs.LogEntries.{state_after-push}
use Rattle.stage_code.specs.FlatCode.{FlatCode}
use Rattle.schedule_play.specs.PlayStates.{IsPlay, KeepsProgram, PlayState, pipeline_played, run_state}

-- after some turns: the events are the first ones of the schedule
pub record HasPlayed (code : FlatCode) (cells : ℕ) (old v : PlayState) (workers : ℕ) (choices : List ℕ) (turns turn : ℕ) : Type 0 where
  pub play : IsPlay code cells v
  pub keeps : KeepsProgram old v
  pub rest : played (pipeline_played old) old.book.limit workers choices turns
      ≡ v.events ++ played_from (pipeline_played old) old.book.limit workers choices (turns - turn) turn (run_state v)

pub starts : (code : FlatCode) (cells : ℕ) (v : PlayState) (workers : ℕ) (choices : List ℕ) (turns : ℕ) → IsPlay code cells v
    → v.events ≡ []
    → HasPlayed code cells v v workers choices turns 0
starts code cells v workers choices turns h none = record {
  play = h;
  keeps = record { program = refl; input = refl; limit = refl };
  rest =
      let all : turns ≡ turns - 0 = omega arith in
      ap (λ n. played_from (pipeline_played v) v.book.limit workers choices n 0 initial_state) all
      ∙ sym (ap (λ es. es ++ played_from (pipeline_played v) v.book.limit workers choices (turns - 0) 0 (state_after es)) none);
}

-- the pipeline is the one at the beginning
same_pipeline : (old v : PlayState) → KeepsProgram old v → pipeline_played v ≡ pipeline_played old
same_pipeline old v k = ap₂ (λ q input. pipeline_after_init (tree_of q) input) k.program k.input

module _ (code : FlatCode) (cells : ℕ) (old v : PlayState) (workers : ℕ) (choices : List ℕ) (turns turn : ℕ)
    (h : HasPlayed code cells old v workers choices turns turn) where
  abbrev p : Pipeline
  p = pipeline_played old

  abbrev limit : ℕ
  limit = old.book.limit

  -- the choice of the turn, of the pipeline that is played
  chosen_here : (choice : ℕ) (o : Option Event) → choice ≡ choice_at choices turn
      → chosen choice (candidates (pipeline_played v) v.book.limit workers (run_state v)) ≡ o
      → chosen (choice_at choices turn) (candidates p limit workers (run_state v)) ≡ o
  chosen_here choice o is made =
      ap₂ (λ n q. chosen n (candidates q limit workers (run_state v))) (sym is) (sym (same_pipeline old v h.keeps))
      ∙ ap (λ l. chosen choice (candidates (pipeline_played v) l workers (run_state v))) (sym h.keeps.limit) ∙ made

  pub goes_on : (choice : ℕ) (e : Event) (v' : PlayState) → turn < turns → choice ≡ choice_at choices turn
      → chosen choice (candidates (pipeline_played v) v.book.limit workers (run_state v)) ≡ Some e
      → v'.events ≡ v.events ++ e ∷ [] → IsPlay code cells v' → KeepsProgram v v' → HasPlayed code cells old v' workers choices turns
      (turn + 1)
  goes_on choice e v' less is made more play keeps = record {
    play = play;
    keeps = record { program = keeps.program ∙ h.keeps.program; input = keeps.input ∙ h.keeps.input; limit = keeps.limit ∙ h.keeps.limit };
    rest =
        let left : turns - turn ≡ suc (turns - (turn + 1)) = omega (arith, less) in
        let after = λ (x : Event). played_from p limit workers choices (turns - (turn + 1)) (turn + 1) (next_state (run_state v) x) in
        let state : run_state v' ≡ next_state (run_state v) e = ap state_after more ∙ state_after-push v.events e in
        h.rest
        ∙ ap (λ n. v.events ++ played_from p limit workers choices n turn (run_state v)) left
        ∙ ap (λ o. v.events ++ after_choice o after) (chosen_here choice (Some e) is made)
        ∙ sym (append_assoc v.events (e ∷ []) (after e))
        ∙ ap₂ (λ es s. es ++ played_from p limit workers choices (turns - (turn + 1)) (turn + 1) s) (sym more) (sym state);
  }

  -- without a candidate there is no further event
  pub ends_early : (choice : ℕ) → turn < turns → choice ≡ choice_at choices turn
      → chosen choice (candidates (pipeline_played v) v.book.limit workers (run_state v)) ≡ None
      → v.events ≡ played p limit workers choices turns
  ends_early choice less is none =
      let left : turns - turn ≡ suc (turns - (turn + 1)) = omega (arith, less) in
      let after = λ (x : Event). played_from p limit workers choices (turns - (turn + 1)) (turn + 1) (next_state (run_state v) x) in
      sym (h.rest
      ∙ ap (λ n. v.events ++ played_from p limit workers choices n turn (run_state v)) left
      ∙ ap (λ o. v.events ++ after_choice o after) (chosen_here choice None is none)
      ∙ append-nil v.events)

  -- after all turns there is no further event
  pub ends : turns ≤ turn → v.events ≡ played p limit workers choices turns
  ends past =
      let none : turns - turn ≡ 0 = omega (arith, past) in
      sym (h.rest ∙ ap (λ n. v.events ++ played_from p limit workers choices n turn (run_state v)) none ∙ append-nil v.events)
