-- Schedules: a run is finished exactly if it has no candidate, and the events of a schedule are a run.
use Rattle.std.proofs.Common.{◌≡◌, ◌≢◌, ◌∙◌, sym, ap, subst, refl, ℕ, zero, suc, List, [], ◌∷◌, ◌++◌, inl, inr, ◌<◌, ◌≤◌, ◌+◌, ◌%◌}
use Rattle.std.proofs.Common.{length, Option, Some, None, arith, append-nil, append_assoc, get_or}
use Rattle.std.proofs.lemmas.Bool.{cases_lt, false≢true}
use Rattle.pipe_model.proofs.Members.{among_at}
use Rattle.pipe_model.specs.declared.event.Event.{Event}
use Rattle.pipe_model.specs.declared.event.Event.TheVariants.{Begin, Access, Advance, Enter, Finish, Stop}
use Rattle.pipe_model.specs.Runs.Allowed.{Allowed, IsRunning}
use Rattle.pipe_model.specs.Pipelines.Pipeline.{Pipeline, IsWellFormed}
use Rattle.pipe_model.specs.Races.DeterminacyRaces.{Among, Here}
use Rattle.pipe_model.specs.Runs.Run.{Run, IsFinished, state_from}
use Rattle.pipe_model.specs.Runs.State.{State, initial_state, is_completed, next_state}
use Rattle.run_laws.proofs.RunStates.Frames.{frame_at_within}
use Rattle.run_laws.proofs.RunStates.RunInvariant.{run_consistent}
use Rattle.pipe_model.specs.Runs.Schedules.{candidates, chosen, choice_at, after_choice, played_from, PlayedRun, NoTurn, OneTurn}
use Rattle.run_laws.proofs.Elision.FinishedRuns.{closed_or_goes_on}
use Rattle.schedule_laws.specs.ScheduleLaws.{FinishedRunsHaveNoCandidate, SchedulesPlayRuns}
use Rattle.schedule_laws.proofs.Candidates.{candidate_is_good, played_runs_are_runs, runs_have_candidates}

-- after the end only a stop is allowed
finished_allows_none : (p : Pipeline) (limit : ℕ) (events : List Event) (s : State) (e : Event) → Run p limit events s → IsFinished s
    → e ≢ Stop
    → Allowed p limit s e → ⊥
finished_allows_none p limit events s e r fin apart h = by_event e h apart
  where
    runs_not : (i : ℕ) → IsRunning s i → ⊥
    runs_not i q = false≢true (sym (ap is_completed q.runs) ∙ fin.over i q.frame q.is)

    by_event : (x : Event) → Allowed p limit s x → x ≢ Stop → ⊥
    by_event (Begin i) h apart =
        let shut = fin.shut in
        let within = frame_at_within s.frames shut.iteration shut.frame shut.is in
        let number = h.control.number in
        elim (cases_lt (shut.iteration + 1) (length s.frames)) [
          | inl less ↦ closed_or_goes_on shut.frame.status shut.frame.nodes shut.closes
              ((run_consistent r).sound.goes shut.iteration shut.frame shut.is less)
          | inr last ↦ closed_or_goes_on shut.frame.status shut.frame.nodes shut.closes
              (h.control.follows shut.iteration shut.frame (omega (arith, within, last, number)) shut.is)
        ]
    by_event (Access i a) h apart = runs_not i h.control
    by_event (Advance i k n) h apart = runs_not i h.control.running
    by_event (Enter i) h apart =
        let c = h.control in
        false≢true (sym (ap is_completed c.named) ∙ fin.over i c.frame c.is)
    by_event (Finish i d) h apart = runs_not i h.control.running
    by_event Stop h apart = apart refl

-- a list without an element is empty
nothing_in : {A : Type 0} (xs : List A) → ((x : A) → Among x xs → ⊥) → xs ≡ []
nothing_in [] h = refl
nothing_in (x ∷ xs) h = absurd (h x Here)

pub finished_runs_have_no_candidate : FinishedRunsHaveNoCandidate
finished_runs_have_no_candidate p limit workers events s r well one busy going = (
  (λ fin. nothing_in (candidates p limit workers s) (λ e m. (
      let good = candidate_is_good p limit workers events s e r well going m in
      finished_allows_none p limit events s e r fin good.no_stop good.allowed))),
  (λ none. elim (runs_have_candidates p limit workers events s r well one busy going) [
    | inl fin ↦ fin
    | inr some ↦ (let e = ap (λ (l : List Event). length l) none in absurd (omega (arith, e, some)))
  ]),
)

-- ---- schedules

chosen_is_among : (choice : ℕ) (es : List Event) (e : Event) → chosen choice es ≡ Some e → Among e es
chosen_is_among choice [] e q = absurd (cc)
chosen_is_among choice (x ∷ xs) e q =
    let long : 0 < length (x ∷ xs) = omega arith in
    let within : choice % length (x ∷ xs) < length (x ∷ xs) = omega (arith, long) in
    let same : get_or (x ∷ xs) (choice % length (x ∷ xs)) x ≡ e = cc in
    subst (λ y. Among y (x ∷ xs)) same (among_at (x ∷ xs) (choice % length (x ∷ xs)) x within)

-- no event is chosen only if there is no candidate
none_is_chosen : (choice : ℕ) (es : List Event) → chosen choice es ≡ None → es ≡ []
none_is_chosen choice [] q = refl
none_is_chosen choice (x ∷ xs) q = absurd (cc)

-- the events of further turns
record PlaysOn (p : Pipeline) (limit workers : ℕ) (events : List Event) (s : State) (turns : ℕ) (more : List Event) : Type 0 where
  run : PlayedRun p limit workers (events ++ more) (state_from s more)
  most : length more ≤ turns
  ended : length more < turns → IsFinished (state_from s more)

plays_on : (p : Pipeline) (limit workers : ℕ) (choices : List ℕ) (turns j : ℕ) (events : List Event) (s : State) → IsWellFormed p
    → 0 < limit → 0 < workers
    → PlayedRun p limit workers events s → PlaysOn p limit workers events s turns (played_from p limit workers choices turns j s)
plays_on p limit workers choices zero j events s well one busy r = record {
  run = rw append-nil r;
  most = omega arith;
  ended = λ l. absurd (omega (arith, l));
}
plays_on p limit workers choices (suc turns) j events s well one busy r =
    by_choice (chosen (choice_at choices j) (candidates p limit workers s)) refl
    (λ e m. plays_on p limit workers choices turns (j + 1) (events ++ e ∷ []) (next_state s e) well one busy (OneTurn r e m))
  where
    by_choice : (o : Option Event) → chosen (choice_at choices j) (candidates p limit workers s) ≡ o
        → ((e : Event) → Among e (candidates p limit workers s)
        → PlaysOn p limit workers (events ++ e ∷ []) (next_state s e) turns
        (played_from p limit workers choices turns (j + 1) (next_state s e)))
        → PlaysOn p limit workers events s (suc turns) (after_choice o
        (λ e. played_from p limit workers choices turns (j + 1) (next_state s e)))
    by_choice None q again =
        let k = played_runs_are_runs p limit workers events s r well in
        let none = none_is_chosen (choice_at choices j) (candidates p limit workers s) q in
        record {
          run = rw append-nil r;
          most = omega arith;
          ended = λ l. (finished_runs_have_no_candidate p limit workers events s k.run well one busy k.not_stopped).1 none;
        }
    by_choice (Some e) q again =
        let h = again e (chosen_is_among (choice_at choices j) (candidates p limit workers s) e q) in
        let more = played_from p limit workers choices turns (j + 1) (next_state s e) in
        let most = h.most in
        record {
          run = subst (λ l. PlayedRun p limit workers l (state_from (next_state s e) more)) (append_assoc events (e ∷ []) more) h.run;
          most = omega (arith, most);
          ended = λ l. h.ended (omega (arith, l));
        }

pub schedules_play_runs : SchedulesPlayRuns
schedules_play_runs p limit workers choices turns well one busy =
    let h = plays_on p limit workers choices turns 0 [] initial_state well one busy NoTurn in
    record { run = h.run; within = h.most; ended = h.ended }
