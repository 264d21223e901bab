-- From what was followed to the answer.
use Rattle.std.proofs.Common.{◌≡◌, ◌≢◌, ◌∙◌, ap, sym, subst, refl, arith, inl, inr, ℕ, ◌+◌, ◌<◌, ◌≤◌, List, [], ◌∷◌, ◌++◌, Bool, true}
use Rattle.std.proofs.Common.{false, length, take, get_or, nat_lt}
use Rattle.std.specs.Prelude.{◌↔◌, IsTrue, All}
use Rattle.std.proofs.lemmas.Bool.{cases_lt}
use Rattle.std.proofs.lemmas.List.{get_or-take, length-take-le, take-take, take_all, take_more}
use Rattle.pipe_model.specs.declared.event.Event.{Event}
use Rattle.pipe_model.specs.declared.event.Event.TheVariants.{Stop}
use Rattle.pipe_model.specs.declared.report.Report.{Report}
use Rattle.pipe_model.specs.Orders.Starts.{starts_of}
use Rattle.pipe_model.specs.Pipelines.Pipeline.{Pipeline}
use Rattle.pipe_model.specs.Races.Reports.{AreRight}
use Rattle.pipe_model.specs.Runs.Run.{IsFinished, Run, RunThen}
use Rattle.pipe_model.specs.Runs.RunLogs.{accesses_after, columns_after, state_after}
use Rattle.pipe_model.specs.Runs.State.{State, initial_state, next_state}
use Rattle.run_laws.proofs.RunStates.FrontAndBack.{state_from-push}
use Rattle.std.proofs.Common.{ℤ}
use Rattle.order_2d.specs.LogStarts.{log_columns, log_starts}
use Rattle.pipe_model.specs.declared.column.Column.{Column}
use Rattle.pipe_model.specs.Language.ProgramsOfTrees.{pipeline_after_init}
use Rattle.pipe_model.specs.Language.CheckingRules.{BreaksNoRule}
use Rattle.pipe_model.specs.Language.SyntaxTree.{SyntaxTree}
use Rattle.race_detection.specs.FoundReports.{found_reports}
use Rattle.race_detection.specs.LogAccesses.{log_accesses}
use Rattle.run_record.specs.OwnColumns.{made_columns}
use Rattle.schedule_play.proofs.PlayedRuns.{IsDetectable, detectable, reports_right}
use Rattle.record_check.specs.declared.answer.RecordAnswer.TheVariants as answers
use Rattle.record_check.specs.declared.answer.RunKind.{RunKind}
use Rattle.record_check.specs.CheckedLoops.{IsFirstStop, IsKindOf, IsLoopAnswer, IsNotAllowed, IsRun, kind_of, with_stop}
use Rattle.record_check.specs.FollowedEvents.{HasFollowed}
use Rattle.record_check.proofs.NextEvents.{last_allowed}

-- ---- a stop

after_stop : (events : List Event) → state_after (events ++ Stop ∷ []) ≡ next_state (state_after events) Stop
after_stop events = state_from-push initial_state events Stop

pub stop_run : (p : Pipeline) (limit : ℕ) (events : List Event) → Run p limit events (state_after events)
    → (state_after events).stopped ≡ false
    → Run p limit (events ++ Stop ∷ []) (state_after (events ++ Stop ∷ []))
stop_run p limit events r going =
    subst (Run p limit (events ++ Stop ∷ [])) (sym (after_stop events))
    (RunThen r Stop (record { going = going; control = tt; program = tt }))

pub with_stop_run : (p : Pipeline) (limit : ℕ) (events : List Event) (b : Bool) → Run p limit events (state_after events)
    → (state_after events).stopped ≡ false
    → Run p limit (with_stop b events) (state_after (with_stop b events))
with_stop_run p limit events true r going = stop_run p limit events r going
with_stop_run p limit events false r going = r

pub with_stop_kind : (events : List Event) (b finished : Bool) → (state_after events).stopped ≡ false
    → IsTrue finished ↔ IsFinished (state_after events)
    → IsKindOf (state_after (with_stop b events)) (kind_of b finished)
with_stop_kind events true finished going h = ap (λ (s : State). s.stopped) (after_stop events)
with_stop_kind events false true going h = h.0 refl
with_stop_kind events false false going h = (going, λ f. (let z : false ≡ true = h.1 f in cc))

-- ---- events that were followed up to a stop

pub no_stops : (events : List Event) (n : ℕ) → IsFirstStop events n → All (λ (e : Event). e ≢ Stop) (take n events)
no_stops events n h = λ k d w.
    let within = h.within in
    let l : k < n = omega (arith, w, length-take-le n events within) in
    subst (λ e. e ≢ Stop) (sym (get_or-take n events k d l)) (h.before k d l)

take_front : (events : List Event) (n k : ℕ) → k ≤ n → take k (take n events) ≡ take k events
take_front events n k l = take-take k n events l

-- an event before the stop is not allowed
pub refused_before : (p : Pipeline) (limit : ℕ) (events going : List Event) (n k : ℕ) → IsFirstStop events n → going ≡ take n events → k < n
    → HasFollowed p limit going k → IsNotAllowed p limit events k
refused_before p limit events going n k first are l h =
    let within = first.within in
    let one : take k going ≡ take k events = ap (take k) are ∙ take_front events n k (omega (arith, l)) in
    let two : take (k + 1) going ≡ take (k + 1) events = ap (take (k + 1)) are ∙ take_front events n (k + 1) (omega (arith, l)) in
    let long : k < length going = (let a = ap length are in omega (arith, a, l, length-take-le n events within)) in
    record {
      within = omega (arith, l, within);
      run = subst (λ es. Run p limit es (state_after es)) one h.run;
      refused = subst (λ es. (s : State) → Run p limit es s → ⊥) two (h.refused long);
    }

-- the event after a stop is not allowed
pub refused_after : (p : Pipeline) (limit : ℕ) (events : List Event) (n : ℕ) → IsFirstStop events n → n + 1 < length events
    → Run p limit (take n events) (state_after (take n events)) → (state_after (take n events)).stopped ≡ false
    → IsNotAllowed p limit events (n + 1)
refused_after p limit events n first l r going =
    let stops : take (n + 1) events ≡ take n events ++ Stop ∷ [] =
    take_more events n Stop (omega (arith, l)) ∙ ap (λ e. take n events ++ e ∷ []) (first.stops Stop (omega (arith, l))) in
    record {
      within = l;
      run = subst (λ es. Run p limit es (state_after es)) (sym stops) (stop_run p limit (take n events) r going);
      refused = λ s more. (
          let next = last_allowed p limit (take (n + 1) events) (get_or events (n + 1) Stop) s
          (subst (λ es. Run p limit es s) (take_more events (n + 1) Stop l) more) in
          let stopped : (state_after (take (n + 1) events)).stopped ≡ true =
          ap (λ es. (state_after es).stopped) stops ∙ ap (λ (t : State). t.stopped) (after_stop (take n events)) in
          let z : true ≡ false = sym stopped ∙ next.going in
          cc);
    }

-- all events were followed
pub all_events : (events : List Event) (n : ℕ) → IsFirstStop events n → length events ≤ n + 1 → (b : Bool) → b ≡ nat_lt n (length events)
    → with_stop b (take n events) ≡ events
all_events events n first l b e = elim (cases_lt n (length events)) [
  | inl less ↦ (
      let t : nat_lt n (length events) ≡ true = grind (arith, less) in
      let stops : take (n + 1) events ≡ take n events ++ Stop ∷ [] =
      take_more events n Stop less ∙ ap (λ x. take n events ++ x ∷ []) (first.stops Stop less) in
      ap (λ c. with_stop c (take n events)) (e ∙ t) ∙ sym stops ∙ take_all (n + 1) events l)
  | inr past ↦ (
      let t : nat_lt n (length events) ≡ false = grind (arith, past) in
      ap (λ c. with_stop c (take n events)) (e ∙ t) ∙ take_all n events past)
]

-- ---- the races of what was followed

pub record_detectable : (tree : SyntaxTree) (input : List ℤ) (limit : ℕ) (es all : List Event) (b : Bool) (columns : List Column)
    → BreaksNoRule tree → Run (pipeline_after_init tree input) limit es (state_after es)
    → (state_after es).stopped ≡ false → all ≡ with_stop b es → columns ≡ made_columns all → IsDetectable columns all
record_detectable tree input limit es all b columns accepted r going are made =
    detectable tree input limit all columns accepted
    (subst (λ l. Run (pipeline_after_init tree input) limit l (state_after l)) (sym are)
    (with_stop_run (pipeline_after_init tree input) limit es b r going))
    made

pub checked_run : (p : Pipeline) (limit : ℕ) (es all : List Event) (b finished : Bool) (columns : List Column) (reports : List Report)
    (kind : RunKind) → Run p limit es (state_after es) → (state_after es).stopped ≡ false → IsTrue finished ↔ IsFinished (state_after es)
    → all ≡ with_stop b es → IsDetectable columns all
    → reports ≡ found_reports (log_columns all) (log_starts all) (log_accesses all) → kind ≡ kind_of b finished
    → IsLoopAnswer p limit (with_stop b es) (answers.Run kind (record { columns = columns; events = all }) reports)
checked_run p limit es all b finished columns reports kind r going ends are can found is =
    subst (λ l. IsLoopAnswer p limit l (answers.Run kind (record { columns = columns; events = all }) reports)) are
    (IsRun kind (record { columns = columns; events = all }) reports (record {
      run = run;
      same = refl;
      own = can.ended;
      reached = subst (λ l. IsKindOf (state_after l) kind) (sym are)
          (subst (IsKindOf (state_after (with_stop b es))) (sym is) (with_stop_kind es b finished going ends));
      found = by_found;
      right = subst (AreRight (columns_after all) (accesses_after all)) (sym by_found) (reports_right p limit all run);
    }))
  where
    run : Run p limit all (state_after all)
    run = subst (λ l. Run p limit l (state_after l)) (sym are) (with_stop_run p limit es b r going)

    by_found : reports ≡ found_reports (columns_after all) (starts_of all) (accesses_after all)
    by_found = found ∙ can.found

-- all events before the stop were followed
pub all_followed : (p : Pipeline) (limit : ℕ) (events : List Event) (n k : ℕ) → IsFirstStop events n → n ≤ k
    → HasFollowed p limit (take n events) k
    → (k ≡ length (take n events)) × Run p limit (take n events) (state_after (take n events))
all_followed p limit events n k first l h =
    let within = h.within in
    let long = length-take-le n events first.within in (
      omega (arith, within, l, long),
      subst (λ es. Run p limit es (state_after es)) (take_all k (take n events) (omega (arith, l, long))) h.run,
    )
