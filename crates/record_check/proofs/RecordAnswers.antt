-- The answers exclude one another.
use Rattle.std.proofs.Common.{◌≡◌, ◌∙◌, ap, ap₂, sym, subst, refl, arith, inl, inr, ℕ, ◌+◌, ◌<◌, ◌≤◌, List, [], ◌∷◌, ◌++◌, Bool, true}
use Rattle.std.proofs.Common.{false, length, take, drop}
use Rattle.std.specs.Prelude.{is_some}
use Rattle.std.proofs.lemmas.Bool.{cases_lt}
use Rattle.std.proofs.lemmas.List.{nil_from_length, take-append-drop, take-take, take_all}
use Rattle.pipe_model.specs.declared.column.Column.{Column}
use Rattle.pipe_model.specs.declared.event.Event.{Event}
use Rattle.pipe_model.specs.declared.event.RunLog.{RunLog}
use Rattle.pipe_model.specs.declared.report.Report.{Report}
use Rattle.pipe_model.specs.Pipelines.WholePrograms.{WholeProgram, init_trap, loop_after_init}
use Rattle.pipe_model.specs.Runs.Run.{Run}
use Rattle.pipe_model.specs.Runs.RunLogs.{state_after}
use Rattle.pipe_model.specs.Runs.State.{State}
use Rattle.pipe_model.specs.Runs.WholeProgramRuns.{NoLoop, OfLoop, ProgramIsFinished, ProgramRun, WithLoop, WithoutLoop}
use Rattle.run_laws.proofs.RunStates.FrontAndBack.{front_is_run}
use Rattle.record_check.specs.declared.answer.RecordAnswer.TheVariants as answers
use Rattle.record_check.specs.declared.answer.RunKind.{RunKind}
use Rattle.record_check.specs.declared.answer.RunKind.TheVariants.{Finished, Unfinished, Stopped}
use Rattle.record_check.specs.CheckedRecords.{IsCheckedRecord, IsNoProgramRun, IsProgramKind, IsProgramRun, IsRefusedRecord}
use Rattle.record_check.specs.RecordLaws.{RecordsHaveOneAnswer, RunsAreNotRefused}
use Rattle.record_check.proofs.ProgramRecords.{no_events}

-- ---- prefixes of runs

prefix_of : (w : WholeProgram) (limit : ℕ) (all front rest : List Event) (s : State) → ProgramRun w limit all s → all ≡ front ++ rest
    → ProgramRun w limit front (state_after front)
prefix_of w limit all [] rest s (NoLoop trapped) e = NoLoop trapped
prefix_of w limit all (x ∷ front) rest s (NoLoop trapped) e = absurd (let l = ap length e in omega (arith, l))
prefix_of w limit all front rest s (OfLoop none r) e =
    OfLoop none (front_is_run (loop_after_init w) limit front rest s (subst (λ es. Run (loop_after_init w) limit es s) e r))

shorter_run : (w : WholeProgram) (limit : ℕ) (events : List Event) (n m : ℕ) (s : State) → n ≤ m → ProgramRun w limit (take m events) s
    → ProgramRun w limit (take n events) (state_after (take n events))
shorter_run w limit events n m s l r =
    prefix_of w limit (take m events) (take n events) (drop n (take m events)) s r
    (sym (take-append-drop n (take m events)) ∙ ap (λ es. es ++ drop n (take m events)) (take-take n m events l))

no_longer_run : (w : WholeProgram) (limit : ℕ) (events : List Event) (k m : ℕ) (s : State) → IsRefusedRecord w limit events k → k < m
    → ProgramRun w limit (take m events) s → ⊥
no_longer_run w limit events k m s h l r =
    h.refused (state_after (take (k + 1) events)) (shorter_run w limit events (k + 1) m s (omega (arith, l)) r)

pub runs_are_not_refused : RunsAreNotRefused
runs_are_not_refused w limit events s k r h =
    no_longer_run w limit events k (length events) s h h.within
    (subst (λ es. ProgramRun w limit es s) (sym (take_all (length events) events (omega arith))) r)

one_index : (w : WholeProgram) (limit : ℕ) (events : List Event) (k n : ℕ) → IsRefusedRecord w limit events k
    → IsRefusedRecord w limit events n → k ≡ n
one_index w limit events k n h g = elim (cases_lt k n) [
  | inl less ↦ absurd (no_longer_run w limit events k n (state_after (take n events)) h less g.run)
  | inr past ↦ elim (cases_lt n k) [
    | inl more ↦ absurd (no_longer_run w limit events n k (state_after (take k events)) g more h.run)
    | inr below ↦ omega (arith, past, below)
  ]
]

-- ---- kinds

-- a run is not stopped if `init` trapped
going_after_trap : (w : WholeProgram) (limit : ℕ) (events : List Event) → ProgramRun w limit events (state_after events)
    → is_some (init_trap w) ≡ true
    → (state_after events).stopped ≡ false
going_after_trap w limit events r trapped =
    subst (λ es. (state_after es).stopped ≡ false) (sym (nil_from_length events (no_events r trapped))) refl

finished_is_going : (w : WholeProgram) (limit : ℕ) (events : List Event) → ProgramRun w limit events (state_after events)
    → ProgramIsFinished w (state_after events) → (state_after events).stopped ≡ false
finished_is_going w limit events r (WithoutLoop trapped) = going_after_trap w limit events r trapped
finished_is_going w limit events r (WithLoop none f) = f.going

never_both : {b : Bool} → b ≡ true → b ≡ false → ⊥
never_both t f = let z : true ≡ false = sym t ∙ f in cc

one_kind : (w : WholeProgram) (limit : ℕ) (events : List Event) (kind other : RunKind) → ProgramRun w limit events (state_after events)
    → IsProgramKind w (state_after events) kind → IsProgramKind w (state_after events) other → kind ≡ other
one_kind w limit events Finished Finished r h g = refl
one_kind w limit events Finished Unfinished r h g = absurd (g.1 h)
one_kind w limit events Finished Stopped r h g = absurd (never_both g (finished_is_going w limit events r h))
one_kind w limit events Unfinished Finished r h g = absurd (h.1 g)
one_kind w limit events Unfinished Unfinished r h g = refl
one_kind w limit events Unfinished Stopped r h g = absurd (never_both g h.0)
one_kind w limit events Stopped Finished r h g = absurd (never_both h (finished_is_going w limit events r g))
one_kind w limit events Stopped Unfinished r h g = absurd (never_both h g.0)
one_kind w limit events Stopped Stopped r h g = refl

-- ---- answers

one_log : (a b : RunLog) → a.columns ≡ b.columns → a.events ≡ b.events → a ≡ b
one_log a b c e = ap₂ (λ (cs : List Column) (es : List Event). record { columns = cs; events = es }) c e

one_run : (w : WholeProgram) (limit : ℕ) (events : List Event) (kind kind' : RunKind) (log log' : RunLog) (reports reports' : List Report)
    → IsCheckedRecord w limit events kind log reports → IsCheckedRecord w limit events kind' log' reports'
    → answers.Run kind log reports ≡ answers.Run kind' log' reports'
one_run w limit events kind kind' log log' reports reports' h g =
    let kinds : kind ≡ kind' = one_kind w limit events kind kind' h.run h.reached g.reached in
    let logs : log ≡ log' = one_log log log' (h.own ∙ sym g.own) (h.same ∙ sym g.same) in
    let found : reports ≡ reports' = h.found ∙ sym g.found in
    cc

pub records_have_one_answer : RecordsHaveOneAnswer
records_have_one_answer w limit events answer other (IsProgramRun kind log reports h) (IsProgramRun kind' log' reports' g) =
    one_run w limit events kind kind' log log' reports reports' h g
records_have_one_answer w limit events answer other (IsProgramRun kind log reports h) (IsNoProgramRun k g) =
    absurd (runs_are_not_refused w limit events (state_after events) k h.run g)
records_have_one_answer w limit events answer other (IsNoProgramRun k h) (IsProgramRun kind log reports g) =
    absurd (runs_are_not_refused w limit events (state_after events) k g.run h)
records_have_one_answer w limit events answer other (IsNoProgramRun k h) (IsNoProgramRun n g) =
    ap answers.NotAllowed (one_index w limit events k n h g)
