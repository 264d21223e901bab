-- The control part of a run has the columns and the starts of the run, so its histories have the reports of the run.
use Rattle.std.proofs.Common.{◌≡◌, ◌∙◌, ℕ, Bool, true, false, List, [], ◌∷◌, ◌++◌, ap, sym, refl, append-nil, append_assoc, length}
use Rattle.std.proofs.Common.{if◌then◌else◌}
use Rattle.order_2d.proofs.EventsSoFar.{without-append}
use Rattle.order_2d.specs.LogStarts.{log_starts}
use Rattle.pipe_model.specs.declared.event.Event.{Event}
use Rattle.pipe_model.specs.declared.event.Event.TheVariants.{Begin, Access, Advance, Enter, Finish, Stop}
use Rattle.pipe_model.specs.Orders.Starts.{started_by, starts_from, starts_of}
use Rattle.pipe_model.specs.Pipelines.Pipeline.{Pipeline}
use Rattle.pipe_model.specs.Races.Columns.{at, nodes_at}
use Rattle.pipe_model.specs.Races.Reports.{AreRight}
use Rattle.pipe_model.specs.Runs.ControlParts.{control_after, without_accesses}
use Rattle.pipe_model.specs.Runs.ControlRun.{is_access}
use Rattle.pipe_model.specs.Runs.Run.{Run, EmptyRun, RunThen, state_from}
use Rattle.pipe_model.specs.Runs.State.{State, initial_state, next_state, own_columns}
use Rattle.schedule_laws.proofs.ControlOutlines.{control_skips_accesses}
use Rattle.run_laws.proofs.ListOrders.StartsOfRuns.{starts_of_then}
use Rattle.run_laws.proofs.RaceHistories.CellReports.{reports_are_right}
use Rattle.race_detection.specs.DetectionLaws.{RunsAreDetected}
use Rattle.race_detection.specs.FoundReports.{cell_bound, found_reports}
use Rattle.race_detection.proofs.CellBounds.{among_below}
use Rattle.race_detection.proofs.ControlLogs.{columns_of_run, control_log}
use Rattle.race_detection.proofs.LoggedAccesses.{accesses_of_run}

-- ---- the starts

-- one more event at the end
starts_with : (s : State) (events : List Event) (e : Event) → starts_from s (events ++ e ∷ []) ≡ starts_from s events ++ started_by
    (state_from s events) e
starts_with s [] e = append-nil (started_by s e)
starts_with s (x ∷ xs) e =
    ap (λ l. started_by s x ++ l) (starts_with (next_state s x) xs e)
    ∙ sym (append_assoc (started_by s x) (starts_from (next_state s x) xs) (started_by (state_from (next_state s x) xs) e))

-- which instance an event starts depends on the columns alone
started_alike : (s t : State) (e : Event) → own_columns s ≡ own_columns t → started_by s e ≡ started_by t e
started_alike s t (Begin i) same = refl
started_alike s t (Enter i) same = ap (λ cs. at i (length (nodes_at cs i)) ∷ []) same
started_alike s t (Access i a) same = refl
started_alike s t (Advance i k n) same = refl
started_alike s t (Finish i e) same = refl
started_alike s t Stop same = refl

-- an access starts none
access_starts_none : (s : State) (e : Event) → is_access e ≡ true → started_by s e ≡ []
access_starts_none s (Begin i) t = absurd (cc)
access_starts_none s (Enter i) t = absurd (cc)
access_starts_none s (Access i a) t = refl
access_starts_none s (Advance i k n) t = absurd (cc)
access_starts_none s (Finish i e) t = absurd (cc)
access_starts_none s Stop t = absurd (cc)

one_more_start : (p : Pipeline) (limit : ℕ) (events : List Event) (s : State) (e : Event) → Run p limit events s
    → starts_of (without_accesses events) ≡ starts_of events → (b : Bool) → is_access e ≡ b
    → starts_of (without_accesses (events ++ e ∷ [])) ≡ starts_of events ++ started_by s e
one_more_start p limit events s e r before true t =
    let log : without_accesses (events ++ e ∷ []) ≡ without_accesses events =
    without-append events (e ∷ []) ∙ ap (λ b. without_accesses events ++ (if b then [] else e ∷ [])) t
    ∙ append-nil (without_accesses events) in
    ap starts_of log ∙ before ∙ sym (append-nil (starts_of events)) ∙ ap (λ l. starts_of events ++ l) (sym (access_starts_none s e t))
one_more_start p limit events s e r before false t =
    let log : without_accesses (events ++ e ∷ []) ≡ without_accesses events ++ e ∷ [] =
    without-append events (e ∷ []) ∙ ap (λ b. without_accesses events ++ (if b then [] else e ∷ [])) t in
    let state : state_from initial_state (without_accesses events) ≡ control_after events =
    sym (control_skips_accesses initial_state events) in
    let columns : own_columns (state_from initial_state (without_accesses events)) ≡ own_columns s =
    ap own_columns state ∙ columns_of_run p limit events s r in
    ap starts_of log ∙ starts_with initial_state (without_accesses events) e
    ∙ ap (λ l. l ++ started_by (state_from initial_state (without_accesses events)) e) before
    ∙ ap (λ l. starts_of events ++ l) (started_alike (state_from initial_state (without_accesses events)) s e columns)

starts_of_run : (p : Pipeline) (limit : ℕ) (events : List Event) (s : State) → Run p limit events s → log_starts events ≡ starts_of events
starts_of_run p limit events s EmptyRun = refl
starts_of_run p limit events s (RunThen {events = es} {s = t} r e h) =
    one_more_start p limit es t e r (starts_of_run p limit es t r) (is_access e) refl ∙ sym (starts_of_then r e)

-- ---- the reports

-- the reports of a run's histories are right
found_are_right : (p : Pipeline) (limit : ℕ) (events : List Event) (s : State) → Run p limit events s
    → AreRight (own_columns s) s.accesses (found_reports (own_columns s) (starts_of events) s.accesses)
found_are_right p limit events s r =
    reports_are_right p limit events s (cell_bound s.accesses) r (λ a among. among_below s.accesses a among)

pub runs_are_detected : RunsAreDetected
runs_are_detected p limit events s r = record {
  control = control_log p limit events s r;
  columns = columns_of_run p limit events s r;
  starts = starts_of_run p limit events s r;
  accesses = accesses_of_run p limit events s r;
  right = found_are_right p limit events s r;
}
