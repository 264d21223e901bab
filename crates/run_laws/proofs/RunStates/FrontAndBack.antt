-- A run defined from its first event, and from its last.
use Rattle.std.proofs.Common.{List, ◌≡◌, [], ◌∷◌, ◌++◌, refl, ℕ, ap, sym, ◌∙◌, append-nil, subst, append_assoc}
use Rattle.pipe_model.specs.Runs.Allowed.{Allowed}
use Rattle.pipe_model.specs.Pipelines.Pipeline.{Pipeline}
use Rattle.pipe_model.specs.Runs.Run.{state_from, Run, EmptyRun, RunThen, AllowedFrom}
use Rattle.pipe_model.specs.Runs.State.{State, next_state, initial_state}
use Rattle.pipe_model.specs.declared.event.Event.{Event}
use Rattle.run_laws.specs.RunLaws.{RunsFromTheFront}

-- the state after one more event
pub state_from-push : (s : State) (es : List Event) (e : Event)
    → state_from s (es ++ e ∷ []) ≡ next_state (state_from s es) e
state_from-push s [] e = refl
state_from-push s (x ∷ es) e = state_from-push (next_state s x) es e

-- the state of a run is the one after its events
pub run_state_is : {p : Pipeline} {limit : ℕ} {es : List Event} {s : State} → Run p limit es s
    → s ≡ state_from initial_state es
run_state_is EmptyRun = refl
run_state_is (RunThen {events = es} {s = t} r e h) =
    ap (λ u. next_state u e) (run_state_is r) ∙ sym (state_from-push initial_state es e)

-- a run goes on with events that are allowed after its state
run_goes_on : (p : Pipeline) (limit : ℕ) (es : List Event) (s : State) (more : List Event) → Run p limit es s
    → AllowedFrom p limit s more → Run p limit (es ++ more) (state_from s more)
run_goes_on p limit es s [] r g = rw append-nil r
run_goes_on p limit es s (e ∷ more) r g =
    subst (λ l. Run p limit l (state_from (next_state s e) more)) (append_assoc es (e ∷ []) more)
    (run_goes_on p limit (es ++ e ∷ []) (next_state s e) more (RunThen r e g.0) g.1)

-- events that are allowed after a state, and one more
allowed_from-push : (p : Pipeline) (limit : ℕ) (s : State) (es : List Event) (e : Event) → AllowedFrom p limit s es
    → Allowed p limit (state_from s es) e → AllowedFrom p limit s (es ++ e ∷ [])
allowed_from-push p limit s [] e g h = (h, tt)
allowed_from-push p limit s (x ∷ es) e g h = (g.0, allowed_from-push p limit (next_state s x) es e g.1 h)

-- a run defined from its first event
run_from_front : {p : Pipeline} {limit : ℕ} {es : List Event} {s : State} → Run p limit es s
    → AllowedFrom p limit initial_state es
run_from_front EmptyRun = tt
run_from_front {p} {limit} (RunThen {events = es} {s = t} r e h) =
    allowed_from-push p limit initial_state es e (run_from_front r)
    (subst (λ u. Allowed p limit u e) (run_state_is r) h)

-- what is allowed is allowed up to each point
allowed_front : (p : Pipeline) (limit : ℕ) (s : State) (front rest : List Event) → AllowedFrom p limit s (front ++ rest)
    → AllowedFrom p limit s front
allowed_front p limit s [] rest g = tt
allowed_front p limit s (e ∷ front) rest g = (g.0, allowed_front p limit (next_state s e) front rest g.1)

-- a prefix of a run is a run
pub front_is_run : (p : Pipeline) (limit : ℕ) (front rest : List Event) (s : State) → Run p limit (front ++ rest) s
    → Run p limit front (state_from initial_state front)
front_is_run p limit front rest s r =
    run_goes_on p limit [] initial_state front EmptyRun (allowed_front p limit initial_state front rest (run_from_front r))

-- the law of runs defined from their first event
pub runs_from_the_front : RunsFromTheFront
runs_from_the_front p limit events s = (
  (λ r. (run_from_front r, run_state_is r)),
  (λ h. subst (λ u. Run p limit events u) (sym h.1) (run_goes_on p limit [] initial_state events EmptyRun h.0)),
)
