-- Which iterations have a next event, by what a schedule keeps.
use Rattle.std.proofs.Common.{◌≡◌, ◌∙◌, ap, sym, subst, refl, arith, inl, inr, ℕ, zero, suc, ◌+◌, ◌<◌, List, [], ◌∷◌, ◌++◌, Bool, true}
use Rattle.std.proofs.Common.{false, ◌&&◌, ◌||◌, if◌then◌else◌, Option, None, nat_eq, length}
use Rattle.std.specs.Prelude.{is_some}
use Rattle.std.specs.List.{list_any}
use Rattle.std.proofs.lemmas.Bool.{cases_lt}
use Rattle.std.proofs.Math.ListN.{get_or-eq_default}
use Rattle.pipe_model.specs.declared.node.Node.{Node}
use Rattle.pipe_model.specs.declared.status.Status.{Status}
use Rattle.pipe_model.specs.declared.status.Status.TheVariants as statuses
use Rattle.pipe_model.specs.declared.event.Event.TheVariants as events
use Rattle.pipe_model.specs.Pipelines.Behaviour.{Action}
use Rattle.pipe_model.specs.Pipelines.Pipeline.{Pipeline}
use Rattle.pipe_model.specs.Runs.NextEvents.{event_if, event_of_frame, event_of_status, may_enter, next_event}
use Rattle.pipe_model.specs.Runs.State.{Frame, State, frame_at}
use Rattle.frame_book.specs.BookStates.{BookState, item_or}
use Rattle.run_laws.proofs.RunStates.Frames.{frame_at_exists}
use Rattle.stage_code.specs.FlatCode.{FlatCode}
use Rattle.schedule_play.specs.RunningIterations.{RunningIterationState}
use Rattle.schedule_play.specs.PlayStates.{FitsStatus, IsPlay, PlayState, pipeline_played, run_state}
use Rattle.schedule_play.specs.declared.turns.Alive.{Alive}
use Rattle.schedule_play.specs.declared.turns.Readiness.TheVariants.{MayEnter, MustWait}
use Rattle.schedule_play.specs.Turns.{alive_entry, alive_from, alive_iterations, may_go}

-- the entry of this iteration has a turn
abbrev pub goes : ℕ → Alive → Bool
goes i a = nat_eq a.iteration i && may_go true a.readiness

or_false : (b : Bool) → (b || false) ≡ b
or_false true = refl
or_false false = refl

any_append : (i : ℕ) (xs ys : List Alive) → list_any (goes i) (xs ++ ys) ≡ (list_any (goes i) xs || list_any (goes i) ys)
any_append i [] ys = refl
any_append i (x ∷ xs) ys = by (goes i x) (any_append i xs ys)
  where
    by : (b : Bool) → list_any (goes i) (xs ++ ys) ≡ (list_any (goes i) xs || list_any (goes i) ys)
        → (b || list_any (goes i) (xs ++ ys)) ≡ ((b || list_any (goes i) xs) || list_any (goes i) ys)
    by true e = refl
    by false e = e

-- the entry of iteration k, looked at for iteration i
own_entry : (p : Pipeline) (s : State) (i : ℕ) (w : Status) (nodes : List Node) (t : List Action)
    → list_any (goes i) (alive_entry s.frames i w nodes) ≡ is_some (event_of_status p s i w t)
own_entry p s i statuses.Running nodes t = rw same refl
  where
    same : nat_eq i i ≡ true
    same = grind arith
own_entry p s i (statuses.Pending k n) nodes t = by (may_enter s.frames i k n)
  where
    same : nat_eq i i ≡ true
    same = grind arith

    by : (b : Bool) → list_any (goes i) (record { iteration = i; number = n; readiness = if b then MayEnter else MustWait } ∷ []) ≡ is_some
        (event_if b (events.Enter i))
    by true = rw same refl
    by false = rw same refl
own_entry p s i (statuses.Completed e) nodes t = refl

other_entry : (all : List Frame) (i k : ℕ) (w : Status) (nodes : List Node) → nat_eq k i ≡ false
    → list_any (goes i) (alive_entry all k w nodes) ≡ false
other_entry all i k statuses.Running nodes e = rw e refl
other_entry all i k (statuses.Pending d n) nodes e = rw e refl
other_entry all i k (statuses.Completed x) nodes e = refl

none_before : (all : List Frame) (i k : ℕ) (fs : List Frame) → i < k → list_any (goes i) (alive_from all k fs) ≡ false
none_before all i k [] l = refl
none_before all i k (f ∷ fs) l =
    let apart : nat_eq k i ≡ false = grind (arith, l) in
    any_append i (alive_entry all k f.status f.nodes) (alive_from all (k + 1) fs)
    ∙ ap (λ b. b || list_any (goes i) (alive_from all (k + 1) fs)) (other_entry all i k f.status f.nodes apart)
    ∙ none_before all i (k + 1) fs (omega (arith, l))

-- iteration k + d, among frame k and those after it
next_from : (p : Pipeline) (s : State) (i k d : ℕ) (fs : List Frame) → k + d ≡ i
    → list_any (goes i) (alive_from s.frames k fs) ≡ is_some (event_of_frame p s i (frame_at fs d))
next_from p s i k d [] e = refl
next_from p s i k zero (f ∷ fs) e =
    let same : i ≡ k = omega (arith, e) in
    let own : list_any (goes i) (alive_entry s.frames k f.status f.nodes) ≡ is_some (event_of_status p s i f.status f.trace) =
    subst (λ n. list_any (goes i) (alive_entry s.frames n f.status f.nodes) ≡ is_some (event_of_status p s i f.status f.trace)) same
    (own_entry p s i f.status f.nodes f.trace) in
    any_append i (alive_entry s.frames k f.status f.nodes) (alive_from s.frames (k + 1) fs)
    ∙ ap (λ b. list_any (goes i) (alive_entry s.frames k f.status f.nodes) || b) (none_before s.frames i (k + 1) fs (omega (arith, e)))
    ∙ or_false (list_any (goes i) (alive_entry s.frames k f.status f.nodes)) ∙ own
next_from p s i k (suc d) (f ∷ fs) e =
    let apart : nat_eq k i ≡ false = grind (arith, e) in
    let next : k + 1 + d ≡ i = omega (arith, e) in
    any_append i (alive_entry s.frames k f.status f.nodes) (alive_from s.frames (k + 1) fs)
    ∙ ap (λ b. b || list_any (goes i) (alive_from s.frames (k + 1) fs)) (other_entry s.frames i k f.status f.nodes apart)
    ∙ next_from p s i (k + 1) d fs next

pub has_next_is : (p : Pipeline) (s : State) (i : ℕ) (kept : List Alive) → kept ≡ alive_iterations s
    → list_any (goes i) kept ≡ is_some (next_event p s i)
has_next_is p s i kept e =
    let z : 0 + i ≡ i = omega arith in
    ap (list_any (goes i)) e ∙ next_from p s i 0 i s.frames z

-- ---- running instances

by_status : (code : FlatCode) (cells : ℕ) (b : BookState) (p : Pipeline) (s : State) (i : ℕ) (w : Status) (trace : List Action)
    (kept : Option RunningIterationState)
    → FitsStatus code cells b i w trace kept → is_some kept ≡ true → is_some (event_of_status p s i w trace) ≡ true
by_status code cells b p s i statuses.Running trace kept h e = refl
by_status code cells b p s i (statuses.Pending k n) trace kept h e = absurd (no_none (h.0) e)
  where
    no_none : {o : Option RunningIterationState} → o ≡ None → is_some o ≡ true → ⊥
    no_none n t = let z : false ≡ true = ap is_some (sym n) ∙ t in cc
by_status code cells b p s i (statuses.Completed x) trace kept h e = absurd (no_none h e)
  where
    no_none : {o : Option RunningIterationState} → o ≡ None → is_some o ≡ true → ⊥
    no_none n t = let z : false ≡ true = ap is_some (sym n) ∙ t in cc

-- an iteration whose instance runs has a next event
pub running_has_next : (code : FlatCode) (cells : ℕ) (v : PlayState) (i : ℕ) → IsPlay code cells v
    → is_some (item_or None v.running i) ≡ true
    → is_some (next_event (pipeline_played v) (run_state v) i) ≡ true
running_has_next code cells v i h e = elim (cases_lt i (length (run_state v).frames)) [
  | inl less ↦ (
      let found = frame_at_exists (run_state v).frames i less in
      ap (λ o. is_some (event_of_frame (pipeline_played v) (run_state v) i o)) found.1
      ∙ by_status code cells v.book (pipeline_played v) (run_state v) i found.0.status found.0.trace (item_or None v.running i)
      (h.running.each i found.0 found.1) e)
  | inr past ↦ (
      let count = h.running.count in
      let none : item_or None v.running i ≡ None = get_or-eq_default v.running None (omega (arith, count, past)) in
      let z : false ≡ true = ap is_some (sym none) ∙ e in
      cc)
]
