-- When the next iteration may begin, and when a state is finished, by whether the loop is closed.
use Rattle.std.proofs.Common.{◌≡◌, ℕ, zero, suc, ◌+◌, ◌<◌, List, [], ◌∷◌, length, refl, arith, subst, true, inl, inr}
use Rattle.std.proofs.lemmas.Bool.{cases_eq, cases_lt}
use Rattle.pipe_model.specs.Runs.Allowed.{ClosesLoop, ContinuesLoop, EndedFirstInstance, IsClosed, LastEndedFirstInstance, MayBegin}
use Rattle.pipe_model.specs.Runs.State.{State, Frame, alive, alive_in, alive_one, is_completed}
use Rattle.pipe_model.specs.declared.node.Node.{Node}
use Rattle.pipe_model.specs.declared.status.Status.{Status}
use Rattle.pipe_model.specs.declared.status.Status.TheVariants.{Running, Pending, Completed}
use Rattle.run_laws.proofs.ListOrders.SoundStarts.{of_each_run}
use Rattle.run_laws.proofs.RunStates.Completed.{AllCompleted, none_alive}
use Rattle.run_laws.proofs.RunStates.FrameMoves.{IsSound}
use Rattle.run_laws.proofs.RunStates.Frames.{frame_at_within}
use Rattle.run_laws.specs.RunLaws.{FinishedStatesAreClosed, IterationsBeginInTurn}

-- the loop goes on if instance 0 has ended and did not close it
pub goes_on_by : (w : Status) (nodes : List Node) → 0 < length nodes → EndedFirstInstance w nodes → (ClosesLoop w nodes → ⊥)
    → ContinuesLoop w nodes
goes_on_by Running nodes filled ended open' = ended
goes_on_by (Pending k m) nodes filled ended open' = tt
goes_on_by (Completed x) nodes filled ended open' = λ closing. elim (cases_eq (length nodes) 1) [
  | inl one ↦ absurd (open' (closing, one))
  | inr more ↦ omega (arith, filled, more)
]

-- if the loop goes on, instance 0 has ended and did not close it
pub ended_by_going : (w : Status) (nodes : List Node) → ContinuesLoop w nodes
    → EndedFirstInstance w nodes × (ClosesLoop w nodes → ⊥)
ended_by_going Running nodes goes = (goes, (λ x. x))
ended_by_going (Pending k m) nodes goes = (tt, (λ x. x))
ended_by_going (Completed x) nodes goes = (tt, (λ y. (let wide = goes y.0 in let one = y.1 in omega (arith, wide, one))))

-- the iteration after these may begin
begins_by : (limit : ℕ) (s : State) → IsSound s.frames → alive s < limit → (IsClosed s.frames → ⊥)
    → LastEndedFirstInstance s.frames → MayBegin limit s (length s.frames)
begins_by limit s sound room open' ended = record {
  number = refl;
  room = room;
  follows = λ j f last is. goes_on_by f.status f.nodes (sound.well j f is).filled (ended j f last is)
      (λ x. open' (record { iteration = j; frame = f; is = is; closes = x }));
}

-- if it may begin, no iteration has closed the loop
open_by : (limit : ℕ) (s : State) → IsSound s.frames → MayBegin limit s (length s.frames) → IsClosed s.frames → ⊥
open_by limit s sound may shut = elim (cases_lt (shut.iteration + 1) (length s.frames)) [
  | inl less ↦ (ended_by_going shut.frame.status shut.frame.nodes (sound.goes shut.iteration shut.frame shut.is less)).1 shut.closes
  | inr last ↦ (
      let within = frame_at_within s.frames shut.iteration shut.frame shut.is in
      (ended_by_going shut.frame.status shut.frame.nodes
      (may.follows shut.iteration shut.frame (omega (arith, last, within)) shut.is)).1 shut.closes)
]

-- when the next iteration may begin
pub iterations_begin_in_turn : IterationsBeginInTurn
iterations_begin_in_turn = of_each_run (λ limit events s r.
    let sound = r.sound.sound in (
      (λ may. (
        may.room,
        open_by limit s sound may,
        (λ j f last is. (ended_by_going f.status f.nodes (may.follows j f last is)).0),
      )),
      (λ h. begins_by limit s sound h.0 h.1 h.2),
    ))

-- an iteration that is not alive has ended
pub completed_by : (w : Status) → alive_one w ≡ 0 → is_completed w ≡ true
completed_by Running e = absurd (omega (arith, e))
completed_by (Pending k n) e = absurd (omega (arith, e))
completed_by (Completed x) e = refl

-- if none is alive, all iterations have ended
all_completed : (fs : List Frame) → alive_in fs ≡ 0 → AllCompleted fs
all_completed [] none i f is = absurd (cc)
all_completed (x ∷ fs) none zero f is =
    let same : x ≡ f = cc in
    subst (λ (g : Frame). is_completed g.status ≡ true) same (completed_by x.status (omega (arith, none)))
all_completed (x ∷ fs) none (suc i) f is = all_completed fs (omega (arith, none)) i f is

-- when a state is finished
pub finished_states_are_closed : FinishedStatesAreClosed
finished_states_are_closed s = (
  (λ h. (h.going, h.shut, none_alive s.frames h.over)),
  (λ h. record { over = all_completed s.frames h.2; shut = h.1; going = h.0 }),
)
