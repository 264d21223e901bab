-- Each instance of the columns of a run is started once.
use Rattle.std.proofs.Common.{◌≡◌, ◌∙◌, ap, refl, ℕ, zero, suc, List, [], ◌∷◌, ◌++◌, ◌+◌, length, map, Some}
use Rattle.std.proofs.Common.{arith}
use Rattle.std.proofs.lemmas.List.{length-append, length_push}
use Rattle.pipe_model.specs.declared.event.Event.{Event}
use Rattle.pipe_model.specs.declared.event.Event.TheVariants.{Begin, Access, Advance, Enter, Finish, Stop}
use Rattle.pipe_model.specs.Runs.Allowed.{Allowed}
use Rattle.pipe_model.specs.Pipelines.Behaviour.{Accessed, Staged, Ended, node_of}
use Rattle.pipe_model.specs.Pipelines.Pipeline.{Pipeline}
use Rattle.pipe_model.specs.Runs.Run.{EmptyRun, RunThen}
use Rattle.pipe_model.specs.Orders.Starts.{started_by, starts_of}
use Rattle.pipe_model.specs.Runs.State.{Frame, State, enter_pending, frame_at, fresh_frame, next_state, own_columns, update_frame}
use Rattle.pipe_model.specs.Runs.State.{with_action}
use Rattle.pipe_model.specs.declared.status.Status.TheVariants.{Running, Pending, Completed}
use Rattle.run_laws.proofs.ListOrders.StartsOfRuns.{starts_of_then}
use Rattle.run_laws.proofs.RunStates.FrameMoves.{enter_pending_is}
use Rattle.schedule_laws.specs.StartCounts.{StartsAreCounted, instances_in}

instances_updated : (fs : List Frame) (i : ℕ) (f : Frame) (u : Frame → Frame) → frame_at fs i ≡ Some f
    → instances_in (map (λ g. g.nodes) (update_frame fs i u)) + length f.nodes ≡ instances_in (map (λ g. g.nodes) fs) + length (u f).nodes
instances_updated [] i f u e = absurd (cc)
instances_updated (x ∷ fs) zero f u e = let same : x ≡ f = cc in rw same (omega arith)
instances_updated (x ∷ fs) (suc i) f u e = let h = instances_updated fs i f u e in omega (arith, h)

instances_begun : (fs : List Frame) → instances_in (map (λ g. g.nodes) (fs ++ fresh_frame ∷ [])) ≡ instances_in (map (λ g. g.nodes) fs) + 1
instances_begun [] = refl
instances_begun (x ∷ fs) = let h = instances_begun fs in omega (arith, h)

-- an event starts as many instances as the columns grow by
counted_after : (p : Pipeline) (limit : ℕ) (s : State) (e : Event) → Allowed p limit s e
    → instances_in (own_columns (next_state s e)) ≡ instances_in (own_columns s) + length (started_by s e)
counted_after p limit s (Begin i) h = instances_begun s.frames
counted_after p limit s (Access i a) h =
    let r = h.control in
    let m = instances_updated s.frames i r.frame (with_action (Accessed a) Running) r.is in
    omega (arith, m)
counted_after p limit s (Advance i k n) h =
    let r = h.control.running in
    let m = instances_updated s.frames i r.frame (with_action (Staged k n) (Pending k n)) r.is in
    omega (arith, m)
counted_after p limit s (Enter i) h =
    let c = h.control in
    let m = instances_updated s.frames i c.frame (λ f. enter_pending f.status f) c.is in
    let one : length (enter_pending c.frame.status c.frame).nodes ≡ length c.frame.nodes + 1 =
    ap (λ (g : Frame). length g.nodes) (enter_pending_is c.frame c.kind c.number c.named) ∙ length_push c.frame.nodes
    (node_of c.kind c.number) in
    omega (arith, m, one)
counted_after p limit s (Finish i e) h =
    let r = h.control.running in
    let m = instances_updated s.frames i r.frame (with_action (Ended e) (Completed e)) r.is in
    omega (arith, m)
counted_after p limit s Stop h = omega arith

pub starts_are_counted : StartsAreCounted
starts_are_counted p limit events s EmptyRun = refl
starts_are_counted p limit events s (RunThen {events = es} {s = t} r e h) =
    let before = starts_are_counted p limit es t r in
    let all = ap (λ l. length l) (starts_of_then r e) ∙ length-append (starts_of es) (started_by t e) in
    let now = counted_after p limit t e h in
    omega (arith, before, all, now)
