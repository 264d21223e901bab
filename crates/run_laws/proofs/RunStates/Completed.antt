-- Frames of iterations that have ended.
use Rattle.std.proofs.Common.{List, ℕ, Some, true, ◌≡◌, ℤ, refl, [], suc, arith, ◌∷◌}
use Rattle.std.proofs.lemmas.Bool.{false≢true}
use Rattle.pipe_model.specs.Runs.Allowed.{HasPassed}
use Rattle.pipe_model.specs.declared.status.Status.{Status}
use Rattle.pipe_model.specs.declared.status.Status.TheVariants.{Running, Pending, Completed}
use Rattle.pipe_model.specs.Runs.State.{Frame, frame_at, is_completed, alive_one, alive_in}
use Rattle.pipe_model.specs.declared.node.Node.{Node}

-- all iterations have ended
abbrev pub AllCompleted : List Frame → Type 0
AllCompleted fs = (i : ℕ) (f : Frame) → frame_at fs i ≡ Some f → is_completed f.status ≡ true

-- an iteration that has ended has passed every number
pub completed_passes : (w : Status) (nodes : List Node) (n : ℤ) → is_completed w ≡ true → HasPassed w nodes n
completed_passes Running nodes n e = absurd (false≢true e)
completed_passes (Pending k m) nodes n e = absurd (false≢true e)
completed_passes (Completed d) nodes n e = tt

-- an iteration that has ended is not alive
pub completed_not_alive : (w : Status) → is_completed w ≡ true → alive_one w ≡ 0
completed_not_alive Running e = absurd (false≢true e)
completed_not_alive (Pending k n) e = absurd (false≢true e)
completed_not_alive (Completed d) e = refl

-- if all iterations have ended, none is alive
pub none_alive : (fs : List Frame) → AllCompleted fs → alive_in fs ≡ 0
none_alive [] all = refl
none_alive (f ∷ fs) all =
    let one = completed_not_alive f.status (all 0 f refl) in
    let rest = none_alive fs (λ i g e. all (suc i) g e) in
    omega (arith, one, rest)
