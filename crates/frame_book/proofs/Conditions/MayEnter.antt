-- Which iterations may enter the stage that they have named.
use Rattle.std.proofs.Common.{◌≡◌, ◌↔◌, ℕ, ℤ, refl, sym, ◌∙◌, subst, Option, Some, None}
use Rattle.pipe_model.specs.Runs.Allowed.{MayEnter, LeftHasPassed}
use Rattle.pipe_model.specs.declared.node.Kind.{Kind}
use Rattle.pipe_model.specs.declared.node.Kind.TheVariants.{Wait}
use Rattle.pipe_model.specs.Runs.State.{State, Frame, frame_at}
use Rattle.pipe_model.specs.declared.status.Status.{Status}
use Rattle.pipe_model.specs.declared.status.Status.TheVariants.{Running, Pending, Completed}
use Rattle.frame_rows.specs.RowsOfFrames.{IsFree, IsFreeIn, IsFreeBy}

may_by : (s : State) (i : ℕ) (f : Frame) (w : Status) → frame_at s.frames i ≡ Some f → f.status ≡ w → IsFreeBy s.frames i w → MayEnter s i
may_by s i f Running e q h = absurd h
may_by s i f (Pending k n) e q h = record { frame = f; kind = k; number = n; is = e; named = q; free = h }
may_by s i f (Completed x) e q h = absurd h

may_in : (s : State) (i : ℕ) (o : Option Frame) → frame_at s.frames i ≡ o → IsFreeIn s.frames i o → MayEnter s i
may_in s i None e h = absurd h
may_in s i (Some f) e h = may_by s i f f.status e refl h

-- in the words of the rows and of the control part
pub free_is_may : (s : State) (i : ℕ) → IsFree s.frames i ↔ MayEnter s i
free_is_may s i = (
  (λ h. may_in s i (frame_at s.frames i) refl h),
  (λ m. subst (IsFreeIn s.frames i) (sym m.is) (subst (IsFreeBy s.frames i) (sym m.named) m.free)),
)

pub free_as : (s : State) (i : ℕ) (j k : Kind) (m n : ℤ) → Pending j m ≡ Pending k n → (j ≡ Wait → LeftHasPassed s.frames i m) → k ≡ Wait
    → LeftHasPassed s.frames i n
free_as s i j k m n e free w = let a : j ≡ k = cc in let b : m ≡ n = cc in subst (LeftHasPassed s.frames i) b (free (a ∙ w))

-- the same with the kind and the number of the status
abbrev pub may_as : (s : State) (i : ℕ) (m : MayEnter s i) (k : Kind) (n : ℤ) → m.frame.status ≡ Pending k n → MayEnter s i
may_as s i m k n e = record {
  frame = m.frame;
  kind = k;
  number = n;
  is = m.is;
  named = e;
  free = λ w. free_as s i m.kind k m.number n (sym m.named ∙ e) m.free w;
}
