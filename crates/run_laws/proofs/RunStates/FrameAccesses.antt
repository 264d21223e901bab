-- The accesses of the frames, one iteration after the other.
use Rattle.std.proofs.Common.{List, ℕ, Some, ◌≡◌, [], ◌∷◌, inl, refl, inr, suc, ◌++◌, ap, ◌∙◌, sym}
use Rattle.std.proofs.lemmas.List.Concat.{flat_map-append}
use Rattle.std.specs.List.{flat_map}
use Rattle.pipe_model.specs.Pipelines.Behaviour.{accesses_in}
use Rattle.pipe_model.specs.Races.DeterminacyRaces.{Among}
use Rattle.pipe_model.specs.Runs.State.{Frame, frame_at, update_frame}
use Rattle.pipe_model.specs.declared.access.Access.{Access}
use Rattle.run_laws.proofs.RunStates.Frames.{parted}
use Rattle.pipe_model.proofs.Members.{none_among, among_either}

-- the accesses of the iterations, one iteration after the other
abbrev pub accesses_by_column : List Frame → List Access
accesses_by_column fs = flat_map (λ f. accesses_in f.trace) fs

-- an access of a frame in the list
pub record IsInFrame (fs : List Frame) (a : Access) : Type 0 where
  pub place : ℕ
  pub frame : Frame
  pub is : frame_at fs place ≡ Some frame
  pub made : Among a (accesses_in frame.trace)

-- each of these accesses is made in a frame
pub in_frame : (fs : List Frame) (a : Access) → Among a (accesses_by_column fs) → IsInFrame fs a
in_frame [] a m = absurd (none_among a m)
in_frame (f ∷ fs) a m = elim (among_either a (accesses_in f.trace) (accesses_by_column fs) m) [
  | inl l ↦ record { place = 0; frame = f; is = refl; made = l }
  | inr r ↦ (let h = in_frame fs a r in record { place = suc h.place; frame = h.frame; is = h.is; made = h.made })
]

-- the accesses before, in and after a frame
pub accesses_by_column-parted : (fs : List Frame) (left : List Frame) (f : Frame) (right : List Frame)
    → fs ≡ left ++ f ∷ right
    → accesses_by_column fs ≡ accesses_by_column left ++ (accesses_in f.trace ++ accesses_by_column right)
accesses_by_column-parted fs left f right e =
    ap accesses_by_column e ∙ flat_map-append (λ (h : Frame). accesses_in h.trace) left (f ∷ right)

-- an update that keeps a frame's accesses keeps all
pub accesses_by_column-update_frame : (fs : List Frame) (i : ℕ) (f : Frame) (u : Frame → Frame)
    → frame_at fs i ≡ Some f → accesses_in (u f).trace ≡ accesses_in f.trace
    → accesses_by_column (update_frame fs i u) ≡ accesses_by_column fs
accesses_by_column-update_frame fs i f u e q =
    let h = parted fs i f u e in
    let a = accesses_by_column-parted (update_frame fs i u) h.left (u f) h.right h.updated in
    let b = accesses_by_column-parted fs h.left f h.right h.is in
    let c = ap (λ l. accesses_by_column h.left ++ (l ++ accesses_by_column h.right)) q in
    a ∙ c ∙ sym b
