-- Looking up and updating a frame.
use Rattle.std.proofs.Common.{List, ℕ, ◌≡◌, ◌∷◌, ◌++◌, length, ◌+◌, Some, [], zero, refl, ap, suc, arith, ◌≢◌, ◌<◌, map, None, ◌≤◌}
use Rattle.pipe_model.specs.Races.Columns.{nodes_at}
use Rattle.pipe_model.specs.Runs.State.{Frame, update_frame, frame_at}

-- the frames before and after a frame, which do not change when it is updated
pub record IsParted (fs : List Frame) (i : ℕ) (f : Frame) (g : Frame → Frame) : Type 0 where
  pub left : List Frame
  pub right : List Frame
  pub is : fs ≡ left ++ f ∷ right
  pub updated : update_frame fs i g ≡ left ++ g f ∷ right
  pub place : length left ≡ i
  pub later : (j : ℕ) → frame_at right j ≡ frame_at fs (i + 1 + j)

-- the list at one of its frames
pub parted : (fs : List Frame) (i : ℕ) (f : Frame) (g : Frame → Frame) → frame_at fs i ≡ Some f → IsParted fs i f g
parted [] i f g e = absurd (cc)
parted (x ∷ fs) zero f g e =
    let same : x ≡ f = cc in
    record {
      left = [];
      place = refl;
      right = fs;
      is = ap (λ y. y ∷ fs) same;
      updated = ap (λ y. g y ∷ fs) same;
      later = λ j. (
          let e : 0 + 1 + j ≡ suc j = omega arith in
          rw e refl);
    }
parted (x ∷ fs) (suc i) f g e =
    let h = parted fs i f g e in
    record {
      left = x ∷ h.left;
      place = ap (λ n. suc n) h.place;
      right = h.right;
      is = ap (λ l. x ∷ l) h.is;
      updated = ap (λ l. x ∷ l) h.updated;
      later = λ j. (let e : suc i + 1 + j ≡ suc (i + 1 + j) = omega arith in rw e (h.later j));
    }

-- the frame that was updated
pub frame_at_updated : (fs : List Frame) (i : ℕ) (f : Frame) (g : Frame → Frame) → frame_at fs i ≡ Some f
    → frame_at (update_frame fs i g) i ≡ Some (g f)
frame_at_updated [] i f g e = absurd (cc)
frame_at_updated (x ∷ fs) zero f g e = let same : x ≡ f = cc in ap (λ y. Some (g y)) same
frame_at_updated (x ∷ fs) (suc i) f g e = frame_at_updated fs i f g e

-- any other frame is unchanged
pub frame_at_other : (fs : List Frame) (i j : ℕ) (g : Frame → Frame) → j ≢ i
    → frame_at (update_frame fs i g) j ≡ frame_at fs j
frame_at_other [] i j g n = refl
frame_at_other (x ∷ fs) zero zero g n = absurd (n refl)
frame_at_other (x ∷ fs) zero (suc j) g n = refl
frame_at_other (x ∷ fs) (suc i) zero g n = refl
frame_at_other (x ∷ fs) (suc i) (suc j) g n = frame_at_other fs i j g (λ e. n (ap (λ k. suc k) e))

-- an update does not change the length
pub length-update_frame : (fs : List Frame) (i : ℕ) (g : Frame → Frame) → length (update_frame fs i g) ≡ length fs
length-update_frame [] i g = refl
length-update_frame (x ∷ fs) zero g = refl
length-update_frame (x ∷ fs) (suc i) g = ap (λ k. suc k) (length-update_frame fs i g)

-- the frame that was added
pub frame_at_last : (fs : List Frame) (x : Frame) → frame_at (fs ++ x ∷ []) (length fs) ≡ Some x
frame_at_last [] x = refl
frame_at_last (f ∷ fs) x = frame_at_last fs x

-- the frames before it
pub frame_at_push : (fs : List Frame) (x : Frame) (i : ℕ) → i < length fs → frame_at (fs ++ x ∷ []) i ≡ frame_at fs i
frame_at_push [] x i l = absurd (omega arith)
frame_at_push (f ∷ fs) x zero l = refl
frame_at_push (f ∷ fs) x (suc i) l = frame_at_push fs x i (omega arith)

-- the index of a frame is below the length
pub frame_at_within : (fs : List Frame) (i : ℕ) (f : Frame) → frame_at fs i ≡ Some f → i < length fs
frame_at_within [] i f e = absurd (cc)
frame_at_within (x ∷ fs) zero f e = omega arith
frame_at_within (x ∷ fs) (suc i) f e = let h = frame_at_within fs i f e in omega arith

-- below the length there is a frame
pub frame_at_exists : (fs : List Frame) (i : ℕ) → i < length fs → (f : Frame) × (frame_at fs i ≡ Some f)
frame_at_exists [] i l = absurd (omega arith)
frame_at_exists (x ∷ fs) zero l = (x, refl)
frame_at_exists (x ∷ fs) (suc i) l = frame_at_exists fs i (omega arith)

-- the column of a frame
pub nodes_at_frame : (fs : List Frame) (i : ℕ) (f : Frame) → frame_at fs i ≡ Some f
    → nodes_at (map (λ h. h.nodes) fs) i ≡ f.nodes
nodes_at_frame [] i f e = absurd (cc)
nodes_at_frame (x ∷ fs) zero f e = let same : x ≡ f = cc in ap (λ y. y.nodes) same
nodes_at_frame (x ∷ fs) (suc i) f e = nodes_at_frame fs i f e

-- past the last frame the columns are empty
pub nodes_at_past : (fs : List Frame) (i : ℕ) → length fs < i + 1 → nodes_at (map (λ h. h.nodes) fs) i ≡ []
nodes_at_past [] i l = refl
nodes_at_past (x ∷ fs) zero l = absurd (omega arith)
nodes_at_past (x ∷ fs) (suc i) l = nodes_at_past fs i (omega arith)

-- a frame of the first list is a frame of both
pub frame_at_append : (fs gs : List Frame) (i : ℕ) (f : Frame) → frame_at fs i ≡ Some f
    → frame_at (fs ++ gs) i ≡ Some f
frame_at_append [] gs i f e = absurd (cc)
frame_at_append (x ∷ fs) gs zero f e = e
frame_at_append (x ∷ fs) gs (suc i) f e = frame_at_append fs gs i f e

-- past the last frame there is none
pub frame_at_past : (fs : List Frame) (i : ℕ) → length fs ≤ i → frame_at fs i ≡ None
frame_at_past [] i l = refl
frame_at_past (f ∷ fs) zero l = absurd (omega (arith, l))
frame_at_past (f ∷ fs) (suc i) l = frame_at_past fs i (omega (arith, l))
