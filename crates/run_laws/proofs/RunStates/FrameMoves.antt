-- How an event changes the frame of one iteration, and what every event keeps of the frames.
use Rattle.std.proofs.Common.{List, length, ◌-◌, ℕ, ◌≡◌, ◌<◌, [], ◌∷◌, ◌++◌, ◌≤◌, arith, ℤ, ◌<ℤ◌, Some, ◌+◌, suc, ◌≤ℤ◌, inl, inr, refl}
use Rattle.std.proofs.Common.{subst, ap, ◌≢◌, ◌⊎◌, sym, pos, zero}
use Rattle.std.proofs.lemmas.Bool.{cases_lt, cases_eq}
use Rattle.std.proofs.lemmas.Int.{ints}
use Rattle.std.proofs.lemmas.List.{get_or_append_left, get_or_push, length_push}
use Rattle.pipe_model.specs.Runs.Allowed.{ContinuesLoop, HasPassed, LeftHasPassed, MayBegin}
use Rattle.pipe_model.specs.Pipelines.Behaviour.{Action, node_of}
use Rattle.pipe_model.specs.Races.Columns.{node_at, no_node, IsRising}
use Rattle.pipe_model.specs.declared.status.Status.TheVariants.{Pending, Running, Completed}
use Rattle.pipe_model.specs.Runs.State.{Frame, frame_at, with_action, enter_pending, update_frame, fresh_frame, State}
use Rattle.pipe_model.specs.declared.column.ColumnEnd.{ColumnEnd}
use Rattle.pipe_model.specs.declared.node.Kind.{Kind}
use Rattle.pipe_model.specs.declared.node.Kind.TheVariants.{Wait, Zero}
use Rattle.pipe_model.specs.declared.node.Node.{Node}
use Rattle.run_laws.proofs.RunStates.Frames.{frame_at_updated, frame_at_other, length-update_frame, frame_at_push, frame_at_within}
use Rattle.run_laws.proofs.RunStates.Frames.{frame_at_last}

-- the current instance, or the last before the stage that is named
abbrev pub last_node : List Node → Node
last_node nodes = node_at nodes (length nodes - 1)

-- the instances of a column before one that is added
node_at_push : (nodes : List Node) (x : Node) (k : ℕ) → k < length nodes
    → node_at (nodes ++ x ∷ []) k ≡ node_at nodes k
node_at_push nodes x k l = get_or_append_left nodes (x ∷ []) no_node k l

-- an instance that was added is after the others
pub node_at_new : (nodes : List Node) (x : Node) (k : ℕ) → length nodes ≤ k → k < length (nodes ++ x ∷ [])
    → node_at (nodes ++ x ∷ []) k ≡ x
node_at_new nodes x k l h = get_or_push nodes x no_node k (omega (arith, length_push nodes x, h, l))

-- an instance that was added is the last
pub last_node-push : (nodes : List Node) (x : Node) → last_node (nodes ++ x ∷ []) ≡ x
last_node-push nodes x =
    get_or_push nodes x no_node (length (nodes ++ x ∷ []) - 1) (omega (arith, length_push nodes x))

-- the invariant of each frame
pub record IsWell (f : Frame) : Type 0 where
  pub filled : 0 < length f.nodes
  pub rising : IsRising f.nodes
  pub above : (k : Kind) (n : ℤ) → f.status ≡ Pending k n → (last_node f.nodes).number <ℤ n

-- the invariant of the frames: the loop goes on before a later iteration, and a stage that an instance waits for has been passed
pub record IsSound (fs : List Frame) : Type 0 where
  pub well : (i : ℕ) (f : Frame) → frame_at fs i ≡ Some f → IsWell f
  pub goes : (i : ℕ) (f : Frame) → frame_at fs i ≡ Some f → i + 1 < length fs → ContinuesLoop f.status f.nodes
  pub waits : (i : ℕ) (f g : Frame) → frame_at fs i ≡ Some f → frame_at fs (suc i) ≡ Some g
      → (k : ℕ) → k < length g.nodes → (node_at g.nodes k).kind ≡ Wait
      → HasPassed f.status f.nodes (node_at g.nodes k).number

-- an event of one iteration, from the frame f to g: old instances stay, and new ones are greater than all that f has passed
pub record IsMove (fs : List Frame) (i : ℕ) (f g : Frame) : Type 0 where
  pub longer : length f.nodes ≤ length g.nodes
  pub same : (k : ℕ) → k < length f.nodes → node_at g.nodes k ≡ node_at f.nodes k
  pub well : IsWell f → IsWell g
  pub passes : (n : ℤ) → HasPassed f.status f.nodes n → HasPassed g.status g.nodes n
  pub goes : 0 < length f.nodes → ContinuesLoop f.status f.nodes → ContinuesLoop g.status g.nodes
  pub left : (k : ℕ) → length f.nodes ≤ k → k < length g.nodes → (node_at g.nodes k).kind ≡ Wait
      → LeftHasPassed fs i (node_at g.nodes k).number
  pub beyond : (k : ℕ) → length f.nodes ≤ k → k < length g.nodes → (n : ℤ) → HasPassed f.status f.nodes n
      → n <ℤ (node_at g.nodes k).number

-- the numbers of a column are at most its last
up_to_last : (nodes : List Node) → IsRising nodes → (j : ℕ) → j < length nodes
    → (node_at nodes j).number ≤ℤ (last_node nodes).number
up_to_last nodes r j l = elim (cases_lt j (length nodes - 1)) [
  | inl less ↦ (let up = r.rises j (length nodes - 1) less (omega (arith, l)) in omega (arith, ints, up))
  | inr more ↦ (let e : j ≡ length nodes - 1 = omega (arith, l, more) in rw e (omega (arith, ints)))
]

-- a greater number keeps a column rising
pub rising_push : (nodes : List Node) (x : Node) → IsRising nodes → (last_node nodes).number <ℤ x.number
    → IsRising (nodes ++ x ∷ [])
rising_push nodes x r h = record {
  rises = λ j k l w.
      let wide = length_push nodes x in
      let lj : j < length nodes = omega (arith, wide, w, l) in
      let ej = node_at_push nodes x j lj in
      elim (cases_lt k (length nodes)) [
        | inl less ↦ (let ek = node_at_push nodes x k less in let up = r.rises j k l less in rw (ej, ek) up)
        | inr more ↦ (
            let ek = node_at_new nodes x k more w in
            let up = up_to_last nodes r j lj in
            rw (ej, ek) (omega (arith, ints, up, h)))
      ];
}

-- a frame with the same instances has no new one
not_new : (f : Frame) (k : ℕ) → length f.nodes ≤ k → k < length f.nodes → ⊥
not_new f k l h = omega arith

-- an access
pub moves_running : (fs : List Frame) (i : ℕ) (f : Frame) (action : Action) → f.status ≡ Running
    → IsMove fs i f (with_action action Running f)
moves_running fs i f action e = record {
  longer = omega arith;
  same = λ k l. refl;
  well = λ w. record { filled = w.filled; rising = w.rising; above = λ k n c. absurd (cc) };
  passes = λ n h. subst (λ w. HasPassed w f.nodes n) e h;
  goes = λ l h. subst (λ w. ContinuesLoop w f.nodes) e h;
  left = λ k l h. absurd (not_new f k l h);
  beyond = λ k l h. absurd (not_new f k l h);
}

-- the naming of a next stage
pub moves_pending : (fs : List Frame) (i : ℕ) (f : Frame) (action : Action) (k : Kind) (n : ℤ) → f.status ≡ Running
    → (last_node f.nodes).number <ℤ n → IsMove fs i f (with_action action (Pending k n) f)
moves_pending fs i f action k n e up = record {
  longer = omega arith;
  same = λ j l. refl;
  well = λ w. record {
    filled = w.filled;
    rising = w.rising;
    above = λ k' n' c. (
        let same : n ≡ n' = cc in
        subst (λ m. (last_node f.nodes).number <ℤ m) same up);
  };
  passes = λ m h. (let g = subst (λ w. HasPassed w f.nodes m) e h in omega (arith, ints, g, up));
  goes = λ l h. tt;
  left = λ j l h. absurd (not_new f j l h);
  beyond = λ j l h. absurd (not_new f j l h);
}

-- the end
pub moves_completed : (fs : List Frame) (i : ℕ) (f : Frame) (action : Action) (e : ColumnEnd) → f.status ≡ Running
    → IsMove fs i f (with_action action (Completed e) f)
moves_completed fs i f action end e = record {
  longer = omega arith;
  same = λ j l. refl;
  well = λ w. record { filled = w.filled; rising = w.rising; above = λ k n c. absurd (cc) };
  passes = λ m h. tt;
  goes = λ l h c. subst (λ w. ContinuesLoop w f.nodes) e h;
  left = λ j l h. absurd (not_new f j l h);
  beyond = λ j l h. absurd (not_new f j l h);
}

-- the frame with the named stage entered, in its computed form once the stage is known
abbrev pub entered_frame : Kind → ℤ → Frame → Frame
entered_frame k n f = record f { nodes = f.nodes ++ node_of k n ∷ []; status = Running }

-- the result of entering is this frame
pub enter_pending_is : (f : Frame) (k : Kind) (n : ℤ) → f.status ≡ Pending k n
    → enter_pending f.status f ≡ entered_frame k n f
enter_pending_is f k n e = ap (λ w. enter_pending w f) e

-- the entering of the named stage
pub moves_entered : (fs : List Frame) (i : ℕ) (f : Frame) (k : Kind) (n : ℤ) → f.status ≡ Pending k n
    → (k ≡ Wait → LeftHasPassed fs i n) → IsMove fs i f (entered_frame k n f)
moves_entered fs i f k n e free = record {
  longer = (let w = length_push f.nodes (node_of k n) in omega (arith, w));
  same = λ j l. node_at_push f.nodes (node_of k n) j l;
  well = λ w. record {
    filled = (let wide = length_push f.nodes (node_of k n) in omega (arith, wide));
    rising = rising_push f.nodes (node_of k n) w.rising (w.above k n e);
    above = λ k' n' c. absurd (cc);
  };
  passes = λ m h. (
      let g : m <ℤ n = subst (λ w. HasPassed w f.nodes m) e h in
      rw (last_node-push f.nodes (node_of k n)) g);
  goes = λ l h. (let wide = length_push f.nodes (node_of k n) in omega (arith, wide, l));
  left = λ j l h. rw (node_at_new f.nodes (node_of k n) j l h) free;
  beyond = λ j l h m c. (
      let g : m <ℤ n = subst (λ w. HasPassed w f.nodes m) e c in
      rw (node_at_new f.nodes (node_of k n) j l h) g);
}

-- a frame after an update: the updated one, or another that is unchanged
pub frame_at_moved : (fs : List Frame) (i j : ℕ) (f : Frame) (u : Frame → Frame) (h : Frame) → frame_at fs i ≡ Some f
    → frame_at (update_frame fs i u) j ≡ Some h → ((j ≡ i) × (h ≡ u f)) ⊎ ((j ≢ i) × (frame_at fs j ≡ Some h))
frame_at_moved fs i j f u h e c = elim (cases_eq j i) [
  | inl same ↦ inl (
    same,
    (
        let a = frame_at_updated fs i f u e in
        let b : frame_at (update_frame fs i u) i ≡ Some h =
        subst (λ n. frame_at (update_frame fs i u) n ≡ Some h) same c in
        cc),
  )
  | inr other ↦ inr (other, (let a = frame_at_other fs i j u other in cc))
]

-- a stage that an instance waits for has been passed after an event too
waits_moved : (fs : List Frame) (i : ℕ) (f : Frame) (u : Frame → Frame) → IsSound fs → frame_at fs i ≡ Some f
    → IsMove fs i f (u f)
    → (j : ℕ) (g h : Frame) → frame_at (update_frame fs i u) j ≡ Some g
    → frame_at (update_frame fs i u) (suc j) ≡ Some h
    → (k : ℕ) → k < length h.nodes → (node_at h.nodes k).kind ≡ Wait
    → HasPassed g.status g.nodes (node_at h.nodes k).number
waits_moved fs i f u s e m j g h cg ch k l w = elim (frame_at_moved fs i j f u g e cg) [
  | inl here ↦ elim (frame_at_moved fs i (suc j) f u h e ch) [
    | inl both ↦ (let a = here.0 in let b = both.0 in absurd (omega (arith, a, b)))
    | inr next ↦ (
        let old = s.waits j f h (subst (λ n. frame_at fs n ≡ Some f) (sym here.0) e) next.1 k l w in
        rw here.1 (m.passes (node_at h.nodes k).number old))
  ]
  | inr there ↦ elim (frame_at_moved fs i (suc j) f u h e ch) [
    | inl here ↦ (
        let is : frame_at fs (suc j) ≡ Some f = subst (λ n. frame_at fs n ≡ Some f) (sym here.0) e in
        let nodes : h.nodes ≡ (u f).nodes = ap (λ (x : Frame). x.nodes) here.1 in
        let inside : k < length (u f).nodes = subst (λ (x : List Node). k < length x) nodes l in
        let waits : (node_at (u f).nodes k).kind ≡ Wait = subst (λ x. (node_at x k).kind ≡ Wait) nodes w in
        rw nodes (elim (cases_lt k (length f.nodes)) [
          | inl less ↦ (
              let same = m.same k less in
              let kind : (node_at f.nodes k).kind ≡ Wait = subst (λ (x : Node). x.kind ≡ Wait) same waits in
              rw same (s.waits j g f there.1 is k less kind))
          | inr more ↦ (
              let free = m.left k more inside waits in
              (subst (λ n. LeftHasPassed fs n (node_at (u f).nodes k).number) (sym here.0) free) g there.1)
        ]))
    | inr next ↦ s.waits j g h there.1 next.1 k l w
  ]
]

-- an event of one iteration keeps the frames sound
pub sound_moved : (fs : List Frame) (i : ℕ) (f : Frame) (u : Frame → Frame) → IsSound fs → frame_at fs i ≡ Some f
    → IsMove fs i f (u f) → IsSound (update_frame fs i u)
sound_moved fs i f u s e m = record {
  well = λ j h c. elim (frame_at_moved fs i j f u h e c) [
    | inl here ↦ rw here.1 (m.well (s.well i f e))
    | inr there ↦ s.well j h there.1
  ];
  goes = λ j h c l.
      let wide = length-update_frame fs i u in
      elim (frame_at_moved fs i j f u h e c) [
        | inl here ↦ rw here.1 (m.goes (s.well i f e).filled
            (s.goes i f e (let a = here.0 in omega (arith, a, wide, l))))
        | inr there ↦ s.goes j h there.1 (omega (arith, wide, l))
      ];
  waits = waits_moved fs i f u s e m;
}

-- a column of one instance rises
pub rising_one : (x : Node) → IsRising (x ∷ [])
rising_one x = record { rises = λ j k l h. absurd (omega (arith, l, h)) }

-- the invariant holds of an iteration that has just begun
fresh_well : IsWell fresh_frame
fresh_well = record { filled = omega arith; rising = rising_one (node_of Zero (pos 0)); above = λ k n c. absurd (cc) }

-- a frame after the beginning of an iteration: the new one, or an old one
pub frame_at_begun : (fs : List Frame) (j : ℕ) (h : Frame) → frame_at (fs ++ fresh_frame ∷ []) j ≡ Some h
    → ((j ≡ length fs) × (h ≡ fresh_frame)) ⊎ ((j < length fs) × (frame_at fs j ≡ Some h))
frame_at_begun fs j h c = elim (cases_lt j (length fs)) [
  | inl less ↦ inr (less, (let a = frame_at_push fs fresh_frame j less in cc))
  | inr more ↦ (
      let w = frame_at_within (fs ++ fresh_frame ∷ []) j h c in
      let e : j ≡ length fs = omega (arith, w, more, length_push fs fresh_frame) in
      inl (
        e,
        (
            let a = frame_at_last fs fresh_frame in
            let b : frame_at (fs ++ fresh_frame ∷ []) (length fs) ≡ Some h =
            subst (λ n. frame_at (fs ++ fresh_frame ∷ []) n ≡ Some h) e c in
            cc),
      ))
]

-- instance 0 waits for nothing
fresh_waits_not : (k : ℕ) → k < 1 → (node_at fresh_frame.nodes k).kind ≡ Wait → ⊥
fresh_waits_not zero l e = cc
fresh_waits_not (suc k) l e = absurd (omega (arith, l))

-- the beginning of an iteration keeps the frames sound
pub sound_begun : (limit : ℕ) (s : State) (i : ℕ) → IsSound s.frames → MayBegin limit s i
    → IsSound (s.frames ++ fresh_frame ∷ [])
sound_begun limit s i sound may = record {
  well = λ j h c. elim (frame_at_begun s.frames j h c) [
    | inl new ↦ rw new.1 fresh_well
    | inr old ↦ sound.well j h old.1
  ];
  goes = λ j h c l. elim (frame_at_begun s.frames j h c) [
    | inl new ↦ (let a = new.0 in absurd (omega (arith, a, l, length_push s.frames fresh_frame)))
    | inr old ↦ elim (cases_lt (j + 1) (length s.frames)) [
      | inl less ↦ sound.goes j h old.1 less
      | inr more ↦ (let a = old.0 in let n = may.number in may.follows j h (omega (arith, n, a, more)) old.1)
    ]
  ];
  waits = λ j g h cg ch k l w. elim (frame_at_begun s.frames (suc j) h ch) [
    | inl new ↦ (
        let nodes : h.nodes ≡ fresh_frame.nodes = ap (λ (x : Frame). x.nodes) new.1 in
        let inside : k < 1 = subst (λ (x : List Node). k < length x) nodes l in
        let kind : (node_at fresh_frame.nodes k).kind ≡ Wait = subst (λ x. (node_at x k).kind ≡ Wait) nodes w in
        absurd (fresh_waits_not k inside kind))
    | inr old ↦ elim (frame_at_begun s.frames j g cg) [
      | inl new ↦ (let a = new.0 in let b = old.0 in absurd (omega (arith, a, b)))
      | inr older ↦ sound.waits j g h older.1 old.1 k l w
    ]
  ];
}
