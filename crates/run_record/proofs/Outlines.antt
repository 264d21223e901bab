-- Frames without their traces, event by event.
use Rattle.std.proofs.Common.{◌≡◌, ◌∙◌, refl, sym, ap, ℕ, ℤ, zero, suc, ◌<◌, ◌≤◌, List, [], ◌∷◌, ◌++◌, map, length, get_or, set, arith}
use Rattle.pipe_model.specs.declared.column.ColumnEnd.{ColumnEnd}
use Rattle.pipe_model.specs.declared.event.Event.{Event}
use Rattle.pipe_model.specs.declared.event.Event.TheVariants.{Begin, Advance, Enter, Finish, Stop, Access}
use Rattle.pipe_model.specs.declared.node.Kind.{Kind}
use Rattle.pipe_model.specs.declared.node.Node.{Node}
use Rattle.pipe_model.specs.declared.status.Status.{Status}
use Rattle.pipe_model.specs.declared.status.Status.TheVariants.{Running, Pending, Completed}
use Rattle.pipe_model.specs.Pipelines.Behaviour.{Action, Staged, Ended, node_of}
use Rattle.pipe_model.specs.Runs.ControlParts.{control_after, next_control, outline_of, outlines_of}
use Rattle.pipe_model.specs.Runs.RunLogs.{column_of_frame}
use Rattle.pipe_model.specs.Runs.State.{Frame, State, enter_pending, fresh_frame, initial_state, update_frame, with_action}
use Rattle.schedule_laws.proofs.ControlOutlines.{control_from-push}
use Rattle.run_record.specs.declared.own_columns.Iteration.{Iteration}
use Rattle.run_record.specs.OwnColumns.{frame_of, frames_of, next_outlines}

pub outlines-append : (fs gs : List Frame) → outlines_of (fs ++ gs) ≡ outlines_of fs ++ outlines_of gs
outlines-append [] gs = refl
outlines-append (f ∷ fs) gs = ap (λ l. outline_of f ∷ l) (outlines-append fs gs)

outlines_twice : (fs : List Frame) → outlines_of (outlines_of fs) ≡ outlines_of fs
outlines_twice [] = refl
outlines_twice (f ∷ fs) = ap (λ l. outline_of f ∷ l) (outlines_twice fs)

-- an action leads to the same outlines, whatever the traces were
action_same : (fs : List Frame) (i : ℕ) (a : Action) (s : Status)
    → outlines_of (update_frame fs i (with_action a s)) ≡ outlines_of (update_frame (outlines_of fs) i (with_action a s))
action_same [] i a s = refl
action_same (f ∷ fs) zero a s = ap (λ l. outline_of (with_action a s f) ∷ l) (sym (outlines_twice fs))
action_same (f ∷ fs) (suc i) a s = ap (λ l. outline_of f ∷ l) (action_same fs i a s)

enter_same : (s : Status) (f : Frame) → outline_of (enter_pending s f) ≡ outline_of (enter_pending s (outline_of f))
enter_same Running f = refl
enter_same (Pending k n) f = refl
enter_same (Completed e) f = refl

entered_same : (fs : List Frame) (i : ℕ) → outlines_of (update_frame fs i (λ f. enter_pending f.status f))
    ≡ outlines_of (update_frame (outlines_of fs) i (λ f. enter_pending f.status f))
entered_same [] i = refl
entered_same (f ∷ fs) zero =
    ap (λ g. g ∷ outlines_of fs) (enter_same f.status f)
    ∙ ap (λ l. outline_of (enter_pending f.status (outline_of f)) ∷ l) (sym (outlines_twice fs))
entered_same (f ∷ fs) (suc i) = ap (λ l. outline_of f ∷ l) (entered_same fs i)

-- one more event
pub next_same : (c : State) (e : Event) → outlines_of (next_control c e).frames ≡ next_outlines (outlines_of c.frames) e
next_same c (Begin i) =
    outlines-append c.frames (fresh_frame ∷ [])
    ∙ (ap (λ l. l ++ fresh_frame ∷ []) (sym (outlines_twice c.frames))
    ∙ sym (outlines-append (outlines_of c.frames) (fresh_frame ∷ [])))
next_same c (Access i a) = sym (outlines_twice c.frames)
next_same c (Advance i k n) = action_same c.frames i (Staged k n) (Pending k n)
next_same c (Enter i) = entered_same c.frames i
next_same c (Finish i e) = action_same c.frames i (Ended e) (Completed e)
next_same c Stop = sym (outlines_twice c.frames)

pub outlines-push : (es : List Event) (e : Event) → outlines_of (control_after (es ++ e ∷ [])).frames
    ≡ next_outlines (outlines_of (control_after es).frames) e
outlines-push es e =
    ap (λ (s : State). outlines_of s.frames) (control_from-push initial_state es e) ∙ next_same (control_after es) e

-- ---- the iterations of the code have empty traces

pub no_traces : (its : List Iteration) → outlines_of (frames_of its) ≡ frames_of its
no_traces [] = refl
no_traces (it ∷ its) = ap (λ l. frame_of it ∷ l) (no_traces its)

-- an action of an iteration sets its status
pub status_set : (its : List Iteration) (i : ℕ) (a : Action) (s : Status)
    → outlines_of (update_frame (frames_of its) i (with_action a s)) ≡ update_frame (frames_of its) i (λ f. record f { status = s })
status_set [] i a s = refl
status_set (it ∷ its) zero a s = ap (λ l. record { nodes = it.nodes; status = s; trace = [] } ∷ l) (no_traces its)
status_set (it ∷ its) (suc i) a s = ap (λ l. frame_of it ∷ l) (status_set its i a s)

no_trace_entered : (s : Status) (f : Frame) → f.trace ≡ [] → outline_of (enter_pending s f) ≡ enter_pending s f
no_trace_entered Running f e = ap (λ t. record f { trace = t }) (sym e)
no_trace_entered (Pending k n) f e = ap (λ t. record (enter_pending (Pending k n) f) { trace = t }) (sym e)
no_trace_entered (Completed d) f e = ap (λ t. record f { trace = t }) (sym e)

pub stage_entered : (its : List Iteration) (i : ℕ) → outlines_of (update_frame (frames_of its) i (λ f. enter_pending f.status f))
    ≡ update_frame (frames_of its) i (λ f. enter_pending f.status f)
stage_entered [] i = refl
stage_entered (it ∷ its) zero =
    ap (λ g. g ∷ outlines_of (frames_of its)) (no_trace_entered it.status (frame_of it) refl)
    ∙ ap (λ l. enter_pending it.status (frame_of it) ∷ l) (no_traces its)
stage_entered (it ∷ its) (suc i) = ap (λ l. frame_of it ∷ l) (stage_entered its i)

-- an iteration is written
pub update_at : (its : List Iteration) (i : ℕ) (it : Iteration) (g : Frame → Frame) (now : Iteration) → i < length its
    → it ≡ get_or its i it
    → g (frame_of it) ≡ frame_of now → frames_of (set its i now) ≡ update_frame (frames_of its) i g
update_at [] i it g now l is made = absurd (omega (arith, l))
update_at (x ∷ its) zero it g now l is made =
    ap (λ f. f ∷ frames_of its) (sym made ∙ ap (λ y. g (frame_of y)) is)
update_at (x ∷ its) (suc i) it g now l is made = ap (λ f. frame_of x ∷ f) (update_at its i it g now (omega (arith, l)) is made)

-- past the last iteration nothing changes
pub update_past : (its : List Iteration) (i : ℕ) (g : Frame → Frame) → length its ≤ i → update_frame (frames_of its) i g ≡ frames_of its
update_past [] i g l = refl
update_past (x ∷ its) zero g l = absurd (omega (arith, l))
update_past (x ∷ its) (suc i) g l = ap (λ f. frame_of x ∷ f) (update_past its i g (omega (arith, l)))

-- the stage that an iteration has named is entered
pub entered : (it : Iteration) (k : Kind) (n : ℤ) (nodes : List Node) → it.status ≡ Pending k n → nodes ≡ it.nodes ++ node_of k n ∷ []
    → enter_pending it.status (frame_of it) ≡ frame_of (record { nodes = nodes; status = Running })
entered it k n nodes e more =
    ap (λ s. enter_pending s (frame_of it)) e ∙ ap (λ (l : List Node). record { nodes = l; status = Running; trace = [] }) (sym more)

-- any other is not changed
pub not_entered : (it : Iteration) (s : Status) → it.status ≡ s → enter_pending s (frame_of it) ≡ frame_of it
    → enter_pending it.status (frame_of it) ≡ frame_of it
not_entered it s e same = ap (λ t. enter_pending t (frame_of it)) e ∙ same

-- ---- one event of the code

pub begun_next : (its : List Iteration) (it : Iteration) (i : ℕ) → frame_of it ≡ fresh_frame
    → frames_of (its ++ it ∷ []) ≡ next_outlines (frames_of its) (Begin i)
begun_next its it i fresh =
    frames_append its (it ∷ [])
    ∙ (ap (λ f. frames_of its ++ f ∷ []) fresh
    ∙ (ap (λ l. l ++ fresh_frame ∷ []) (sym (no_traces its)) ∙ sym (outlines-append (frames_of its) (fresh_frame ∷ []))))
  where
    frames_append : (xs ys : List Iteration) → frames_of (xs ++ ys) ≡ frames_of xs ++ frames_of ys
    frames_append [] ys = refl
    frames_append (x ∷ xs) ys = ap (λ l. frame_of x ∷ l) (frames_append xs ys)

pub advanced_next : (its now : List Iteration) (i : ℕ) (k : Kind) (n : ℤ) (s : Status)
    → frames_of now ≡ update_frame (frames_of its) i (λ f. record f { status = s }) → s ≡ Pending k n
    → frames_of now ≡ next_outlines (frames_of its) (Advance i k n)
advanced_next its now i k n s e same =
    e ∙ (ap (λ t. update_frame (frames_of its) i (λ f. record f { status = t })) same ∙ sym (status_set its i (Staged k n) (Pending k n)))

pub entered_next : (its now : List Iteration) (i : ℕ) → frames_of now ≡ update_frame (frames_of its) i (λ f. enter_pending f.status f)
    → frames_of now ≡ next_outlines (frames_of its) (Enter i)
entered_next its now i e = e ∙ sym (stage_entered its i)

pub finished_next : (its now : List Iteration) (i : ℕ) (d : ColumnEnd)
    → frames_of now ≡ update_frame (frames_of its) i (λ f. record f { status = Completed d })
    → frames_of now ≡ next_outlines (frames_of its) (Finish i d)
finished_next its now i d e = e ∙ sym (status_set its i (Ended d) (Completed d))

-- ---- columns

pub columns_of_outlines : (fs : List Frame) → map column_of_frame (outlines_of fs) ≡ map column_of_frame fs
columns_of_outlines [] = refl
columns_of_outlines (f ∷ fs) = ap (λ l. column_of_frame f ∷ l) (columns_of_outlines fs)

columns_of_frames : (its : List Iteration) → map (λ it. column_of_frame (frame_of it)) its ≡ map column_of_frame (frames_of its)
columns_of_frames [] = refl
columns_of_frames (it ∷ its) = ap (λ l. column_of_frame (frame_of it) ∷ l) (columns_of_frames its)

pub made_from : (its : List Iteration) (fs : List Frame) → frames_of its ≡ outlines_of fs
    → map (λ it. column_of_frame (frame_of it)) its ≡ map column_of_frame fs
made_from its fs e = columns_of_frames its ∙ (ap (λ (l : List Frame). map column_of_frame l) e ∙ columns_of_outlines fs)
