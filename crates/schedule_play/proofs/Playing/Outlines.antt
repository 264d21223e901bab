-- All runs with the same control part have the same schedule.
use Rattle.std.proofs.Common.{◌≡◌, ◌∙◌, ap, sym, subst, refl, ℕ, zero, suc, ℤ, ◌+◌, ◌-◌, ◌<◌, List, [], ◌∷◌, ◌++◌, Bool, length}
use Rattle.std.proofs.Common.{if◌then◌else◌}
use Rattle.std.proofs.lemmas.List.{length-map}
use Rattle.pipe_model.specs.declared.node.Kind.{Kind}
use Rattle.pipe_model.specs.declared.node.Kind.TheVariants.{Zero, Wait, Continue}
use Rattle.pipe_model.specs.declared.node.Node.{Node}
use Rattle.pipe_model.specs.declared.status.Status.{Status}
use Rattle.pipe_model.specs.declared.status.Status.TheVariants as statuses
use Rattle.pipe_model.specs.Runs.ControlParts.{HaveSameControl, outline_of, outlines_of}
use Rattle.pipe_model.specs.Runs.NextEvents.{frame_continues_loop, frame_has_passed, left_has_passed, may_enter}
use Rattle.pipe_model.specs.Runs.State.{Frame, State, frame_at}
use Rattle.run_laws.proofs.LogMerge.ControlPart.{same_frame}
use Rattle.schedule_play.specs.declared.turns.Readiness.TheVariants.{MayEnter, MustWait}
use Rattle.schedule_play.specs.ScheduleStates.{IsScheduleOf, ScheduleState}
use Rattle.schedule_play.specs.Turns.{alive_entry, alive_from}

passed_outline : (fs : List Frame) (j : ℕ) (n : ℤ) → frame_has_passed (frame_at (outlines_of fs) j) n ≡ frame_has_passed (frame_at fs j) n
passed_outline [] j n = refl
passed_outline (f ∷ fs) zero n = refl
passed_outline (f ∷ fs) (suc j) n = passed_outline fs j n

left_outline : (fs : List Frame) (i : ℕ) (n : ℤ) → left_has_passed (outlines_of fs) i n ≡ left_has_passed fs i n
left_outline fs zero n = refl
left_outline fs (suc j) n = passed_outline fs j n

enter_outline : (fs : List Frame) (i : ℕ) (k : Kind) (n : ℤ) → may_enter (outlines_of fs) i k n ≡ may_enter fs i k n
enter_outline fs i Zero n = refl
enter_outline fs i Wait n = left_outline fs i n
enter_outline fs i Continue n = refl

entry_outline : (all : List Frame) (i : ℕ) (w : Status) (nodes : List Node) → alive_entry (outlines_of all) i w nodes ≡ alive_entry all i w
    nodes
entry_outline all i statuses.Running nodes = refl
entry_outline all i (statuses.Pending k n) nodes =
    ap (λ (b : Bool). record { iteration = i; number = n; readiness = if b then MayEnter else MustWait } ∷ []) (enter_outline all i k n)
entry_outline all i (statuses.Completed e) nodes = refl

alive_outline : (all : List Frame) (i : ℕ) (fs : List Frame) → alive_from (outlines_of all) i (outlines_of fs) ≡ alive_from all i fs
alive_outline all i [] = refl
alive_outline all i (f ∷ fs) =
    ap (λ l. l ++ alive_from (outlines_of all) (i + 1) (outlines_of fs)) (entry_outline all i f.status f.nodes)
    ∙ ap (λ l. alive_entry all i f.status f.nodes ++ l) (alive_outline all (i + 1) fs)

continues_outline : (fs : List Frame) (j : ℕ) → frame_continues_loop (frame_at (outlines_of fs) j) ≡ frame_continues_loop (frame_at fs j)
continues_outline [] j = refl
continues_outline (f ∷ fs) zero = refl
continues_outline (f ∷ fs) (suc j) = continues_outline fs j

pub schedule_of_control : (s t : State) (v : ScheduleState) → HaveSameControl s t → IsScheduleOf t v → IsScheduleOf s v
schedule_of_control s t v same h =
    let long : length t.frames ≡ length s.frames =
    sym (length-map t.frames outline_of) ∙ ap length (sym same.frames) ∙ length-map s.frames outline_of in
    record {
      alive = h.alive ∙ sym (alive_outline t.frames 0 t.frames) ∙ ap (λ l. alive_from l 0 l) (sym same.frames)
          ∙ alive_outline s.frames 0 s.frames;
      begun = h.begun ∙ long;
      continues = h.continues ∙ sym (continues_outline t.frames (length t.frames - 1))
          ∙ ap (λ l. frame_continues_loop (frame_at l (length t.frames - 1))) (sym same.frames)
          ∙ ap (λ n. frame_continues_loop (frame_at (outlines_of s.frames) (n - 1))) long
          ∙ continues_outline s.frames (length s.frames - 1);
      instances = λ i f is. (
          let g = same_frame t.frames s.frames i f (sym same.frames) is in
          subst (λ (l : List Node). 0 < length l) g.nodes (h.instances i g.frame g.is));
    }
