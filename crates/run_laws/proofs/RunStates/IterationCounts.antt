-- How many iterations have begun, have ended and are alive.
use Rattle.std.proofs.Common.{List, ◌≡◌, ◌+◌, [], ◌∷◌, ◌++◌, arith, ℕ, Some, zero, suc, length, ◌≤◌, ap, ◌∙◌, refl, subst, sym, map, inl}
use Rattle.std.proofs.Common.{inr}
use Rattle.std.proofs.lemmas.Bool.{cases_lt}
use Rattle.std.proofs.lemmas.List.{length_push, length-map}
use Rattle.pipe_model.specs.Runs.Allowed.{Allowed}
use Rattle.pipe_model.specs.Pipelines.Behaviour.{Accessed, Staged, Ended}
use Rattle.pipe_model.specs.Races.Columns.{IsRising, nodes_at}
use Rattle.pipe_model.specs.Pipelines.Pipeline.{Pipeline}
use Rattle.pipe_model.specs.Runs.Run.{Run, EmptyRun, RunThen}
use Rattle.pipe_model.specs.Runs.State.{Frame, frame_at, alive_in, update_frame, alive_one, fresh_frame, State, alive, next_state}
use Rattle.pipe_model.specs.Runs.State.{with_action}
use Rattle.pipe_model.specs.declared.status.Status.TheVariants.{Running, Pending, Completed}
use Rattle.pipe_model.specs.Runs.State.{enter_pending}
use Rattle.pipe_model.specs.Runs.Throttling.{begun_count, ended_count, IsThrottled}
use Rattle.pipe_model.specs.declared.event.Event.{Event}
use Rattle.pipe_model.specs.declared.event.Event.TheVariants.{Begin, Access, Advance, Enter, Finish, Stop}
use Rattle.run_laws.proofs.RunStates.FrameMoves.{IsSound}
use Rattle.run_laws.proofs.RunStates.Frames.{length-update_frame, frame_at_exists, nodes_at_frame, nodes_at_past}
use Rattle.run_laws.proofs.RunStates.RunInvariant.{run_consistent}
use Rattle.run_laws.proofs.RunStates.FrontAndBack.{front_is_run}
use Rattle.run_laws.specs.RunLaws.{RunsKeepRules}

-- the number that have begun after one more event
begun-push : (es : List Event) (e : Event) → begun_count (es ++ e ∷ []) ≡ begun_count es + begun_count (e ∷ [])
begun-push [] e = omega arith
begun-push (Begin i ∷ es) e = let h = begun-push es e in omega (arith, h)
begun-push (Access i a ∷ es) e = begun-push es e
begun-push (Advance i k n ∷ es) e = begun-push es e
begun-push (Enter i ∷ es) e = begun-push es e
begun-push (Finish i d ∷ es) e = begun-push es e
begun-push (Stop ∷ es) e = begun-push es e

-- the number that have ended after one more event
finished-push : (es : List Event) (e : Event) → ended_count (es ++ e ∷ []) ≡ ended_count es + ended_count (e ∷ [])
finished-push [] e = omega arith
finished-push (Begin i ∷ es) e = finished-push es e
finished-push (Access i a ∷ es) e = finished-push es e
finished-push (Advance i k n ∷ es) e = finished-push es e
finished-push (Enter i ∷ es) e = finished-push es e
finished-push (Finish i d ∷ es) e = let h = finished-push es e in omega (arith, h)
finished-push (Stop ∷ es) e = finished-push es e

-- the number that are alive after an update
alive_in-update_frame : (fs : List Frame) (i : ℕ) (f : Frame) (u : Frame → Frame) → frame_at fs i ≡ Some f
    → alive_in (update_frame fs i u) + alive_one f.status ≡ alive_in fs + alive_one (u f).status
alive_in-update_frame [] i f u e = absurd (cc)
alive_in-update_frame (x ∷ fs) zero f u e = let same : x ≡ f = cc in rw same (omega arith)
alive_in-update_frame (x ∷ fs) (suc i) f u e = let h = alive_in-update_frame fs i f u e in omega (arith, h)

-- the number that are alive after the beginning of an iteration
alive_in-begun : (fs : List Frame) → alive_in (fs ++ fresh_frame ∷ []) ≡ alive_in fs + 1
alive_in-begun [] = omega arith
alive_in-begun (x ∷ fs) = let h = alive_in-begun fs in omega (arith, h)

-- those that have begun have ended or are alive, and at most the limit are alive
record Counts (limit : ℕ) (events : List Event) (s : State) : Type 0 where
  frames : begun_count events ≡ length s.frames
  counted : begun_count events ≡ ended_count events + alive s
  throttled : alive s ≤ limit

-- the counts stay right after an event of one iteration
counts_moved : (limit : ℕ) (events : List Event) (s t : State) (e : Event) (i : ℕ) (f : Frame) (u : Frame → Frame)
    → Counts limit events s → frame_at s.frames i ≡ Some f → t.frames ≡ update_frame s.frames i u
    → begun_count (e ∷ []) ≡ 0 → ended_count (e ∷ []) + alive_one (u f).status ≡ alive_one f.status
    → Counts limit (events ++ e ∷ []) t
counts_moved limit events s t e i f u c is frames none moved =
    let b = begun-push events e in
    let d = finished-push events e in
    let a = alive_in-update_frame s.frames i f u is in
    let w = ap (λ (l : List Frame). length l) frames ∙ length-update_frame s.frames i u in
    let v = ap alive_in frames in
    let c1 = c.frames in
    let c2 = c.counted in
    let c3 = c.throttled in
    record {
      frames = omega (arith, b, none, w, c1);
      counted = omega (arith, b, none, d, a, v, moved, c2);
      throttled = omega (arith, a, v, moved, c3);
    }

-- the counts stay right after every event
counts_after : (p : Pipeline) (limit : ℕ) (events : List Event) (s : State) (e : Event) → Allowed p limit s e
    → Counts limit events s → Counts limit (events ++ e ∷ []) (next_state s e)
counts_after p limit events s (Begin i) h c =
    let b = begun-push events (Begin i) in
    let d = finished-push events (Begin i) in
    let a = alive_in-begun s.frames in
    let w = length_push s.frames fresh_frame in
    let c1 = c.frames in
    let c2 = c.counted in
    let room = h.control.room in
    record {
      frames = omega (arith, b, w, c1);
      counted = omega (arith, b, d, a, c2);
      throttled = omega (arith, a, room);
    }
counts_after p limit events s (Access i a) h c =
    let r = h.control in
    counts_moved limit events s (next_state s (Access i a)) (Access i a) i r.frame (with_action (Accessed a) Running)
    c r.is refl refl (sym (ap alive_one r.runs))
counts_after p limit events s (Advance i k n) h c =
    let r = h.control.running in
    counts_moved limit events s (next_state s (Advance i k n)) (Advance i k n) i r.frame
    (with_action (Staged k n) (Pending k n)) c r.is refl refl (sym (ap alive_one r.runs))
counts_after p limit events s (Enter i) h c =
    let m = h.control in
    let same : alive_one (enter_pending m.frame.status m.frame).status ≡ alive_one m.frame.status =
    ap (λ w. alive_one (enter_pending w m.frame).status) m.named ∙ sym (ap alive_one m.named) in
    counts_moved limit events s (next_state s (Enter i)) (Enter i) i m.frame (λ f. enter_pending f.status f) c m.is
    refl refl (omega (arith, same))
counts_after p limit events s (Finish i e) h c =
    let r = h.control.running in
    counts_moved limit events s (next_state s (Finish i e)) (Finish i e) i r.frame
    (with_action (Ended e) (Completed e)) c r.is refl refl (sym (ap alive_one r.runs))
counts_after p limit events s Stop h c =
    let b = begun-push events Stop in
    let d = finished-push events Stop in
    let c1 = c.frames in
    let c2 = c.counted in
    record { frames = omega (arith, b, c1); counted = omega (arith, b, d, c2); throttled = c.throttled }

-- in every run the counts are right
run_counts : {p : Pipeline} {limit : ℕ} {events : List Event} {s : State} → Run p limit events s
    → Counts limit events s
run_counts EmptyRun = record { frames = refl; counted = refl; throttled = omega arith }
run_counts {p} {limit} (RunThen {events = es} {s = t} r e h) = counts_after p limit es t e h (run_counts r)

-- every prefix of a run is throttled
runs_are_throttled : (p : Pipeline) (limit : ℕ) (events : List Event) (s : State) → Run p limit events s
    → IsThrottled limit events
runs_are_throttled p limit events s r = λ front rest e. (
    let c = run_counts (front_is_run p limit front rest s (subst (λ es. Run p limit es s) e r)) in
    let c2 = c.counted in
    let c3 = c.throttled in
    omega (arith, c2, c3))

-- the columns of sound frames rise
columns_rise : (fs : List Frame) (i : ℕ) → IsSound fs → IsRising (nodes_at (map (λ f. f.nodes) fs) i)
columns_rise fs i s = elim (cases_lt i (length fs)) [
  | inl less ↦ (
      let f = frame_at_exists fs i less in
      let r = (s.well i f.0 f.1).rising in
      rw (nodes_at_frame fs i f.0 f.1) r)
  | inr past ↦ rw (nodes_at_past fs i (omega (arith, past))) (record { rises = λ j k l h. absurd (omega (arith, h)) })
]

-- the law of the rules
pub runs_keep_rules : RunsKeepRules
runs_keep_rules p limit events s r =
    let c = run_counts r in
    let k = run_consistent r in
    let c1 = c.frames in
    let w = length-map s.frames (λ (f : Frame). f.nodes) in
    record {
      columns = omega (arith, w, c1);
      counted = c.counted;
      throttled = runs_are_throttled p limit events s r;
      rising = λ i. columns_rise s.frames i k.sound;
      inside = k.located;
    }
