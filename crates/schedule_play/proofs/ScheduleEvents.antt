-- What a schedule keeps follows the events of its run.
use Rattle.std.proofs.Common.{◌≡◌, ◌≢◌, ◌∙◌, ap, sym, subst, refl, arith, ℕ, ℤ, pos, ◌+◌, ◌-◌, ◌<◌, List, [], ◌∷◌, ◌++◌, Bool, true, false}
use Rattle.std.proofs.Common.{not, ◌&&◌, ◌||◌, if◌then◌else◌, Some, length, map, filter, inl, inr, eqb, nat_lt}
use Rattle.std.specs.Prelude.{is_some, ◌==◌}
use Rattle.std.proofs.lemmas.Bool.{cases_eq, eq-eqb}
use Rattle.std.proofs.lemmas.List.{length_push}
use Rattle.pipe_model.specs.declared.column.ColumnEnd.{ColumnEnd}
use Rattle.pipe_model.specs.declared.event.Event.{Event}
use Rattle.pipe_model.specs.declared.event.Event.TheVariants as events
use Rattle.pipe_model.specs.declared.node.Kind.{Kind}
use Rattle.pipe_model.specs.declared.status.Status.TheVariants as statuses
use Rattle.pipe_model.specs.Pipelines.Behaviour.{Staged, Ended as Over, closes_at_once, node_of}
use Rattle.pipe_model.specs.Runs.Allowed.{IsRunning, MayAdvance, MayEnter}
use Rattle.pipe_model.specs.Runs.NextEvents.{continues_loop, event_if, frame_continues_loop, may_enter, next_begin}
use Rattle.pipe_model.specs.Runs.State.{Frame, State, alive, enter_pending, frame_at, fresh_frame, next_state, update_frame, with_action}
use Rattle.run_laws.proofs.RunStates.FrameMoves.{entered_frame, enter_pending_is, frame_at_begun, frame_at_moved}
use Rattle.run_laws.proofs.RunStates.Frames.{frame_at_last, frame_at_other, frame_at_updated, frame_at_within, length-update_frame}
use Rattle.schedule_play.specs.declared.changes.Change.TheVariants.{Named, Entered, Ended}
use Rattle.schedule_play.specs.declared.turns.Readiness.TheVariants.{Running}
use Rattle.schedule_play.specs.AliveChanges.{after_change, is_other}
use Rattle.schedule_play.specs.AliveLists.{IsRising}
use Rattle.schedule_play.specs.ScheduleStates.{IsScheduleOf, ScheduleState, goes_on}
use Rattle.schedule_play.specs.Turns.{alive_iterations}
use Rattle.schedule_play.proofs.AliveLists.{rising}
use Rattle.schedule_play.proofs.ChangedEntries.{alive_count, apart_eqb, begun, ended, entered, named}

-- ---- the last iteration

-- the loop goes on after the last iteration, by whether it is the one that was updated
last_updated : (all : List Frame) (j : ℕ) (f : Frame) (u : Frame → Frame) → frame_at all j ≡ Some f
    → frame_continues_loop (frame_at (update_frame all j u) (length (update_frame all j u) - 1))
    ≡ (if eqb (j + 1) (length all) then continues_loop (u f).status (u f).nodes else frame_continues_loop (frame_at all (length all - 1)))
last_updated all j f u is =
    let within = frame_at_within all j f is in
    let same_length = length-update_frame all j u in
    ap (λ n. frame_continues_loop (frame_at (update_frame all j u) (n - 1))) same_length ∙ elim (cases_eq (j + 1) (length all)) [
      | inl last ↦ (
          let at : length all - 1 ≡ j = omega (arith, last) in
          ap (λ n. frame_continues_loop (frame_at (update_frame all j u) n)) at ∙ ap frame_continues_loop (frame_at_updated all j f u is)
          ∙ ap (λ b. if b then continues_loop (u f).status (u f).nodes else frame_continues_loop (frame_at all (length all - 1)))
          (sym (eq-eqb (j + 1) (length all) last)))
      | inr other ↦ (
          let apart : length all - 1 ≢ j = λ e. other (omega (arith, e, within)) in
          ap frame_continues_loop (frame_at_other all j (length all - 1) u apart)
          ∙ ap (λ b. if b then continues_loop (u f).status (u f).nodes else frame_continues_loop (frame_at all (length all - 1)))
          (sym (apart_eqb (j + 1) (length all) other)))
    ]

-- the same, of the kept facts
last_kept : (all : List Frame) (j : ℕ) (f : Frame) (u : Frame → Frame) (before after : Bool) → frame_at all j ≡ Some f
    → before ≡ frame_continues_loop (frame_at all (length all - 1))
    → (j + 1 ≡ length all → before ≡ continues_loop f.status f.nodes → after ≡ continues_loop (u f).status (u f).nodes)
    → (j + 1 ≢ length all → after ≡ before)
    → after ≡ frame_continues_loop (frame_at (update_frame all j u) (length (update_frame all j u) - 1))
last_kept all j f u before after is was own other = elim (cases_eq (j + 1) (length all)) [
  | inl last ↦ (
      let at : length all - 1 ≡ j = omega (arith, last) in
      own last (was ∙ ap (λ n. frame_continues_loop (frame_at all n)) at ∙ ap frame_continues_loop is)
      ∙ ap (λ b. if b then continues_loop (u f).status (u f).nodes else frame_continues_loop (frame_at all (length all - 1)))
      (sym (eq-eqb (j + 1) (length all) last))
      ∙ sym (last_updated all j f u is))
  | inr apart ↦ other apart ∙ was
      ∙ ap (λ b. if b then continues_loop (u f).status (u f).nodes else frame_continues_loop (frame_at all (length all - 1)))
      (sym (apart_eqb (j + 1) (length all) apart))
      ∙ sym (last_updated all j f u is)
]

-- ---- instances

instances_updated : (all : List Frame) (j : ℕ) (f : Frame) (u : Frame → Frame) → frame_at all j ≡ Some f
    → (0 < length f.nodes → 0 < length (u f).nodes) → ((i : ℕ) (g : Frame) → frame_at all i ≡ Some g → 0 < length g.nodes)
    → (i : ℕ) (g : Frame) → frame_at (update_frame all j u) i ≡ Some g → 0 < length g.nodes
instances_updated all j f u is keeps some i g e = elim (frame_at_moved all j i f u g is e) [
  | inl here ↦ subst (λ (x : Frame). 0 < length x.nodes) (sym here.1) (keeps (some j f is))
  | inr there ↦ some i g there.1
]

-- ---- the events

same_last : (j : ℕ) (s : State) (v : ScheduleState) → IsScheduleOf s v → (b : Bool) → eqb (j + 1) (length s.frames) ≡ b
    → (j + 1 == v.begun) ≡ b
same_last j s v h b e = ap (λ n. j + 1 == n) h.begun ∙ e

or_true : (b : Bool) → b || true ≡ true
or_true true = refl
or_true false = refl

or_false : (b : Bool) → b || false ≡ b
or_false true = refl
or_false false = refl

or_swapped : (a b : Bool) → a || b ≡ b || a
or_swapped true true = refl
or_swapped true false = refl
or_swapped false true = refl
or_swapped false false = refl

-- an event of another iteration than the last
not_last : (j : ℕ) (s : State) (v : ScheduleState) (closes : Bool) → IsScheduleOf s v → j + 1 ≢ length s.frames
    → goes_on v.continues (j + 1 == v.begun) closes ≡ v.continues
not_last j s v closes h apart =
    ap (λ b. v.continues || (b && not closes)) (same_last j s v h false (apart_eqb (j + 1) (length s.frames) apart)) ∙ or_false v.continues

-- an event of the last iteration
of_last : (j : ℕ) (s : State) (v : ScheduleState) (closes : Bool) → IsScheduleOf s v → j + 1 ≡ length s.frames
    → goes_on v.continues (j + 1 == v.begun) closes ≡ v.continues || not closes
of_last j s v closes h last = ap (λ b. v.continues || (b && not closes)) (same_last j s v h true (eq-eqb (j + 1) (length s.frames) last))

pub advanced : (s : State) (v : ScheduleState) (j : ℕ) (kind : Kind) (n : ℤ) (free : Bool) → IsScheduleOf s v → MayAdvance s j kind n
    → free ≡ may_enter s.frames j kind n
    → IsScheduleOf (next_state s (events.Advance j kind n))
    (record v { alive = map (after_change (Named j n free)) v.alive; continues = goes_on v.continues (j + 1 == v.begun) false })
advanced s v j kind n free h may enters =
    let all = s.frames in
    let f = may.running.frame in
    let is = may.running.is in
    let u = with_action (Staged kind n) (statuses.Pending kind n) in
    record {
      alive = ap (map (after_change (Named j n free))) h.alive ∙ named all j f kind n free is may.running.runs may.above enters;
      begun = h.begun ∙ sym (length-update_frame all j u);
      continues = last_kept all j f u v.continues (goes_on v.continues (j + 1 == v.begun) false) is h.continues
          (λ last was. of_last j s v false h last ∙ or_true v.continues) (λ apart. not_last j s v false h apart);
      instances = instances_updated all j f u is (λ l. l) h.instances;
    }

pub has_entered : (s : State) (v : ScheduleState) (j : ℕ) → IsScheduleOf s v → MayEnter s j
    → IsScheduleOf (next_state s (events.Enter j)) (record v { alive = map (after_change (Entered j)) v.alive })
has_entered s v j h may =
    let all = s.frames in
    let f = may.frame in
    let is = may.is in
    let u : Frame → Frame = λ g. enter_pending g.status g in
    let now : u f ≡ entered_frame may.kind may.number f = enter_pending_is f may.kind may.number may.named in
    let longer = length_push f.nodes (node_of may.kind may.number) in
    let some = h.instances j f is in
    let goes : continues_loop (u f).status (u f).nodes ≡ true =
    ap (λ (g : Frame). continues_loop g.status g.nodes) now ∙ ap (λ k. nat_lt 1 k) longer ∙ grind (arith, some) in
    record {
      alive = ap (map (after_change (Entered j))) h.alive ∙ entered all j f may.kind may.number is may.named;
      begun = h.begun ∙ sym (length-update_frame all j u);
      continues = last_kept all j f u v.continues v.continues is h.continues
          (λ last was. was ∙ ap (λ w. continues_loop w f.nodes) may.named ∙ sym goes) (λ apart. refl);
      instances = instances_updated all j f u is
          (λ l. subst (λ (g : Frame). 0 < length g.nodes) (sym now) (omega (arith, longer))) h.instances;
    }

pub finished : (s : State) (v : ScheduleState) (j : ℕ) (e : ColumnEnd) → IsScheduleOf s v → IsRunning s j
    → IsScheduleOf (next_state s (events.Finish j e))
    (record v {
      alive = filter (is_other j) (map (after_change (Ended j)) v.alive);
      continues =
          goes_on v.continues (j + 1 == v.begun) (closes_at_once e);
    })
finished s v j e h runs =
    let all = s.frames in
    let f = runs.frame in
    let is = runs.is in
    let u = with_action (Over e) (statuses.Completed e) in
    record {
      alive = ap (λ l. filter (is_other j) (map (after_change (Ended j)) l)) h.alive ∙ ended all j f e is runs.runs;
      begun = h.begun ∙ sym (length-update_frame all j u);
      continues = last_kept all j f u v.continues (goes_on v.continues (j + 1 == v.begun) (closes_at_once e)) is h.continues
          (λ last was. of_last j s v (closes_at_once e) h last ∙ or_swapped v.continues (not (closes_at_once e))
          ∙ ap (λ b. not (closes_at_once e) || b) (was ∙ ap (λ w. continues_loop w f.nodes) runs.runs))
          (λ apart. not_last j s v (closes_at_once e) h apart);
      instances = instances_updated all j f u is (λ l. l) h.instances;
    }

pub has_begun : (s : State) (v : ScheduleState) (i : ℕ) → IsScheduleOf s v
    → IsScheduleOf (next_state s (events.Begin i))
    (record v {
      alive = v.alive ++ record { iteration = v.begun; number = pos 0; readiness = Running } ∷ [];
      begun =
          v.begun + 1;
      continues = false;
    })
has_begun s v i h =
    let all = s.frames in
    let longer = length_push all fresh_frame in
    let at : length (all ++ fresh_frame ∷ []) - 1 ≡ length all = omega (arith, longer) in
    record {
      alive = ap (λ l. l ++ record { iteration = v.begun; number = pos 0; readiness = Running } ∷ []) h.alive
          ∙ ap (λ n. alive_iterations s ++ record { iteration = n; number = pos 0; readiness = Running } ∷ []) h.begun ∙ sym (begun all);
      begun = ap (λ n. n + 1) h.begun ∙ sym longer;
      continues = sym (ap (λ n. frame_continues_loop (frame_at (all ++ fresh_frame ∷ []) n)) at
          ∙ ap frame_continues_loop (frame_at_last all fresh_frame));
      instances = λ k g e. elim (frame_at_begun all k g e) [
        | inl new ↦ subst (λ (x : Frame). 0 < length x.nodes) (sym new.1) (omega arith)
        | inr old ↦ h.instances k g old.1
      ];
    }

-- whether the next iteration may begin
pub may_begin_is : (s : State) (v : ScheduleState) → IsScheduleOf s v → nat_lt (length v.alive) v.limit && v.continues ≡ is_some
    (next_begin v.limit s)
may_begin_is s v h =
    let count : length v.alive ≡ alive s = ap length h.alive ∙ alive_count s.frames 0 s.frames in
    ap (λ n. nat_lt n v.limit && v.continues) count ∙ ap (λ b. nat_lt (alive s) v.limit && b) h.continues
    ∙ sym (some_if (nat_lt (alive s) v.limit && frame_continues_loop (frame_at s.frames (length s.frames - 1)))
    (events.Begin (length s.frames)))
  where
    some_if : (b : Bool) (e : Event) → is_some (event_if b e) ≡ b
    some_if true e = refl
    some_if false e = refl

-- what is kept is that of a run, whatever the limit
pub same_schedule : (s : State) (v w : ScheduleState) → w.alive ≡ v.alive → w.begun ≡ v.begun → w.continues ≡ v.continues
    → IsScheduleOf s v → IsScheduleOf s w
same_schedule s v w alive begun continues h = record {
  alive = alive ∙ h.alive;
  begun = begun ∙ h.begun;
  continues = continues ∙ h.continues;
  instances = h.instances;
}

-- the iterations that have not ended rise
pub rising_kept : (s : State) (v : ScheduleState) → IsScheduleOf s v → IsRising v.alive
rising_kept s v h = subst IsRising (sym h.alive) (rising s)
