-- How many instances of an iteration have started and have ended in a control run.
use Rattle.std.proofs.Common.{ℕ, List, subst, sym, false, ◌≡◌, Option, None, Some, length, ◌-◌, [], ◌+◌, ◌∷◌, ◌++◌, arith, map, refl, ◌==◌}
use Rattle.std.proofs.Common.{◌*◌, inl, ap, inr, ◌∙◌, ◌≤◌}
use Rattle.std.proofs.lemmas.Bool.{cases_eq, eq-eqb, ne_eqb, cases_lt}
use Rattle.std.proofs.lemmas.List.{length-append}
use Rattle.pipe_model.specs.Runs.Allowed.{ControlAllows}
use Rattle.pipe_model.specs.Pipelines.Behaviour.{Staged, Ended, node_of}
use Rattle.pipe_model.specs.Runs.ControlRun.{ControlRun, EmptyControlRun, ControlRunThen, is_access}
use Rattle.pipe_model.specs.declared.status.Status.{Status}
use Rattle.pipe_model.specs.declared.status.Status.TheVariants.{Running, Pending, Completed}
use Rattle.pipe_model.specs.Runs.State.{State, Frame, next_state, frame_at, update_frame, fresh_frame}
use Rattle.pipe_model.specs.Runs.State.{with_action, enter_pending}
use Rattle.pipe_model.specs.Runs.TicketLogs.{start_ticket, end_ticket, start_tickets, end_tickets, if_ticket}
use Rattle.pipe_model.specs.declared.ticket.BookEntry.{BookEntry}
use Rattle.pipe_model.specs.declared.event.Event.{Event}
use Rattle.pipe_model.specs.declared.event.Event.TheVariants.{Begin, Access, Advance, Enter, Finish, Stop}
use Rattle.run_laws.proofs.LogMerge.InstanceTickets.{any_start, any_end, any_ticket}
use Rattle.run_laws.proofs.RunStates.FrameMoves.{IsSound, sound_moved, sound_begun, enter_pending_is}
use Rattle.run_laws.proofs.RunStates.Frames.{frame_at_updated, frame_at_other, frame_at_last, frame_at_past, frame_at_push}
use Rattle.run_laws.proofs.RunStates.QuietEvents.{IsQuiet, advance_is_quiet, enter_is_quiet, finish_is_quiet}

-- the frames of a control run are sound
control_sound : {limit : ℕ} {es : List Event} {c : State} → ControlRun limit es c → IsSound c.frames
control_sound EmptyControlRun = record {
  well = λ i f e. absurd (cc);
  goes = λ i f e l. absurd (cc);
  waits = λ i f g e c k l w. absurd (cc);
}
control_sound {limit} (ControlRunThen {c = d} r e n g h) = sound_after limit d e n (control_sound r) h
  where
    by_quiet : (s : State) (fs : List Frame) → IsSound s.frames → IsQuiet s fs → IsSound fs
    by_quiet s fs sound q =
        subst IsSound (sym q.result) (sound_moved s.frames q.place q.frame q.update sound q.is q.moves)

    sound_after : (limit : ℕ) (s : State) (e : Event) → is_access e ≡ false → IsSound s.frames
        → ControlAllows limit s e → IsSound (next_state s e).frames
    sound_after limit s (Begin i) n sound h = sound_begun limit s i sound h
    sound_after limit s (Access i a) n sound h = absurd (cc)
    sound_after limit s (Advance i k m) n sound h =
        by_quiet s (next_state s (Advance i k m)).frames sound (advance_is_quiet s i k m h)
    sound_after limit s (Enter i) n sound h = by_quiet s (next_state s (Enter i)).frames sound (enter_is_quiet s i h)
    sound_after limit s (Finish i e) n sound h =
        by_quiet s (next_state s (Finish i e)).frames sound (finish_is_quiet s i e h)
    sound_after limit s Stop n sound h = sound

-- the number of instances of an iteration that have started
abbrev pub started_in : Option Frame → ℕ
started_in None = 0
started_in (Some f) = length f.nodes

-- the number that have ended, by the status
abbrev pub ended_by_status : Status → ℕ → ℕ
ended_by_status Running n = n - 1
ended_by_status (Pending k m) n = n
ended_by_status (Completed e) n = n

-- the number of instances of an iteration that have ended
abbrev pub ended_in : Option Frame → ℕ
ended_in None = 0
ended_in (Some f) = ended_by_status f.status (length f.nodes)

-- the number of events that start an instance of the iteration
abbrev pub start_count : ℕ → List Event → ℕ
start_count i [] = 0
start_count i (e ∷ es) = length (start_ticket i e 0) + start_count i es

-- the number of events that end one
abbrev pub end_count : ℕ → List Event → ℕ
end_count i [] = 0
end_count i (e ∷ es) = length (end_ticket i e 0) + end_count i es

-- the starts with one more event
start_count-push : (i : ℕ) (es : List Event) (e : Event)
    → start_count i (es ++ e ∷ []) ≡ start_count i es + length (start_ticket i e 0)
start_count-push i [] e = omega arith
start_count-push i (x ∷ es) e = let h = start_count-push i es e in omega (arith, h)

-- the ends with one more event
end_count-push : (i : ℕ) (es : List Event) (e : Event)
    → end_count i (es ++ e ∷ []) ≡ end_count i es + length (end_ticket i e 0)
end_count-push i [] e = omega arith
end_count-push i (x ∷ es) e = let h = end_count-push i es e in omega (arith, h)

-- the number of start tickets is the number of starts
pub start_tickets_counted : (i : ℕ) (bs : List BookEntry)
    → length (start_tickets i bs) ≡ start_count i (map (λ b. b.event) bs)
start_tickets_counted i [] = refl
start_tickets_counted i (b ∷ bs) =
    let h = start_tickets_counted i bs in
    let a = length-append (start_ticket i b.event b.ticket) (start_tickets i bs) in
    let t = any_start i b.event b.ticket in
    omega (arith, h, a, t)

-- the number of end tickets is the number of ends
pub end_tickets_counted : (i : ℕ) (bs : List BookEntry)
    → length (end_tickets i bs) ≡ end_count i (map (λ b. b.event) bs)
end_tickets_counted i [] = refl
end_tickets_counted i (b ∷ bs) =
    let h = end_tickets_counted i bs in
    let a = length-append (end_ticket i b.event b.ticket) (end_tickets i bs) in
    let t = any_end i b.event b.ticket in
    omega (arith, h, a, t)

-- what an update adds to a count
count_updated : (fs : List Frame) (j : ℕ) (f : Frame) (u : Frame → Frame) (F : Option Frame → ℕ) (i : ℕ) (n : ℕ)
    → frame_at fs j ≡ Some f → F (Some (u f)) ≡ F (Some f) + n
    → F (frame_at (update_frame fs j u) i) ≡ F (frame_at fs i) + length (if_ticket (j == i) 0) * n
count_updated fs j f u F i n e h = elim (cases_eq i j) [
  | inl same ↦ (
      let t : length (if_ticket (j == i) 0) ≡ 1 = ap (λ b. length (if_ticket b 0)) (eq-eqb j i (sym same)) in
      let a : frame_at (update_frame fs j u) i ≡ Some (u f) =
      subst (λ m. frame_at (update_frame fs j u) m ≡ Some (u f)) (sym same) (frame_at_updated fs j f u e) in
      let b : frame_at fs i ≡ Some f = subst (λ m. frame_at fs m ≡ Some f) (sym same) e in
      let a' = ap F a in
      let b' = ap F b in
      rw t (omega (arith, a', b', h)))
  | inr other ↦ (
      let t : length (if_ticket (j == i) 0) ≡ 0 =
      ap (λ b. length (if_ticket b 0)) (ne_eqb j i (λ q. other (sym q))) in
      let a = ap F (frame_at_other fs j i u other) in
      rw t (omega (arith, a)))
]

-- what the beginning of an iteration adds to a count
count_begun : (fs : List Frame) (F : Option Frame → ℕ) (i j n : ℕ) → j ≡ length fs → F (Some fresh_frame) ≡ n
    → F None ≡ 0 → F (frame_at (fs ++ fresh_frame ∷ []) i) ≡ F (frame_at fs i) + length (if_ticket (j == i) 0) * n
count_begun fs F i j n last new none = elim (cases_eq i j) [
  | inl same ↦ (
      let t : length (if_ticket (j == i) 0) ≡ 1 = ap (λ b. length (if_ticket b 0)) (eq-eqb j i (sym same)) in
      let at : i ≡ length fs = omega (arith, same, last) in
      let a : frame_at (fs ++ fresh_frame ∷ []) i ≡ Some fresh_frame =
      subst (λ m. frame_at (fs ++ fresh_frame ∷ []) m ≡ Some fresh_frame) (sym at) (frame_at_last fs fresh_frame) in
      let a' = ap F a in
      let b' = ap F (frame_at_past fs i (omega (arith, at))) in
      rw t (omega (arith, a', b', new, none)))
  | inr other ↦ (
      let t : length (if_ticket (j == i) 0) ≡ 0 =
      ap (λ b. length (if_ticket b 0)) (ne_eqb j i (λ q. other (sym q))) in
      rw t (elim (cases_lt i (length fs)) [
        | inl less ↦ (let a = ap F (frame_at_push fs fresh_frame i less) in omega (arith, a))
        | inr more ↦ (
            let a = ap F (frame_at_past (fs ++ fresh_frame ∷ []) i
            (omega (arith, length-append fs (fresh_frame ∷ []), more, other, last))) in
            let b = ap F (frame_at_past fs i more) in
            omega (arith, a, b))
      ]))
]

-- the events and the frames have the same counts
pub record IsCountedAt (es : List Event) (s : State) (i : ℕ) : Type 0 where
  pub starts : start_count i es ≡ started_in (frame_at s.frames i)
  pub ends : end_count i es ≡ ended_in (frame_at s.frames i)

-- after every event the counts still agree with the frames
counted_after : (limit : ℕ) (es : List Event) (s : State) (e : Event) (i : ℕ) → is_access e ≡ false → IsSound s.frames
    → ControlAllows limit s e → IsCountedAt es s i → IsCountedAt (es ++ e ∷ []) (next_state s e) i
counted_after limit es s (Begin j) i n sound h c =
    let a = start_count-push i es (Begin j) in
    let b = end_count-push i es (Begin j) in
    let c1 = c.starts in
    let c2 = c.ends in
    let t = any_ticket (j == i) 0 0 in
    let u = count_begun s.frames started_in i j 1 h.number refl refl in
    let v = count_begun s.frames ended_in i j 0 h.number refl refl in
    record { starts = omega (arith, a, c1, u); ends = omega (arith, b, c2, v) }
counted_after limit es s (Access j a) i n sound h c = absurd (cc)
counted_after limit es s (Advance j k m) i n sound h c =
    let a = start_count-push i es (Advance j k m) in
    let b = end_count-push i es (Advance j k m) in
    let c1 = c.starts in
    let c2 = c.ends in
    let r = h.running in
    let filled = (sound.well j r.frame r.is).filled in
    let was : ended_in (Some r.frame) ≡ length r.frame.nodes - 1 =
    ap (λ w. ended_by_status w (length r.frame.nodes)) r.runs in
    let u = count_updated s.frames j r.frame (with_action (Staged k m) (Pending k m)) started_in i 0 r.is
    (omega arith) in
    let v = count_updated s.frames j r.frame (with_action (Staged k m) (Pending k m)) ended_in i 1 r.is
    (omega (arith, was, filled)) in
    record { starts = omega (arith, a, c1, u); ends = omega (arith, b, c2, v) }
counted_after limit es s (Finish j e) i n sound h c =
    let a = start_count-push i es (Finish j e) in
    let b = end_count-push i es (Finish j e) in
    let c1 = c.starts in
    let c2 = c.ends in
    let r = h.running in
    let filled = (sound.well j r.frame r.is).filled in
    let was : ended_in (Some r.frame) ≡ length r.frame.nodes - 1 =
    ap (λ w. ended_by_status w (length r.frame.nodes)) r.runs in
    let u = count_updated s.frames j r.frame (with_action (Ended e) (Completed e)) started_in i 0 r.is
    (omega arith) in
    let v = count_updated s.frames j r.frame (with_action (Ended e) (Completed e)) ended_in i 1 r.is
    (omega (arith, was, filled)) in
    record { starts = omega (arith, a, c1, u); ends = omega (arith, b, c2, v) }
counted_after limit es s (Enter j) i n sound h c =
    let a = start_count-push i es (Enter j) in
    let b = end_count-push i es (Enter j) in
    let c1 = c.starts in
    let c2 = c.ends in
    let f = h.frame in
    let same = enter_pending_is f h.kind h.number h.named in
    let wide = length-append f.nodes (node_of h.kind h.number ∷ []) in
    let s1 : started_in (Some (enter_pending f.status f)) ≡ started_in (Some f) + 1 =
    ap (λ (g : Frame). length g.nodes) same ∙ wide in
    let was : ended_in (Some f) ≡ length f.nodes = ap (λ w. ended_by_status w (length f.nodes)) h.named in
    let e1 : ended_in (Some (enter_pending f.status f)) ≡ length (f.nodes ++ node_of h.kind h.number ∷ []) - 1 =
    ap (λ (g : Frame). ended_by_status g.status (length g.nodes)) same in
    let u = count_updated s.frames j f (λ g. enter_pending g.status g) started_in i 1 h.is s1 in
    let v = count_updated s.frames j f (λ g. enter_pending g.status g) ended_in i 0 h.is
    (omega (arith, was, e1, wide)) in
    record { starts = omega (arith, a, c1, u); ends = omega (arith, b, c2, v) }
counted_after limit es s Stop i n sound h c =
    let a = start_count-push i es Stop in
    let b = end_count-push i es Stop in
    let c1 = c.starts in
    let c2 = c.ends in
    record { starts = omega (arith, a, c1); ends = omega (arith, b, c2) }

-- in every control run the events and the frames have the same counts
pub control_counts : {limit : ℕ} {es : List Event} {c : State} → ControlRun limit es c → (i : ℕ) → IsCountedAt es c i
control_counts EmptyControlRun i = record { starts = refl; ends = refl }
control_counts {limit} (ControlRunThen {events = es} {c = d} r e n g h) i =
    counted_after limit es d e i n (control_sound r) h (control_counts r i)

-- at most one more instance has started than has ended, by the status
one_open_by_status : (w : Status) (n : ℕ) → n ≤ ended_by_status w n + 1
one_open_by_status Running n = omega arith
one_open_by_status (Pending k m) n = omega arith
one_open_by_status (Completed e) n = omega arith

-- of each iteration at most one more instance has started than has ended
pub one_open : (o : Option Frame) → started_in o ≤ ended_in o + 1
one_open None = omega arith
one_open (Some f) = one_open_by_status f.status (length f.nodes)
