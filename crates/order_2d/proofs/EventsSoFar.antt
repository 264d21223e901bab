-- The first events of a log, without the accesses: their state, their starts, and how many instances each iteration has.
use Rattle.std.proofs.Common.{◌≡◌, ◌∙◌, refl, sym, ap, subst, ℕ, ℤ, zero, suc, ◌+◌, ◌<◌, ◌≤◌, List, [], ◌∷◌, ◌++◌, length, map, get_or}
use Rattle.std.proofs.Common.{slice_index, slice_set, take, drop, true, false, Bool, arith, append-nil, append_assoc, inl, inr, Some, cond}
use Rattle.std.proofs.lemmas.Bool.{cases_eq, cases_lt}
use Rattle.std.proofs.lemmas.List.{length-map, length_push, length-append, take_more, take-append-drop, get_or_append_left}
use Rattle.std.proofs.lemmas.List.{get_or_push, get_or_past, get_or-set_same, get_or-set_other, length-set}
use Rattle.pipe_model.specs.declared.event.Event.{Event}
use Rattle.pipe_model.specs.declared.event.Event.TheVariants.{Begin, Advance, Enter, Finish, Stop, Access}
use Rattle.pipe_model.specs.declared.node.Kind.{Kind}
use Rattle.pipe_model.specs.declared.node.Node.{Node}
use Rattle.pipe_model.specs.declared.status.Status.TheVariants.{Pending, Completed}
use Rattle.pipe_model.specs.Orders.Starts.{started_by, starts_from, starts_of}
use Rattle.pipe_model.specs.Pipelines.Behaviour.{Staged, Ended}
use Rattle.pipe_model.specs.Races.Columns.{at, nodes_at}
use Rattle.pipe_model.specs.Runs.Allowed.{ControlAllows}
use Rattle.pipe_model.specs.Runs.ControlParts.{without_accesses}
use Rattle.pipe_model.specs.Runs.ControlRun.{is_access}
use Rattle.pipe_model.specs.Runs.Run.{state_from}
use Rattle.pipe_model.specs.Runs.State.{Frame, State, enter_pending, frame_at, fresh_frame, initial_state, next_state, own_columns}
use Rattle.pipe_model.specs.Runs.State.{update_frame}
use Rattle.run_laws.proofs.ListOrders.StartsOfRuns.{starts_from-push}
use Rattle.run_laws.proofs.LogMerge.ControlStates.{allowed_at, control_state_is}
use Rattle.run_laws.proofs.RunStates.FrameMoves.{enter_pending_is}
use Rattle.run_laws.proofs.RunStates.Frames.{frame_at_within}
use Rattle.run_laws.proofs.RunStates.FrontAndBack.{state_from-push}
use Rattle.run_laws.proofs.RunStates.GrowingColumns.{columns-action}
use Rattle.order_2d.specs.LogStarts.{EntersBegun, IsControlLog, counts_after, counts_in, log_starts, started_after}

-- the first n events, without the accesses
abbrev pub events_before : List Event → ℕ → List Event
events_before events n = without_accesses (take n events)

-- the state after them
abbrev pub state_before : List Event → ℕ → State
state_before events n = state_from initial_state (events_before events n)

pub without-append : (xs ys : List Event) → without_accesses (xs ++ ys) ≡ without_accesses xs ++ without_accesses ys
without-append [] ys = refl
without-append (x ∷ xs) ys = by_test (is_access x) (without-append xs ys)
  where
    by_test : (b : Bool) → without_accesses (xs ++ ys) ≡ without_accesses xs ++ without_accesses ys
        → cond b (without_accesses (xs ++ ys)) (x ∷ without_accesses (xs ++ ys))
        ≡ cond b (without_accesses xs) (x ∷ without_accesses xs) ++ without_accesses ys
    by_test true rest = rest
    by_test false rest = ap (λ l. x ∷ l) rest

-- more events start no fewer instances
starts_prefix : (s : State) (xs ys : List Event) → length (starts_from s xs) ≤ length (starts_from s (xs ++ ys))
starts_prefix s [] ys = omega arith
starts_prefix s (x ∷ xs) ys =
    let rest = starts_prefix (next_state s x) xs ys in
    let one = length-append (started_by s x) (starts_from (next_state s x) xs) in
    let all = length-append (started_by s x) (starts_from (next_state s x) (xs ++ ys)) in
    omega (arith, rest, one, all)

-- ---- counts

count_at : (columns : List (List Node)) (i : ℕ) → slice_index (map length columns) i ≡ length (nodes_at columns i)
count_at [] i = refl
count_at (c ∷ cs) zero = refl
count_at (c ∷ cs) (suc i) = count_at cs i

counts_begun : (fs : List Frame) → map length (map (λ (f : Frame). f.nodes) (fs ++ fresh_frame ∷ []))
    ≡ map length (map (λ (f : Frame). f.nodes) fs) ++ 1 ∷ []
counts_begun [] = refl
counts_begun (f ∷ fs) = ap (λ l. length f.nodes ∷ l) (counts_begun fs)

counts_entered : (fs : List Frame) (i : ℕ) (f : Frame) (k : Kind) (n : ℤ) → frame_at fs i ≡ Some f → f.status ≡ Pending k n
    → map length (map (λ (g : Frame). g.nodes) (update_frame fs i (λ g. enter_pending g.status g)))
    ≡ slice_set (map length (map (λ (g : Frame). g.nodes) fs)) i (slice_index (map length (map (λ (g : Frame). g.nodes) fs)) i + 1)
counts_entered [] i f k n is named = absurd (cc)
counts_entered (g ∷ fs) zero f k n is named =
    let same : g ≡ f = cc in
    let status : g.status ≡ Pending k n = ap (λ (h : Frame). h.status) same ∙ named in
    let longer = ap (λ (h : Frame). length h.nodes) (enter_pending_is g k n status) in
    let pushed = length_push g.nodes (record { number = n; kind = k }) in
    ap (λ m. m ∷ map length (map (λ (h : Frame). h.nodes) fs)) (longer ∙ pushed)
counts_entered (g ∷ fs) (suc i) f k n is named = ap (λ l. length g.nodes ∷ l) (counts_entered fs i f k n is named)

-- an event that the control part allows changes the counts and starts an instance so
record IsCounted (counts : List ℕ) (s : State) (e : Event) : Type 0 where
  begun : EntersBegun (length counts) e
  starts : started_by s e ≡ started_after counts e
  after : counts_in (next_state s e) ≡ counts_after counts e

counted : (limit : ℕ) (s : State) (e : Event) → is_access e ≡ false → ControlAllows limit s e → IsCounted (counts_in s) s e
counted limit s (Begin i) quiet may = record { begun = tt; starts = refl; after = counts_begun s.frames }
counted limit s (Enter i) quiet may = record {
  begun = (let inside = frame_at_within s.frames i may.frame may.is in
      let long = length-map (own_columns s) (λ (c : List Node). length c) in
      let wide = length-map s.frames (λ (f : Frame). f.nodes) in
      omega (arith, inside, long, wide));
  starts = ap (λ k. at i k ∷ []) (sym (count_at (own_columns s) i));
  after = counts_entered s.frames i may.frame may.kind may.number may.is may.named;
}
counted limit s (Access i a) quiet may = absurd (cc)
counted limit s (Advance i k n) quiet may = record {
  begun = tt;
  starts = refl;
  after = ap (λ (l : List (List Node)). map length l) (columns-action s.frames i (Staged k n) (Pending k n));
}
counted limit s (Finish i e) quiet may = record {
  begun = tt;
  starts = refl;
  after = ap (λ (l : List (List Node)). map length l) (columns-action s.frames i (Ended e) (Completed e));
}
counted limit s Stop quiet may = record { begun = tt; starts = refl; after = refl }

-- ---- one more event

-- what event n changes
pub record IsNextEvent (events : List Event) (n : ℕ) (e : Event) : Type 0 where
  pub begun : EntersBegun (length (counts_in (state_before events n))) e
  pub starts : starts_of (events_before events (n + 1))
      ≡ starts_of (events_before events n) ++ started_after (counts_in (state_before events n)) e
  pub counts : counts_in (state_before events (n + 1)) ≡ counts_after (counts_in (state_before events n)) e
  pub within : length (starts_of (events_before events (n + 1))) ≤ length (log_starts events)

split_at : (events : List Event) (n : ℕ) (d : Event) → n < length events
    → events ≡ take n events ++ get_or events n d ∷ drop (n + 1) events
split_at events n d l =
    sym (take-append-drop (n + 1) events)
    ∙ (ap (λ l. l ++ drop (n + 1) events) (take_more events n d l)
    ∙ append_assoc (take n events) (get_or events n d ∷ []) (drop (n + 1) events))

pub next_event : (events : List Event) → IsControlLog events → (n : ℕ) (e : Event) → n < length events
    → e ≡ get_or events n e → IsNextEvent events n e
next_event events h n e l is = by_test (is_access e) refl
  where
    more : take (n + 1) events ≡ take n events ++ e ∷ []
    more = take_more events n e l ∙ ap (λ x. take n events ++ x ∷ []) (sym is)

    fewer : length (starts_of (events_before events (n + 1))) ≤ length (log_starts events)
    fewer =
        let all : without_accesses events ≡ events_before events (n + 1) ++ without_accesses (drop (n + 1) events) =
        ap without_accesses (sym (take-append-drop (n + 1) events)) ∙ without-append (take (n + 1) events) (drop (n + 1) events) in
        subst (λ es. length (starts_of (events_before events (n + 1))) ≤ length (starts_of es)) (sym all)
        (starts_prefix initial_state (events_before events (n + 1)) (without_accesses (drop (n + 1) events)))

    skipped : (x : Event) → is_access x ≡ true → events_before events (n + 1) ≡ events_before events n → IsNextEvent events n x
    skipped (Access i a) t same = record {
      begun = tt;
      starts = ap starts_of same ∙ sym (append-nil (starts_of (events_before events n)));
      counts = ap (λ es. counts_in (state_from initial_state es)) same;
      within = fewer;
    }
    skipped (Begin i) t same = absurd (cc)
    skipped (Advance i k m) t same = absurd (cc)
    skipped (Enter i) t same = absurd (cc)
    skipped (Finish i d) t same = absurd (cc)
    skipped Stop t same = absurd (cc)

    by_test : (b : Bool) → is_access e ≡ b → IsNextEvent events n e
    by_test true t =
        let same : events_before events (n + 1) ≡ events_before events n =
        ap without_accesses more ∙ (without-append (take n events) (e ∷ [])
        ∙ (ap (λ b. events_before events n ++ cond b [] (e ∷ [])) t ∙ append-nil (events_before events n))) in
        skipped e t same
    by_test false t =
        let same : events_before events (n + 1) ≡ events_before events n ++ e ∷ [] =
        ap without_accesses more ∙ (without-append (take n events) (e ∷ [])
        ∙ ap (λ b. events_before events n ++ cond b [] (e ∷ [])) t) in
        let rest : List Event = without_accesses (drop (n + 1) events) in
        let all : without_accesses events ≡ events_before events n ++ e ∷ rest =
        ap without_accesses (split_at events n e l) ∙ (without-append (take n events) (get_or events n e ∷ drop (n + 1) events)
        ∙ (ap (λ x. events_before events n ++ without_accesses (x ∷ drop (n + 1) events)) (sym is)
        ∙ ap (λ b. events_before events n ++ cond b rest (e ∷ rest)) t)) in
        let at = allowed_at h.run (events_before events n) e rest all in
        let state : at.state ≡ state_before events n = control_state_is at.before in
        let one = counted h.limit (state_before events n) e t (subst (λ s. ControlAllows h.limit s e) state at.control) in
        record {
          begun = one.begun;
          starts = ap starts_of same ∙ (starts_from-push initial_state (events_before events n) e
              ∙ ap (λ l. starts_of (events_before events n) ++ l) one.starts);
          counts = ap (λ es. counts_in (state_from initial_state es)) same
              ∙ (ap counts_in (state_from-push initial_state (events_before events n) e) ∙ one.after);
          within = fewer;
        }

-- the counts stay at most the number of starts
pub counted_after : (counts : List ℕ) (e : Event) (m : ℕ) → ((k : ℕ) → slice_index counts k ≤ m)
    → (k : ℕ) → slice_index (counts_after counts e) k ≤ m + length (started_after counts e)
counted_after counts (Begin i) m bounded k = elim (cases_lt k (length counts)) [
  | inl old ↦ (let same = get_or_append_left counts (1 ∷ []) 0 k old in let f = bounded k in omega (arith, same, f))
  | inr new ↦ elim (cases_eq k (length counts)) [
    | inl here ↦ (let at = get_or_push counts 1 0 k (sym here) in omega (arith, at))
    | inr past ↦ (
        let long = length_push counts 1 in
        let none = get_or_past (counts ++ 1 ∷ []) k 0 (omega (arith, long, new, past)) in
        omega (arith, none))
  ]
]
counted_after counts (Enter i) m bounded k = elim (cases_eq k i) [
  | inl here ↦ elim (cases_lt i (length counts)) [
    | inl inside ↦ (
        let at : slice_index (slice_set counts i (slice_index counts i + 1)) k ≡ slice_index counts i + 1 =
        ap (λ j. slice_index (slice_set counts i (slice_index counts i + 1)) j) here
        ∙ get_or-set_same counts i (slice_index counts i + 1) 0 inside in
        let f = bounded i in
        omega (arith, at, f))
    | inr past ↦ (
        let long = length-set counts i (slice_index counts i + 1) in
        let none = get_or_past (slice_set counts i (slice_index counts i + 1)) k 0 (omega (arith, here, past, long)) in
        omega (arith, none))
  ]
  | inr other ↦ (
      let same = get_or-set_other counts i k (slice_index counts i + 1) 0 other in
      let f = bounded k in
      omega (arith, same, f))
]
counted_after counts (Access i a) m bounded k = let f = bounded k in omega (arith, f)
counted_after counts (Advance i j n) m bounded k = let f = bounded k in omega (arith, f)
counted_after counts (Finish i e) m bounded k = let f = bounded k in omega (arith, f)
counted_after counts Stop m bounded k = let f = bounded k in omega (arith, f)
