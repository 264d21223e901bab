-- The accesses of a log, event after event; those of a run are the run's own.
use Rattle.std.proofs.Common.{◌≡◌, ◌∙◌, ap, ap₂, sym, refl, subst, arith, ℕ, zero, suc, ◌+◌, ◌-◌, ◌<◌, ◌≤◌, All, List, [], ◌∷◌, ◌++◌}
use Rattle.std.proofs.Common.{length, map, get_or, take, drop, slice_index, append-nil, append_assoc}
use Rattle.std.proofs.lemmas.List.{get_or_append_left, get_or_default, length-append, take-append-drop, take_all, take_more}
use Rattle.order_2d.proofs.EventsSoFar.{next_event, state_before}
use Rattle.order_2d.specs.LogStarts.{IsControlLog, counts_after, counts_in}
use Rattle.pipe_model.specs.declared.access.NodeAccess.{NodeAccess}
use Rattle.pipe_model.specs.declared.event.Event.{Event}
use Rattle.pipe_model.specs.declared.event.Event.TheVariants.{Begin, Advance, Enter, Finish, Stop, Access}
use Rattle.pipe_model.specs.Pipelines.Pipeline.{Pipeline}
use Rattle.pipe_model.specs.Races.Columns.{at}
use Rattle.pipe_model.specs.Runs.ControlParts.{without_accesses}
use Rattle.pipe_model.specs.Runs.Run.{Run, EmptyRun, RunThen, state_from}
use Rattle.pipe_model.specs.Runs.State.{Frame, State, current_index, frame_at, initial_state, next_state}
use Rattle.schedule_laws.proofs.ControlOutlines.{control_skips_accesses}
use Rattle.race_detection.specs.LogAccesses.{access_by, accesses_from, log_accesses}
use Rattle.race_detection.proofs.ControlLogs.{columns_of_run, control_log}

-- how many instances each iteration has after events
abbrev pub counts_from : List ℕ → List Event → List ℕ
counts_from counts [] = counts
counts_from counts (e ∷ es) = counts_from (counts_after counts e) es

counts_from-append : (counts : List ℕ) (xs ys : List Event) → counts_from counts (xs ++ ys) ≡ counts_from (counts_from counts xs) ys
counts_from-append counts [] ys = refl
counts_from-append counts (x ∷ xs) ys = counts_from-append (counts_after counts x) xs ys

accesses_from-append : (counts : List ℕ) (xs ys : List Event)
    → accesses_from counts (xs ++ ys) ≡ accesses_from counts xs ++ accesses_from (counts_from counts xs) ys
accesses_from-append counts [] ys = refl
accesses_from-append counts (x ∷ xs) ys =
    ap (λ l. access_by counts x ++ l) (accesses_from-append (counts_after counts x) xs ys)
    ∙ sym (append_assoc (access_by counts x) (accesses_from (counts_after counts x) xs) (accesses_from (counts_from counts (x ∷ xs)) ys))

-- ---- one more event

-- the accesses up to event n, with its own
pub one_more_made : (events : List Event) (n : ℕ) → n < length events
    → log_accesses (take (n + 1) events)
    ≡ log_accesses (take n events) ++ access_by (counts_from [] (take n events)) (get_or events n (Begin 0))
one_more_made events n w =
    let e : Event = get_or events n (Begin 0) in
    let counts : List ℕ = counts_from [] (take n events) in
    ap log_accesses (take_more events n (Begin 0) w) ∙ accesses_from-append [] (take n events) (e ∷ [])
    ∙ ap (λ l. log_accesses (take n events) ++ l) (append-nil (access_by counts e))

-- the counts are those of the control part
counts_so_far : (events : List Event) → IsControlLog events → (n : ℕ) → n ≤ length events
    → counts_from [] (take n events) ≡ counts_in (state_before events n)
counts_so_far events h zero w = refl
counts_so_far events h (suc n) w =
    let e : Event = get_or events n (Begin 0) in
    let within : n < length events = omega (arith, w) in
    let next = next_event events h n e within (get_or_default events n (Begin 0) e within) in
    let here : n + 1 ≡ suc n = omega arith in
    subst (λ m. counts_from [] (take m events) ≡ counts_in (state_before events m)) here
    (ap (counts_from []) (take_more events n (Begin 0) within) ∙ counts_from-append [] (take n events) (e ∷ [])
    ∙ ap (λ k. counts_after k e) (counts_so_far events h n (omega (arith, w))) ∙ sym next.counts)

-- event n makes these accesses of the log, after those of the events before it
pub record IsMadeNext (events : List Event) (n : ℕ) (made : List NodeAccess) : Type 0 where
  pub more : log_accesses (take (n + 1) events) ≡ log_accesses (take n events) ++ made
  pub rest : List NodeAccess
  pub all : log_accesses events ≡ (log_accesses (take n events) ++ made) ++ rest

pub made_next : (events : List Event) (n : ℕ) (counts : List ℕ) → IsControlLog events → n < length events
    → counts ≡ counts_in (state_before events n) → IsMadeNext events n (access_by counts (get_or events n (Begin 0)))
made_next events n counts h w are =
    let same : counts_from [] (take n events) ≡ counts = counts_so_far events h n (omega (arith, w)) ∙ sym are in
    let more = one_more_made events n w
    ∙ ap (λ k. log_accesses (take n events) ++ access_by k (get_or events n (Begin 0))) same in
    let rest : List NodeAccess = accesses_from (counts_from [] (take (n + 1) events)) (drop (n + 1) events) in
    record {
      more = more;
      rest = rest;
      all = ap log_accesses (sym (take-append-drop (n + 1) events))
          ∙ accesses_from-append [] (take (n + 1) events) (drop (n + 1) events) ∙ ap (λ l. l ++ rest) more;
    }

all_before : (P : NodeAccess → Type 0) (xs ys : List NodeAccess) → All P (xs ++ ys) → All P xs
all_before P xs ys h = λ k d w. subst P (get_or_append_left xs ys d k w) (h k d (omega (arith, w, length-append xs ys)))

all_after : (P : NodeAccess → Type 0) (xs ys : List NodeAccess) → All P (xs ++ ys) → All P ys
all_after P [] ys h = h
all_after P (x ∷ xs) ys h = all_after P xs ys (λ k d w. h (suc k) d (omega (arith, w)))

-- what holds of all accesses holds of those of event n
pub all_made : (P : NodeAccess → Type 0) (events : List Event) (n : ℕ) (made : List NodeAccess) → IsMadeNext events n made
    → All P (log_accesses events) → All P made
all_made P events n made next all =
    let before = log_accesses (take n events) in
    all_after P before made (all_before P (before ++ made) next.rest (subst (All P) next.all all))

-- ---- runs

-- the last instance of an iteration is the current one
last_is_current : (fs : List Frame) (i : ℕ)
    → slice_index (map length (map (λ (f : Frame). f.nodes) fs)) i - 1 ≡ current_index (frame_at fs i)
last_is_current [] i = refl
last_is_current (f ∷ fs) zero = refl
last_is_current (f ∷ fs) (suc i) = last_is_current fs i

made_by_event : (s : State) (e : Event) → s.accesses ++ access_by (counts_in s) e ≡ (next_state s e).accesses
made_by_event s (Begin i) = append-nil s.accesses
made_by_event s (Enter i) = append-nil s.accesses
made_by_event s (Access i a) = ap (λ k. s.accesses ++ record { node = at i k; access = a } ∷ []) (last_is_current s.frames i)
made_by_event s (Advance i k n) = append-nil s.accesses
made_by_event s (Finish i e) = append-nil s.accesses
made_by_event s Stop = append-nil s.accesses

counts_of_run : (p : Pipeline) (limit : ℕ) (events : List Event) (s : State) → Run p limit events s → counts_from [] events ≡ counts_in s
counts_of_run p limit events s r =
    let whole : take (length events) events ≡ events = take_all (length events) events (omega arith) in
    ap (counts_from []) (sym whole)
    ∙ counts_so_far events (control_log p limit events s r) (length events) (omega arith)
    ∙ ap (λ (es : List Event). counts_in (state_from initial_state (without_accesses es))) whole
    ∙ ap counts_in (sym (control_skips_accesses initial_state events)) ∙ ap (map length) (columns_of_run p limit events s r)

pub accesses_of_run : (p : Pipeline) (limit : ℕ) (events : List Event) (s : State) → Run p limit events s
    → log_accesses events ≡ s.accesses
accesses_of_run p limit events s EmptyRun = refl
accesses_of_run p limit events s (RunThen {events = es} {s = t} r e h) =
    accesses_from-append [] es (e ∷ [])
    ∙ ap₂ (λ made counts. made ++ (access_by counts e ++ [])) (accesses_of_run p limit es t r) (counts_of_run p limit es t r)
    ∙ ap (λ l. t.accesses ++ l) (append-nil (access_by (counts_in t) e)) ∙ made_by_event t e
