-- The turns are the candidates, in their order.
use Rattle.std.proofs.Common.{◌≡◌, ◌∙◌, ap, sym, refl, arith, ℕ, ℤ, zero, suc, ◌+◌, ◌<◌, List, [], ◌∷◌, ◌++◌, Bool, true, false, not, ◌&&◌}
use Rattle.std.proofs.Common.{◌||◌, if◌then◌else◌, Option, Some, None, length, ◌-◌, map, filter, count_by, take, nat_lt, slice_index_or}
use Rattle.std.specs.Prelude.{◌%◌, cond, is_some, option_map, slice_get}
use Rattle.std.proofs.lemmas.List.{length-append, length-map, map-append}
use Rattle.std.proofs.lemmas.List.Elements.{filter-append}
use Rattle.std.proofs.lemmas.List.Sums.{length-filter}
use Rattle.std.proofs.lemmas.Option.{get_or_from_slice_get, slice_get-map}
use Rattle.pipe_model.specs.declared.access.Access.{Access}
use Rattle.pipe_model.specs.declared.event.Event.{Event}
use Rattle.pipe_model.specs.declared.event.Event.TheVariants as events
use Rattle.pipe_model.specs.declared.node.Node.{Node}
use Rattle.pipe_model.specs.declared.status.Status.{Status}
use Rattle.pipe_model.specs.declared.status.Status.TheVariants as statuses
use Rattle.pipe_model.specs.Pipelines.Behaviour.{Action, Behaviour, Reading, Writing, Staging, Ending, behaviour_after_all}
use Rattle.pipe_model.specs.Pipelines.Pipeline.{Pipeline}
use Rattle.pipe_model.specs.Runs.NextEvents.{event_if, event_of_behaviour, event_of_frame, event_of_status, frame_continues_loop, may_enter}
use Rattle.pipe_model.specs.Runs.NextEvents.{next_begin, next_event}
use Rattle.pipe_model.specs.Runs.Schedules.{candidates, candidates_from, chosen, if_room, running_in_frames, running_instances}
use Rattle.pipe_model.specs.Runs.Schedules.{running_of_status, starts_instance}
use Rattle.pipe_model.specs.Runs.State.{Frame, State, accesses_of, alive, frame_at}
use Rattle.schedule_play.specs.declared.turns.Alive.{Alive}
use Rattle.schedule_play.specs.declared.turns.Readiness.TheVariants.{MayEnter, MustWait}
use Rattle.schedule_play.specs.declared.turns.Turn.{Turn}
use Rattle.schedule_play.specs.declared.turns.Turn.TheVariants.{Next, Begin}
use Rattle.schedule_play.specs.Turns.{alive_entry, alive_from, alive_iterations, chosen_turn, is_running, iteration_turns, may_go}
use Rattle.schedule_play.specs.Turns.{turn_event, turns}

-- ---- the iterations

abbrev going : Bool → Alive → Bool
going room a = may_go room a.readiness

-- the next event of a kept iteration
abbrev kept_event : Pipeline → State → Alive → Option Event
kept_event p s a = next_event p s a.iteration

starts_none : (p : Pipeline) (before : List Access) (i : ℕ) (d : Behaviour) → starts_instance (event_of_behaviour p before i d) ≡ false
starts_none p before i (Reading c go) = refl
starts_none p before i (Writing c v d) = refl
starts_none p before i (Staging k n d) = refl
starts_none p before i (Ending e) = refl

-- an event that starts no instance needs no room
needs_no_room : (room : Bool) (e : Event) → starts_instance e ≡ false → if_room room (Some e) ≡ e ∷ []
needs_no_room room e none = ap (λ b. if room || not b then e ∷ [] else []) none ∙ always room
  where
    always : (b : Bool) → (if b || true then e ∷ [] else []) ≡ e ∷ []
    always true = refl
    always false = refl

entry_events : (p : Pipeline) (s : State) (room : Bool) (i : ℕ) (w : Status) (nodes : List Node) (t : List Action)
    → next_event p s i ≡ event_of_status p s i w t
    → map (kept_event p s) (filter (going room) (alive_entry s.frames i w nodes)) ≡ map Some (if_room room (event_of_status p s i w t))
entry_events p s room i statuses.Running nodes t q =
    let before = p.preamble ++ accesses_of s.accesses in
    let d = behaviour_after_all (p.behaviour i) t in
    ap (λ o. o ∷ []) q ∙ sym (ap (map Some) (needs_no_room room (event_of_behaviour p before i d) (starts_none p before i d)))
entry_events p s room i (statuses.Pending k n) nodes t q = by (may_enter s.frames i k n) room q
  where
    by : (b r : Bool) → next_event p s i ≡ event_if b (events.Enter i)
        → map (kept_event p s) (filter (going r) (record { iteration = i; number = n; readiness = if b then MayEnter else MustWait } ∷ []))
        ≡ map Some (if_room r (event_if b (events.Enter i)))
    by true true q = ap (λ o. o ∷ []) q
    by true false q = refl
    by false true q = refl
    by false false q = refl
entry_events p s room i (statuses.Completed e) nodes t q = refl

frame_events : (p : Pipeline) (s : State) (room : Bool) (i : ℕ) (fs : List Frame) → ((k : ℕ) → frame_at s.frames (i + k) ≡ frame_at fs k)
    → map (kept_event p s) (filter (going room) (alive_from s.frames i fs)) ≡ map Some (candidates_from p s room i fs)
frame_events p s room i [] h = refl
frame_events p s room i (f ∷ fs) h =
    let first : i + 0 ≡ i = omega arith in
    let here : frame_at s.frames i ≡ Some f = ap (frame_at s.frames) (sym first) ∙ h 0 in
    let own = alive_entry s.frames i f.status f.nodes in
    let rest = alive_from s.frames (i + 1) fs in
    let ev = kept_event p s in
    let one = if_room room (event_of_status p s i f.status f.trace) in
    ap (map ev) (filter-append (going room) own rest) ∙ map-append ev (filter (going room) own) (filter (going room) rest)
    ∙ ap (λ l. l ++ map ev (filter (going room) rest)) (entry_events p s room i f.status f.nodes f.trace (ap (event_of_frame p s i) here))
    ∙ ap (λ l. map Some one ++ l)
    (frame_events p s room (i + 1) fs (λ k. let z : i + 1 + k ≡ i + suc k = omega arith in ap (frame_at s.frames) z ∙ h (suc k)))
    ∙ sym (map-append Some one (candidates_from p s room (i + 1) fs))

abbrev runs : Alive → Bool
runs a = is_running a.readiness

running_kept : (all : List Frame) (i : ℕ) (fs : List Frame) → length (filter runs (alive_from all i fs)) ≡ running_in_frames fs
running_kept all i [] = refl
running_kept all i (f ∷ fs) = by f.status (running_kept all (i + 1) fs)
  where
    rest : List Alive
    rest = alive_from all (i + 1) fs

    none : 0 + running_in_frames fs ≡ running_in_frames fs
    none = omega arith

    waiting : (b : Bool) → length (filter runs rest) ≡ running_in_frames fs
        → (n : ℤ)
        → length (filter runs (record { iteration = i; number = n; readiness = if b then MayEnter else MustWait } ∷ rest)) ≡ 0
        + running_in_frames fs
    waiting true e n = e ∙ sym none
    waiting false e n = e ∙ sym none

    by : (w : Status) → length (filter runs rest) ≡ running_in_frames fs
        → length (filter runs (alive_entry all i w f.nodes ++ rest)) ≡ running_of_status w + running_in_frames fs
    by statuses.Running e = omega (arith, e)
    by (statuses.Pending k n) e = waiting (may_enter all i k n) e n
    by (statuses.Completed x) e = e ∙ sym none

-- the number of running instances
pub running_are : (s : State) (kept : List Alive) → kept ≡ alive_iterations s → count_by (λ (a : Alive). is_running a.readiness) kept
    ≡ running_instances s
running_are s kept is = sym (length-filter runs kept) ∙ ap (λ l. length (filter runs l)) is ∙ running_kept s.frames 0 s.frames

-- ---- all turns

events_of_iterations : (p : Pipeline) (limit : ℕ) (s : State) (kept : List Alive)
    → map (turn_event p limit s) (map (λ (a : Alive). Next a.iteration) kept) ≡ map (kept_event p s) kept
events_of_iterations p limit s [] = refl
events_of_iterations p limit s (a ∷ kept) = ap (λ l. next_event p s a.iteration ∷ l) (events_of_iterations p limit s kept)

begin_event : (n : ℕ) (event : Turn → Option Event) (b room : Bool) → event Begin ≡ event_if b (events.Begin n)
    → map event (if room && is_some (event_if b (events.Begin n)) then Begin ∷ [] else []) ≡ map Some
    (if_room room (event_if b (events.Begin n)))
begin_event n event true true q = ap (λ o. o ∷ []) q
begin_event n event true false q = refl
begin_event n event false true q = refl
begin_event n event false false q = refl

pub turns_are : (p : Pipeline) (limit workers : ℕ) (s : State) (room begins : Bool) (kept : List Alive) → kept ≡ alive_iterations s
    → begins ≡ is_some (next_begin limit s) → room ≡ nat_lt (running_instances s) workers
    → map (turn_event p limit s) (turns room begins kept) ≡ map Some (candidates p limit workers s)
turns_are p limit workers s room begins kept are begin is =
    let event = turn_event p limit s in
    let own = filter (going room) kept in
    let last : List Turn = if room && begins then Begin ∷ [] else [] in
    let goes : Bool = nat_lt (alive s) limit && frame_continues_loop (frame_at s.frames (length s.frames - 1)) in
    let iterations : map event (iteration_turns room kept) ≡ map Some (candidates_from p s room 0 s.frames) =
    events_of_iterations p limit s own ∙ ap (λ l. map (kept_event p s) (filter (going room) l)) are
    ∙ frame_events p s room 0 s.frames (λ k. let z : 0 + k ≡ k = omega arith in ap (frame_at s.frames) z) in
    let beginning : map event last ≡ map Some (if_room room (next_begin limit s)) =
    ap (λ b. map event (if room && b then Begin ∷ [] else [])) begin ∙ begin_event (length s.frames) event goes room refl in
    map-append event (iteration_turns room kept) last ∙ ap (λ l. l ++ map event last) iterations
    ∙ ap (λ l. map Some (candidates_from p s room 0 s.frames) ++ l) beginning
    ∙ sym (map-append Some (candidates_from p s room 0 s.frames) (if_room room (next_begin limit s)))
    ∙ ap (λ r. map Some (candidates_from p s r 0 s.frames ++ if_room r (next_begin limit s))) is

-- the number of turns
pub turns_counted : (room begins : Bool) (kept : List Alive)
    → length (turns room begins kept) ≡ count_by (λ (a : Alive). may_go room a.readiness) kept + (if room && begins then 1 else 0)
turns_counted room begins kept =
    let own = filter (going room) kept in
    let last : List Turn = if room && begins then Begin ∷ [] else [] in
    length-append (iteration_turns room kept) last ∙ ap (λ n. n + length last)
    (length-map own (λ (a : Alive). Next a.iteration) ∙ length-filter (going room) kept)
    ∙ ap (λ n. count_by (going room) kept + n) (last_length (room && begins))
  where
    last_length : (b : Bool) → length (if b then Begin ∷ [] else []) ≡ (if b then 1 else 0)
    last_length true = refl
    last_length false = refl

-- ---- choices

event_at : (event : Turn → Option Event) (ts : List Turn) (es : List Event) (n : ℕ) (t : Turn) (e : Event) → map event ts ≡ map Some es
    → event t ≡ Some e
    → event (slice_index_or ts n t) ≡ Some (slice_index_or es n e)
event_at event [] [] n t e q d = d
event_at event [] (x ∷ es) n t e q d = absurd (cc (q))
event_at event (y ∷ ts) [] n t e q d = absurd (cc (q))
event_at event (y ∷ ts) (x ∷ es) zero t e q d = cc (q)
event_at event (y ∷ ts) (x ∷ es) (suc n) t e q d = event_at event ts es n t e (let rest : map event ts ≡ map Some es = cc (q) in rest) d

same_length : (event : Turn → Option Event) (ts : List Turn) (es : List Event) → map event ts ≡ map Some es → length ts ≡ length es
same_length event ts es q = sym (length-map ts event) ∙ ap length q ∙ length-map es Some

pub chosen_is : (event : Turn → Option Event) (ts : List Turn) (es : List Event) (choice : ℕ) → map event ts ≡ map Some es
    → option_map event (chosen_turn choice ts) ≡ option_map Some (chosen choice es)
chosen_is event [] [] choice q = refl
chosen_is event [] (e ∷ es) choice q = absurd (cc (q))
chosen_is event (t ∷ ts) [] choice q = absurd (cc (q))
chosen_is event (t ∷ ts) (e ∷ es) choice q =
    ap Some (event_at event (t ∷ ts) (e ∷ es) (choice % length (t ∷ ts)) t e q (cc (q))
    ∙ ap (λ n. Some (slice_index_or (e ∷ es) (choice % n) e)) (same_length event (t ∷ ts) (e ∷ es) q))

-- the turn of the next iteration is after the turns of the iterations that have begun
begin_past : (ts : List Turn) (b : Bool) (n : ℕ) (d : Turn) → n < length (ts ++ (if b then Begin ∷ [] else []))
    → slice_index_or ts n Begin ≡ slice_index_or (ts ++ (if b then Begin ∷ [] else [])) n d
begin_past [] true zero d lt = refl
begin_past [] true (suc n) d lt = absurd (omega (arith, lt))
begin_past [] false n d lt = absurd (omega (arith, lt))
begin_past (t ∷ ts) b zero d lt = refl
begin_past (t ∷ ts) b (suc n) d lt = begin_past ts b n d (omega (arith, lt))

pub none_chosen : (choice : ℕ) (ts : List Turn) → length ts ≡ 0 → None ≡ chosen_turn choice ts
none_chosen choice [] e = refl
none_chosen choice (t ∷ ts) e = absurd (omega (arith, e))

pub some_chosen : (choice : ℕ) (room begins : Bool) (kept : List Alive) (n : ℕ) → n ≡ choice % length (turns room begins kept)
    → n < length (turns room begins kept) → Some (slice_index_or (iteration_turns room kept) n Begin) ≡ chosen_turn choice
    (turns room begins kept)
some_chosen choice room begins kept n is lt = at (turns room begins kept) refl
  where
    at : (ts : List Turn) → turns room begins kept ≡ ts → Some (slice_index_or (iteration_turns room kept) n Begin) ≡ chosen_turn choice ts
    at [] q = let none = ap length q in absurd (omega (arith, lt, none))
    at (t ∷ ts) q =
        ap (λ x. Some x) (begin_past (iteration_turns room kept) (room && begins) n t lt)
        ∙ ap (λ l. Some (slice_index_or l n t)) q
        ∙ ap (λ k. Some (slice_index_or (t ∷ ts) k t)) (is ∙ ap (λ l. choice % length l) q)

-- ---- the turn with an index

-- an element that passes a test, by the number of those before it
filtered_here : {X : Type 0} (test : X → Bool) (xs : List X) (k : ℕ) (d : X) → k < length xs → test (slice_index_or xs k d) ≡ true
    → slice_get (filter test xs) (length (filter test (take k xs))) ≡ Some (slice_index_or xs k d)
filtered_here test [] k d lt passes = absurd (omega (arith, lt))
filtered_here test (x ∷ xs) zero d lt passes = ap (λ b. slice_get (cond b (x ∷ filter test xs) (filter test xs)) 0) passes
filtered_here {X} test (x ∷ xs) (suc k) d lt passes = by (test x) (filtered_here test xs k d (omega (arith, lt)) passes)
  where
    all : List X
    all = filter test xs

    front : List X
    front = filter test (take k xs)

    by : (b : Bool) → slice_get all (length front) ≡ Some (slice_index_or xs k d)
        → slice_get (cond b (x ∷ all) all) (length (cond b (x ∷ front) front)) ≡ Some (slice_index_or xs k d)
    by true h = h
    by false h = h

-- the turn of an iteration, by the number of those before it
pub turn_here : (room : Bool) (kept : List Alive) (k n : ℕ) (d : Alive) → k < length kept → may_go room
    (slice_index_or kept k d).readiness ≡ true
    → length (iteration_turns room (take k kept)) ≡ n → Next (slice_index_or kept k d).iteration ≡ slice_index_or
    (iteration_turns room kept) n Begin
turn_here room kept k n d lt goes before =
    let turn : Alive → Turn = λ x. Next x.iteration in
    let test : Alive → Bool = going room in
    let front : length (filter test (take k kept)) ≡ n = sym (length-map (filter test (take k kept)) turn) ∙ before in
    let here : slice_get (filter test kept) n ≡ Some (slice_index_or kept k d) = ap (slice_get (filter test kept)) (sym front)
    ∙ filtered_here test kept k d lt goes in
    sym (get_or_from_slice_get (map turn (filter test kept)) n (turn (slice_index_or kept k d)) Begin
    (slice_get-map turn (filter test kept) n ∙ ap (option_map turn) here))
