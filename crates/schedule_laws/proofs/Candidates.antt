-- Candidates are allowed, an unfinished run has one, and at most `workers` instances run.
use Rattle.std.proofs.Common.{◌≡◌, ◌≢◌, ◌∙◌, sym, ap, subst, refl, ℕ, zero, suc, List, [], ◌∷◌, ◌++◌, Bool, true, false, not, inl, inr, ◌⊎◌}
use Rattle.std.proofs.Common.{◌<◌, ◌≤◌, ◌+◌, length, nat_lt, Option, Some, None, arith, ◌||◌, if◌then◌else◌, append-nil, append_assoc}
use Rattle.std.proofs.lemmas.Bool.{cases_lt, lt-ltb, ltb-true}
use Rattle.std.proofs.lemmas.List.{same_from_push}
use Rattle.pipe_model.proofs.Members.{none_among, only_one, among_left, among_right, among_either}
use Rattle.pipe_model.specs.declared.access.Access.{Access as Cell_access}
use Rattle.pipe_model.specs.declared.event.Event.{Event}
use Rattle.pipe_model.specs.declared.event.Event.TheVariants.{Begin, Access, Advance, Enter, Finish, Stop}
use Rattle.pipe_model.specs.Runs.Allowed.{Allowed}
use Rattle.pipe_model.specs.Pipelines.Behaviour.{Behaviour, Reading, Writing, Staging, Ending, Action, Accessed, Staged, Ended}
use Rattle.pipe_model.specs.Pipelines.Behaviour.{behaviour_after_all}
use Rattle.pipe_model.specs.Pipelines.Pipeline.{Pipeline, IsWellFormed}
use Rattle.pipe_model.specs.Races.DeterminacyRaces.{Among, Here}
use Rattle.pipe_model.specs.Runs.Run.{Run, EmptyRun, RunThen, state_from}
use Rattle.pipe_model.specs.Runs.State.{Frame, State, frame_at, update_frame, with_action, enter_pending, fresh_frame, initial_state}
use Rattle.pipe_model.specs.Runs.State.{next_state, accesses_of}
use Rattle.pipe_model.specs.declared.status.Status.{Status}
use Rattle.pipe_model.specs.declared.status.Status.TheVariants.{Running, Pending, Completed}
use Rattle.run_laws.proofs.LogMerge.LastElements.{LastOf, IsEmpty, HasLast, last_of_list}
use Rattle.run_laws.proofs.RunStates.FrameMoves.{enter_pending_is}
use Rattle.run_laws.proofs.RunStates.FrontAndBack.{run_state_is}
use Rattle.run_laws.proofs.RunStates.Progress.{run_legal, runs_never_stick}
use Rattle.pipe_model.specs.Runs.NextEvents.{event_of_behaviour, event_if, event_of_status, event_of_frame, next_begin, may_enter}
use Rattle.pipe_model.specs.Runs.Schedules.{running_of_status, running_in_frames, running_instances, starts_instance, if_room}
use Rattle.pipe_model.specs.Runs.Schedules.{candidates_from, candidates, PlayedRun, NoTurn, OneTurn}
use Rattle.schedule_laws.specs.ScheduleLaws.{CandidatesAreAllowed, RunsHaveCandidates, PlayedRunsAreRuns, IsNext}
use Rattle.schedule_laws.proofs.AllowedEvents.{allowed_is_next, begin_is_allowed, event_is_allowed}

-- ---- the list of candidates

-- the event may be a candidate: there is room, or it starts no instance
abbrev pub HasRoomFor : Bool → Event → Type 0
HasRoomFor room e = (room ≡ true) ⊎ (starts_instance e ≡ false)

room_test : (room starts : Bool) → (room || not starts) ≡ true → (room ≡ true) ⊎ (starts ≡ false)
room_test true starts e = inl refl
room_test false true e = absurd (cc)
room_test false false e = inr refl

room_tested : (room starts : Bool) → (room ≡ true) ⊎ (starts ≡ false) → (room || not starts) ≡ true
room_tested true starts h = refl
room_tested false true h = elim h [ inl e ↦ absurd (cc) | inr e ↦ absurd (cc) ]
room_tested false false h = refl

if_room_gives : (room : Bool) (o : Option Event) (e : Event) → Among e (if_room room o) → (o ≡ Some e) × HasRoomFor room e
if_room_gives room None e m = absurd (none_among e m)
if_room_gives room (Some x) e m = by_test (room || not (starts_instance x)) refl m
  where
    by_test : (b : Bool) → (room || not (starts_instance x)) ≡ b → Among e (if b then x ∷ [] else [])
        → (Some x ≡ Some e) × HasRoomFor room e
    by_test true t m =
        let same : e ≡ x = only_one e x m in
        (ap (λ y. Some y) (sym same), subst (λ y. HasRoomFor room y) (sym same) (room_test room (starts_instance x) t))
    by_test false t m = absurd (none_among e m)

in_room : (room : Bool) (o : Option Event) (e : Event) → o ≡ Some e → HasRoomFor room e → Among e (if_room room o)
in_room room o e q h =
    subst (λ x. Among e (if_room room x)) (sym q)
    (subst (λ b. Among e (if b then e ∷ [] else [])) (sym (room_tested room (starts_instance e) h)) Here)

-- a candidate of these iterations is the next event of one of them
record IsOfFrame (p : Pipeline) (s : State) (room : Bool) (i : ℕ) (fs : List Frame) (e : Event) : Type 0 where
  place : ℕ
  frame : Frame
  is : frame_at fs place ≡ Some frame
  event : event_of_status p s (i + place) frame.status frame.trace ≡ Some e
  room_for : HasRoomFor room e

of_frame : (p : Pipeline) (s : State) (room : Bool) (i : ℕ) (fs : List Frame) (e : Event) → Among e (candidates_from p s room i fs)
    → IsOfFrame p s room i fs e
of_frame p s room i [] e m = absurd (none_among e m)
of_frame p s room i (f ∷ fs) e m = elim (among_either e (if_room room (event_of_status p s i f.status f.trace))
    (candidates_from p s room (i + 1) fs) m) [
      | inl here ↦ (
          let h = if_room_gives room (event_of_status p s i f.status f.trace) e here in
          record {
            place = 0;
            frame = f;
            is = refl;
            event = (let z : i + 0 ≡ i = omega arith in rw z h.0);
            room_for = h.1;
          })
      | inr later ↦ (
          let h = of_frame p s room (i + 1) fs e later in
          record {
            place = suc h.place;
            frame = h.frame;
            is = h.is;
            event = (let z : i + suc h.place ≡ i + 1 + h.place = omega arith in rw z h.event);
            room_for = h.room_for;
          })
    ]

-- the next event of an iteration is a candidate if there is room for it
among_frames : (p : Pipeline) (s : State) (room : Bool) (i : ℕ) (fs : List Frame) (k : ℕ) (f : Frame) (e : Event) → frame_at fs k ≡ Some f
    → event_of_status p s (i + k) f.status f.trace ≡ Some e → HasRoomFor room e → Among e (candidates_from p s room i fs)
among_frames p s room i [] k f e is q h = absurd (cc)
among_frames p s room i (x ∷ fs) zero f e is q h =
    let same : x ≡ f = cc in
    let z : i + 0 ≡ i = omega arith in
    let here : event_of_status p s i x.status x.trace ≡ Some e =
    ap (λ (g : Frame). event_of_status p s i g.status g.trace) same ∙ ap (λ n. event_of_status p s n f.status f.trace) (sym z) ∙ q in
    among_left e (if_room room (event_of_status p s i x.status x.trace)) (candidates_from p s room (i + 1) fs)
    (in_room room (event_of_status p s i x.status x.trace) e here h)
among_frames p s room i (x ∷ fs) (suc k) f e is q h =
    let z : i + suc k ≡ i + 1 + k = omega arith in
    among_right e (if_room room (event_of_status p s i x.status x.trace)) (candidates_from p s room (i + 1) fs)
    (among_frames p s room (i + 1) fs k f e is (ap (λ n. event_of_status p s n f.status f.trace) (sym z) ∙ q) h)

-- ---- candidates are allowed

offered_is_no_stop : (p : Pipeline) (before : List Cell_access) (i : ℕ) (d : Behaviour) → event_of_behaviour p before i d ≢ Stop
offered_is_no_stop p before i (Reading c go) = λ e. cc (e)
offered_is_no_stop p before i (Writing c v d) = λ e. cc (e)
offered_is_no_stop p before i (Staging k n d) = λ e. cc (e)
offered_is_no_stop p before i (Ending f) = λ e. cc (e)

if_is_no_stop : (b : Bool) (x : Event) → x ≢ Stop → event_if b x ≡ Some Stop → ⊥
if_is_no_stop true x apart q = apart (cc)
if_is_no_stop false x apart q = cc

event_is_no_stop : (p : Pipeline) (s : State) (i : ℕ) (w : Status) (t : List Action) → event_of_status p s i w t ≡ Some Stop → ⊥
event_is_no_stop p s i Running t q =
    let event = event_of_behaviour p (p.preamble ++ accesses_of s.accesses) i (behaviour_after_all (p.behaviour i) t) in
    let same : event ≡ Stop = cc in
    offered_is_no_stop p (p.preamble ++ accesses_of s.accesses) i (behaviour_after_all (p.behaviour i) t) same
event_is_no_stop p s i (Pending k n) t q = if_is_no_stop (may_enter s.frames i k n) (Enter i) (λ e. cc (e)) q
event_is_no_stop p s i (Completed d) t q = cc

pub record IsGood (p : Pipeline) (limit workers : ℕ) (s : State) (e : Event) : Type 0 where
  pub allowed : Allowed p limit s e
  pub no_stop : e ≢ Stop
  pub room_for : HasRoomFor (nat_lt (running_instances s) workers) e

pub candidate_is_good : (p : Pipeline) (limit workers : ℕ) (events : List Event) (s : State) (e : Event) → Run p limit events s
    → IsWellFormed p
    → s.stopped ≡ false → Among e (candidates p limit workers s) → IsGood p limit workers s e
candidate_is_good p limit workers events s e r well going m =
    let room = nat_lt (running_instances s) workers in
    elim (among_either e (candidates_from p s room 0 s.frames) (if_room room (next_begin limit s)) m) [
      | inl l ↦ (
          let h = of_frame p s room 0 s.frames e l in
          let z : 0 + h.place ≡ h.place = omega arith in
          let event : event_of_status p s h.place h.frame.status h.frame.trace ≡ Some e =
          ap (λ n. event_of_status p s n h.frame.status h.frame.trace) (sym z) ∙ h.event in
          record {
            allowed = event_is_allowed p limit s h.place h.frame e going (run_legal well r) h.is h.frame.status refl event;
            no_stop = λ q. event_is_no_stop p s h.place h.frame.status h.frame.trace (event ∙ ap (λ x. Some x) q);
            room_for = h.room_for;
          })
      | inr b ↦ (
          let h = if_room_gives room (next_begin limit s) e b in
          record {
            allowed = begin_is_allowed p limit s e going h.0;
            no_stop = λ q. if_is_no_stop _ (Begin (length s.frames)) (λ x. cc (x)) (h.0 ∙ ap (λ x. Some x) q);
            room_for = h.1;
          })
    ]

pub candidates_are_allowed : CandidatesAreAllowed
candidates_are_allowed p limit workers events s e r well going m =
    let h = candidate_is_good p limit workers events s e r well going m in
    (h.allowed, h.no_stop)

-- ---- there is a candidate

among_length : {A : Type 0} (x : A) (xs : List A) → Among x xs → 0 < length xs
among_length x [] m = absurd (none_among x m)
among_length x (y ∷ ys) m = omega arith

-- an iteration that runs, if any does
running_place : (fs : List Frame) → 0 < running_in_frames fs → (k : ℕ) × (f : Frame) × (frame_at fs k ≡ Some f) × (f.status ≡ Running)
running_place [] l = absurd (omega (arith, l))
running_place (f ∷ fs) l = by_status f.status refl (λ m. running_place fs m)
  where
    later : running_of_status f.status ≡ 0 → 0 < running_in_frames fs
    later z = omega (arith, l, z)

    by_status : (w : Status) → f.status ≡ w → (0 < running_in_frames fs → (k : ℕ) × (g : Frame) × (frame_at fs k ≡ Some g)
        × (g.status ≡ Running))
        → (k : ℕ) × (g : Frame) × (frame_at (f ∷ fs) k ≡ Some g) × (g.status ≡ Running)
    by_status Running e again = (0, f, refl, e)
    by_status (Pending k n) e again = let h = again (later (ap running_of_status e)) in (suc h.0, h.1, h.2, h.3)
    by_status (Completed d) e again = let h = again (later (ap running_of_status e)) in (suc h.0, h.1, h.2, h.3)

offered_starts_none : (p : Pipeline) (before : List Cell_access) (i : ℕ) (d : Behaviour) → starts_instance
    (event_of_behaviour p before i d) ≡ false
offered_starts_none p before i (Reading c go) = refl
offered_starts_none p before i (Writing c v d) = refl
offered_starts_none p before i (Staging k n d) = refl
offered_starts_none p before i (Ending f) = refl

-- the next event is a candidate if there is room
next_is_candidate : (p : Pipeline) (limit workers : ℕ) (s : State) (e : Event) → nat_lt (running_instances s) workers ≡ true
    → IsNext p limit s e
    → Among e (candidates p limit workers s)
next_is_candidate p limit workers s e room (inl n) = by_frame (frame_at s.frames n.0) refl n.1
  where
    by_frame : (o : Option Frame) → frame_at s.frames n.0 ≡ o → event_of_frame p s n.0 o ≡ Some e → Among e (candidates p limit workers s)
    by_frame None is q = absurd (cc)
    by_frame (Some f) is q =
        let z : 0 + n.0 ≡ n.0 = omega arith in
        among_left e (candidates_from p s (nat_lt (running_instances s) workers) 0 s.frames)
        (if_room (nat_lt (running_instances s) workers) (next_begin limit s))
        (among_frames p s (nat_lt (running_instances s) workers) 0 s.frames n.0 f e is (rw z q) (inl room))
next_is_candidate p limit workers s e room (inr b) =
    among_right e (candidates_from p s (nat_lt (running_instances s) workers) 0 s.frames)
    (if_room (nat_lt (running_instances s) workers) (next_begin limit s))
    (in_room (nat_lt (running_instances s) workers) (next_begin limit s) e b (inl room))

pub runs_have_candidates : RunsHaveCandidates
runs_have_candidates p limit workers events s r well one busy going = elim (runs_never_stick p limit events s r well one going) [
  | inl fin ↦ inl fin
  | inr on ↦ inr (elim (cases_lt (running_instances s) workers) [
    | inl room ↦ among_length on.0 (candidates p limit workers s)
        (next_is_candidate p limit workers s on.0 (lt-ltb (running_instances s) workers room) (allowed_is_next p limit s on.0 on.1 on.2))
    | inr full ↦ (
        let h = running_place s.frames (omega (arith, full, busy)) in
        let d = behaviour_after_all (p.behaviour h.0) h.1.trace in
        let e = event_of_behaviour p (p.preamble ++ accesses_of s.accesses) h.0 d in
        let z : 0 + h.0 ≡ h.0 = omega arith in
        let event : event_of_status p s (0 + h.0) h.1.status h.1.trace ≡ Some e = rw z (ap (λ w. event_of_status p s h.0 w h.1.trace) h.3)
        in
        among_length e (candidates p limit workers s)
        (among_left e (candidates_from p s (nat_lt (running_instances s) workers) 0 s.frames)
        (if_room (nat_lt (running_instances s) workers) (next_begin limit s))
        (among_frames p s (nat_lt (running_instances s) workers) 0 s.frames h.0 h.1 e h.2 event
        (inr (offered_starts_none p (p.preamble ++ accesses_of s.accesses) h.0 d)))))
  ])
]

-- ---- the number of running instances

running_in_frames-update_frame : (fs : List Frame) (i : ℕ) (f : Frame) (u : Frame → Frame) → frame_at fs i ≡ Some f
    → running_in_frames (update_frame fs i u) + running_of_status f.status ≡ running_in_frames fs + running_of_status (u f).status
running_in_frames-update_frame [] i f u e = absurd (cc)
running_in_frames-update_frame (x ∷ fs) zero f u e = let same : x ≡ f = cc in rw same (omega arith)
running_in_frames-update_frame (x ∷ fs) (suc i) f u e = let h = running_in_frames-update_frame fs i f u e in omega (arith, h)

running_in_frames-begun : (fs : List Frame) → running_in_frames (fs ++ fresh_frame ∷ []) ≡ running_in_frames fs + 1
running_in_frames-begun [] = omega arith
running_in_frames-begun (x ∷ fs) = let h = running_in_frames-begun fs in omega (arith, h)

-- an event starts at most one instance, and only if it is a `Begin` or an `Enter`
record StartsFew (s : State) (e : Event) : Type 0 where
  most : running_instances (next_state s e) ≤ running_instances s + 1
  none : starts_instance e ≡ false → running_instances (next_state s e) ≤ running_instances s

few_after : (p : Pipeline) (limit : ℕ) (s : State) (e : Event) → Allowed p limit s e → StartsFew s e
few_after p limit s (Begin i) h = record { most = (let b = running_in_frames-begun s.frames in omega (arith, b)); none = λ q. absurd (cc) }
few_after p limit s (Access i a) h =
    let r = h.control in
    let m = running_in_frames-update_frame s.frames i r.frame (with_action (Accessed a) Running) r.is in
    let one : running_of_status r.frame.status ≡ 1 = ap running_of_status r.runs in
    record { most = omega (arith, m, one); none = λ q. omega (arith, m, one) }
few_after p limit s (Advance i k n) h =
    let r = h.control.running in
    let m = running_in_frames-update_frame s.frames i r.frame (with_action (Staged k n) (Pending k n)) r.is in
    record { most = omega (arith, m); none = λ q. omega (arith, m) }
few_after p limit s (Enter i) h =
    let c = h.control in
    let m = running_in_frames-update_frame s.frames i c.frame (λ f. enter_pending f.status f) c.is in
    let one : running_of_status (enter_pending c.frame.status c.frame).status ≡ 1 =
    ap (λ (g : Frame). running_of_status g.status) (enter_pending_is c.frame c.kind c.number c.named) in
    record { most = omega (arith, m, one); none = λ q. absurd (cc) }
few_after p limit s (Finish i e) h =
    let r = h.control.running in
    let m = running_in_frames-update_frame s.frames i r.frame (with_action (Ended e) (Completed e)) r.is in
    record { most = omega (arith, m); none = λ q. omega (arith, m) }
few_after p limit s Stop h = record { most = omega arith; none = λ q. omega arith }

going_after : (s : State) (e : Event) → e ≢ Stop → s.stopped ≡ false → (next_state s e).stopped ≡ false
going_after s (Begin i) apart going = going
going_after s (Access i a) apart going = going
going_after s (Advance i k n) apart going = going
going_after s (Enter i) apart going = going
going_after s (Finish i e) apart going = going
going_after s Stop apart going = absurd (apart refl)

-- the induction over a played run
record IsSoFar (p : Pipeline) (limit workers : ℕ) (events : List Event) (s : State) : Type 0 where
  run : Run p limit events s
  going : s.stopped ≡ false
  busy : running_instances s ≤ workers

so_far : {p : Pipeline} {limit workers : ℕ} {events : List Event} {s : State} → PlayedRun p limit workers events s → IsWellFormed p
    → IsSoFar p limit workers events s
so_far NoTurn well = record { run = EmptyRun; going = refl; busy = omega arith }
so_far {p} {limit} {workers} (OneTurn {events} {s} r e m) well =
    let k = so_far r well in
    let h = candidate_is_good p limit workers events s e k.run well k.going m in
    let bounded = few_after p limit s e h.allowed in
    record {
      run = RunThen k.run e h.allowed;
      going = going_after s e h.no_stop k.going;
      busy = elim h.room_for [
        | inl room ↦ (let l = ltb-true (running_instances s) workers room in let q = bounded.most in omega (arith, l, q))
        | inr none ↦ (let l = k.busy in let q = bounded.none none in omega (arith, l, q))
      ];
    }

-- at most `workers` instances run after each prefix
busy_at : {p : Pipeline} {limit workers : ℕ} {events : List Event} {s : State} → PlayedRun p limit workers events s → IsWellFormed p
    → (before rest : List Event) → events ≡ before ++ rest → running_instances (state_from initial_state before) ≤ workers
busy_at NoTurn well [] rest q = omega arith
busy_at NoTurn well (x ∷ before) rest q = absurd (cc)
busy_at {p} {limit} {workers} (OneTurn {events} {s} r e m) well before rest q =
    go rest (last_of_list rest) q (λ more z. busy_at r well before more z)
  where
    go : (ys : List Event) → LastOf ys → events ++ e ∷ [] ≡ before ++ ys
        → ((more : List Event) → events ≡ before ++ more → running_instances (state_from initial_state before) ≤ workers)
        → running_instances (state_from initial_state before) ≤ workers
    go ys IsEmpty z again =
        let all : events ++ e ∷ [] ≡ before = z ∙ append-nil before in
        let whole : PlayedRun p limit workers (events ++ e ∷ []) (next_state s e) = OneTurn r e m in
        let k = so_far whole well in
        subst (λ l. running_instances (state_from initial_state l) ≤ workers) all
        (subst (λ t. running_instances t ≤ workers) (run_state_is k.run) k.busy)
    go ys (HasLast zs y) z again =
        let z' : events ++ e ∷ [] ≡ (before ++ zs) ++ y ∷ [] = z ∙ sym (append_assoc before zs (y ∷ [])) in
        again zs (same_from_push events (before ++ zs) e y z').0

pub played_runs_are_runs : PlayedRunsAreRuns
played_runs_are_runs p limit workers events s r well =
    let k = so_far r well in
    record { run = k.run; not_stopped = k.going; at_most_workers = busy_at r well }
