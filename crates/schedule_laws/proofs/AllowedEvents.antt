-- An event is allowed exactly if it is the next event of an iteration or the beginning of the next iteration.
use Rattle.std.proofs.Common.{◌≡◌, ◌≢◌, ◌∙◌, sym, ap, subst, refl, ℕ, ℤ, zero, suc, List, [], ◌∷◌, ◌++◌, Bool, true, false, not, inl, inr}
use Rattle.std.proofs.Common.{◌<ℤ◌, ◌-◌, length, nat_lt, Option, Some, None, arith, ◌&&◌, ◌||◌}
use Rattle.std.specs.Prelude.{int_lt}
use Rattle.std.proofs.lemmas.Bool.{cases_Bool, lt-ltb, ltb-true}
use Rattle.std.proofs.lemmas.Int.{ints}
use Rattle.pipe_model.specs.Runs.Allowed.{Allowed, HasPassed, ContinuesLoop, MayBegin, IsRunning, LeftHasPassed}
use Rattle.pipe_model.specs.Pipelines.Behaviour.{Behaviour, Reading, Writing, Staging, Ending, Accessed, Staged, Ended, Offers}
use Rattle.pipe_model.specs.Pipelines.Behaviour.{behaviour_after_all, read_access, write_access, closes_at_once}
use Rattle.pipe_model.specs.Races.Columns.{node_at}
use Rattle.pipe_model.specs.Pipelines.Pipeline.{Pipeline, HasLegalStages}
use Rattle.pipe_model.specs.Runs.State.{Frame, State, frame_at, alive, accesses_of}
use Rattle.pipe_model.specs.declared.status.Status.{Status}
use Rattle.pipe_model.specs.declared.status.Status.TheVariants.{Running, Pending, Completed}
use Rattle.pipe_model.specs.Pipelines.Store.{value_after, HasReply}
use Rattle.pipe_model.specs.declared.access.Access.{Access as Cell_access}
use Rattle.pipe_model.specs.declared.event.Event.{Event}
use Rattle.pipe_model.specs.declared.event.Event.TheVariants.{Begin, Access, Advance, Enter, Finish, Stop}
use Rattle.pipe_model.specs.declared.node.Kind.{Kind}
use Rattle.pipe_model.specs.declared.node.Kind.TheVariants.{Zero, Wait, Continue}
use Rattle.pipe_model.specs.declared.node.Node.{Node}
use Rattle.run_laws.proofs.RunStates.FrameMoves.{last_node}
use Rattle.run_laws.proofs.RunStates.FrameTraces.{action_offered}
use Rattle.run_laws.proofs.RunStates.Progress.{LegalNow, AllLegal, run_legal, offered_by}
use Rattle.pipe_model.specs.Runs.NextEvents.{has_passed, frame_has_passed, left_has_passed, may_enter, continues_loop, frame_continues_loop}
use Rattle.pipe_model.specs.Runs.NextEvents.{event_of_behaviour, event_if, event_of_status, event_of_frame, next_event, next_begin}
use Rattle.schedule_laws.specs.ScheduleLaws.{AllowedEventsAreNext, IsNext}

-- ---- the tests of `NextEvents` and the propositions of `Allowed`

pub int_lt_from_test : (a b : ℤ) → int_lt a b ≡ true → a <ℤ b
int_lt_from_test a b t = grind (arith, ints)

pub int_lt_to_test : (a b : ℤ) → a <ℤ b → int_lt a b ≡ true
int_lt_to_test a b l = elim (cases_Bool (int_lt a b)) [ inl t ↦ t | inr f ↦ absurd (grind (arith, ints)) ]

pub both_true : (a b : Bool) → (a && b) ≡ true → (a ≡ true) × (b ≡ true)
both_true true true e = (refl, refl)
both_true true false e = absurd (cc)
both_true false b e = absurd (cc)

pub passed_from_test : (w : Status) (nodes : List Node) (n : ℤ) → has_passed w nodes n ≡ true → HasPassed w nodes n
passed_from_test Running nodes n e = int_lt_from_test n (node_at nodes (length nodes - 1)).number e
passed_from_test (Pending k m) nodes n e = int_lt_from_test n m e
passed_from_test (Completed d) nodes n e = tt

pub passed_to_test : (w : Status) (nodes : List Node) (n : ℤ) → HasPassed w nodes n → has_passed w nodes n ≡ true
passed_to_test Running nodes n l = int_lt_to_test n (node_at nodes (length nodes - 1)).number l
passed_to_test (Pending k m) nodes n l = int_lt_to_test n m l
passed_to_test (Completed d) nodes n l = refl

pub left_passed_from_test : (fs : List Frame) (i : ℕ) (n : ℤ) → left_has_passed fs i n ≡ true → LeftHasPassed fs i n
left_passed_from_test fs zero n e = tt
left_passed_from_test fs (suc j) n e = λ f is. passed_from_test f.status f.nodes n (subst (λ o. frame_has_passed o n ≡ true) is e)

pub left_passed_to_test : (fs : List Frame) (i : ℕ) (n : ℤ) → LeftHasPassed fs i n → left_has_passed fs i n ≡ true
left_passed_to_test fs zero n l = refl
left_passed_to_test fs (suc j) n l = by_frame (frame_at fs j) refl
  where
    by_frame : (o : Option Frame) → frame_at fs j ≡ o → frame_has_passed o n ≡ true
    by_frame None e = refl
    by_frame (Some f) e = passed_to_test f.status f.nodes n (l f e)

pub enter_from_test : (fs : List Frame) (i : ℕ) (k : Kind) (n : ℤ) → may_enter fs i k n ≡ true → k ≡ Wait → LeftHasPassed fs i n
enter_from_test fs i Zero n e w = absurd (cc)
enter_from_test fs i Wait n e w = left_passed_from_test fs i n e
enter_from_test fs i Continue n e w = absurd (cc)

pub enter_to_test : (fs : List Frame) (i : ℕ) (k : Kind) (n : ℤ) → (k ≡ Wait → LeftHasPassed fs i n) → may_enter fs i k n ≡ true
enter_to_test fs i Zero n h = refl
enter_to_test fs i Wait n h = left_passed_to_test fs i n (h refl)
enter_to_test fs i Continue n h = refl

or_from_test : (a b : Bool) → (not a || b) ≡ true → a ≡ true → b ≡ true
or_from_test true b e t = e
or_from_test false b e t = absurd (cc)

or_to_test : (a b : Bool) → (a ≡ true → b ≡ true) → (not a || b) ≡ true
or_to_test true b h = h refl
or_to_test false b h = refl

pub continues_from_test : (w : Status) (nodes : List Node) → continues_loop w nodes ≡ true → ContinuesLoop w nodes
continues_from_test Running nodes e = ltb-true 1 (length nodes) e
continues_from_test (Pending k m) nodes e = tt
continues_from_test (Completed d) nodes e = λ t. ltb-true 1 (length nodes) (or_from_test (closes_at_once d) (nat_lt 1 (length nodes)) e t)

pub continues_to_test : (w : Status) (nodes : List Node) → ContinuesLoop w nodes → continues_loop w nodes ≡ true
continues_to_test Running nodes g = lt-ltb 1 (length nodes) g
continues_to_test (Pending k m) nodes g = refl
continues_to_test (Completed d) nodes g = or_to_test (closes_at_once d) (nat_lt 1 (length nodes)) (λ t. lt-ltb 1 (length nodes) (g t))

-- ---- the running instance

pub event_at_running : (p : Pipeline) (s : State) (i : ℕ) (r : IsRunning s i)
    → next_event p s i ≡ Some (event_of_behaviour p (p.preamble ++ accesses_of s.accesses) i
    (behaviour_after_all (p.behaviour i) r.frame.trace))
event_at_running p s i r = ap (event_of_frame p s i) r.is ∙ ap (λ w. event_of_status p s i w r.frame.trace) r.runs

-- the only read that the behaviour offers has the value of its cell as reply
offered_read : (p : Pipeline) (before : List Cell_access) (i c : ℕ) (v : ℤ) (a : Cell_access) → a ≡ read_access c v
    → HasReply p.store before a
    → Access i (read_access c (value_after p.store before c)) ≡ Access i a
offered_read p before i c v a e h =
    subst (λ x. HasReply p.store before x → Access i (read_access c (value_after p.store before c)) ≡ Access i x) (sym e)
    (λ k. ap (λ y. Access i (read_access c y)) (sym (k refl))) h

offered_access : (p : Pipeline) (before : List Cell_access) (i : ℕ) (d : Behaviour) (a : Cell_access) → Offers d (Accessed a)
    → HasReply p.store before a
    → event_of_behaviour p before i d ≡ Access i a
offered_access p before i (Reading c go) a o h = let e = o.1 in offered_read p before i c o.0 a (cc) h
offered_access p before i (Writing c v d) a o h = cc
offered_access p before i (Staging k n d) a o h = absurd (cc)
offered_access p before i (Ending e) a o h = absurd (cc)

offered_advance : (p : Pipeline) (before : List Cell_access) (i : ℕ) (d : Behaviour) (k : Kind) (n : ℤ) → Offers d (Staged k n)
    → event_of_behaviour p before i d ≡ Advance i k n
offered_advance p before i (Reading c go) k n o = absurd (let e = o.1 in cc)
offered_advance p before i (Writing c v d) k n o = absurd (cc)
offered_advance p before i (Staging j m d) k n o = cc
offered_advance p before i (Ending e) k n o = absurd (cc)

offered_finish : (p : Pipeline) (before : List Cell_access) (i : ℕ) (d : Behaviour) (f : _) → Offers d (Ended f)
    → event_of_behaviour p before i d ≡ Finish i f
offered_finish p before i (Reading c go) f o = absurd (let e = o.1 in cc)
offered_finish p before i (Writing c v d) f o = absurd (cc)
offered_finish p before i (Staging j m d) f o = absurd (cc)
offered_finish p before i (Ending e) f o = cc

-- ---- from allowed to next

begin_is_next : (limit : ℕ) (s : State) (i : ℕ) → MayBegin limit s i → next_begin limit s ≡ Some (Begin i)
begin_is_next limit s i m =
    rw (lt-ltb (alive s) limit m.room, by_frame (frame_at s.frames (length s.frames - 1)) refl) (ap (λ n. Some (Begin n)) (sym m.number))
  where
    by_frame : (o : Option Frame) → frame_at s.frames (length s.frames - 1) ≡ o → frame_continues_loop o ≡ true
    by_frame None e = refl
    by_frame (Some f) e = by_length s.frames refl
      where
        by_length : (fs : List Frame) → s.frames ≡ fs → continues_loop f.status f.nodes ≡ true
        by_length [] q = absurd (let h : frame_at [] (length s.frames - 1) ≡ Some f =
            subst (λ l. frame_at l (length s.frames - 1) ≡ Some f) q e in cc)
        by_length (g ∷ fs) q =
            let long : length s.frames ≡ suc (length fs) = ap (λ (l : List Frame). length l) q in
            let number = m.number in
            let place : i ≡ suc (length s.frames - 1) = omega (arith, long, number) in
            continues_to_test f.status f.nodes (m.follows (length s.frames - 1) f place e)

pub allowed_is_next : (p : Pipeline) (limit : ℕ) (s : State) (e : Event) → e ≢ Stop → Allowed p limit s e → IsNext p limit s e
allowed_is_next p limit s (Begin i) apart h = inr (begin_is_next limit s i h.control)
allowed_is_next p limit s (Access i a) apart h =
    let r = h.control in
    inl (
      i,
      event_at_running p s i r ∙ ap (λ x. Some x) (offered_access p (p.preamble ++ accesses_of s.accesses) i
          (behaviour_after_all (p.behaviour i) r.frame.trace) a (action_offered p s i r.frame (Accessed a) r.is h.program.0) h.program.1),
    )
allowed_is_next p limit s (Advance i k n) apart h =
    let r = h.control.running in
    inl (
      i,
      event_at_running p s i r ∙ ap (λ x. Some x) (offered_advance p (p.preamble ++ accesses_of s.accesses) i
          (behaviour_after_all (p.behaviour i) r.frame.trace) k n (action_offered p s i r.frame (Staged k n) r.is h.program)),
    )
allowed_is_next p limit s (Enter i) apart h =
    let m = h.control in
    inl (
      i,
      ap (event_of_frame p s i) m.is ∙ ap (λ w. event_of_status p s i w m.frame.trace) m.named
          ∙ ap (λ b. event_if b (Enter i)) (enter_to_test s.frames i m.kind m.number m.free),
    )
allowed_is_next p limit s (Finish i e) apart h =
    let r = h.control.running in
    inl (
      i,
      event_at_running p s i r ∙ ap (λ x. Some x) (offered_finish p (p.preamble ++ accesses_of s.accesses) i
          (behaviour_after_all (p.behaviour i) r.frame.trace) e (action_offered p s i r.frame (Ended e) r.is h.program)),
    )
allowed_is_next p limit s Stop apart h = absurd (apart refl)

-- ---- from next to allowed

-- the next action of a running instance is allowed
pub offered_is_allowed : (p : Pipeline) (limit : ℕ) (s : State) (i : ℕ) (d : Behaviour) → s.stopped ≡ false
    → (r : IsRunning s i) → behaviour_after_all (p.behaviour i) r.frame.trace ≡ d → (first : Bool)
    → (first ≡ true → length r.frame.nodes ≡ 1) → HasLegalStages first (last_node r.frame.nodes).number d
    → Allowed p limit s (event_of_behaviour p (p.preamble ++ accesses_of s.accesses) i d)
offered_is_allowed p limit s i (Reading c go) going r e first one l =
    let v = value_after p.store (p.preamble ++ accesses_of s.accesses) c in
    record { going = going; control = r; program = (offered_by p s i r (Accessed (read_access c v)) (Reading c go) e (v, refl), λ q. refl) }
offered_is_allowed p limit s i (Writing c v d) going r e first one l =
    record {
      going = going;
      control = r;
      program = (
        offered_by p s i r (Accessed (write_access c v))
            (Writing c v d) e refl,
        λ q. absurd (cc),
      );
    }
offered_is_allowed p limit s i (Staging k n d) going r e first one l =
    record {
      going = going;
      control = record { running = r; kind = l.0; above = l.1.0 };
      program =
          offered_by p s i r (Staged k n) (Staging k n d) e refl;
    }
offered_is_allowed p limit s i (Ending f) going r e first one l =
    record {
      going = going;
      control = record { running = r; first = λ q. one (l q) };
      program =
          offered_by p s i r (Ended f) (Ending f) e refl;
    }

pub event_is_allowed : (p : Pipeline) (limit : ℕ) (s : State) (i : ℕ) (f : Frame) (e : Event) → s.stopped ≡ false → AllLegal p s.frames
    → frame_at s.frames i ≡ Some f → (w : Status) → f.status ≡ w → event_of_status p s i w f.trace ≡ Some e → Allowed p limit s e
event_is_allowed p limit s i f e going legal is Running runs q =
    let l : LegalNow Running f.nodes (behaviour_after_all (p.behaviour i) f.trace) =
    subst (λ w. LegalNow w f.nodes (behaviour_after_all (p.behaviour i) f.trace)) runs (legal i f is) in
    let event = event_of_behaviour p (p.preamble ++ accesses_of s.accesses) i (behaviour_after_all (p.behaviour i) f.trace) in
    let same : event ≡ e = cc in
    subst (λ x. Allowed p limit s x) same
    (offered_is_allowed p limit s i (behaviour_after_all (p.behaviour i) f.trace) going (record { frame = f; is = is; runs = runs }) refl
    l.0 l.1 l.2)
event_is_allowed p limit s i f e going legal is (Pending k n) runs q = by_test (may_enter s.frames i k n) refl q
  where
    by_test : (b : Bool) → may_enter s.frames i k n ≡ b → event_if b (Enter i) ≡ Some e → Allowed p limit s e
    by_test true t q =
        let same : Enter i ≡ e = cc in
        subst (λ x. Allowed p limit s x) same
        (record {
          going = going;
          control = record {
            frame = f;
            kind = k;
            number = n;
            is = is;
            named = runs;
            free =
                enter_from_test s.frames i k n t;
          };
          program = tt;
        })
    by_test false t q = absurd (cc)
event_is_allowed p limit s i f e going legal is (Completed d) runs q = absurd (cc)

pub begin_is_allowed : (p : Pipeline) (limit : ℕ) (s : State) (e : Event) → s.stopped ≡ false → next_begin limit s ≡ Some e
    → Allowed p limit s e
begin_is_allowed p limit s e going q =
    by_test (nat_lt (alive s) limit && frame_continues_loop (frame_at s.frames (length s.frames - 1))) refl q
  where
    by_test : (b : Bool) → (nat_lt (alive s) limit && frame_continues_loop (frame_at s.frames (length s.frames - 1))) ≡ b
        → event_if b (Begin (length s.frames)) ≡ Some e → Allowed p limit s e
    by_test true t q =
        let both = both_true (nat_lt (alive s) limit) (frame_continues_loop (frame_at s.frames (length s.frames - 1))) t in
        let same : Begin (length s.frames) ≡ e = cc in
        subst (λ x. Allowed p limit s x) same (record {
          going = going;
          control = record {
            number = refl;
            room = ltb-true (alive s) limit both.0;
            follows = λ j f long is. (
                let place : length s.frames - 1 ≡ j = omega (arith, long) in
                continues_from_test f.status f.nodes
                (subst (λ o. frame_continues_loop o ≡ true) is (subst (λ n. frame_continues_loop (frame_at s.frames n) ≡ true) place
                both.1)));
          };
          program = tt;
        })
    by_test false t q = absurd (cc)

pub next_is_allowed : (p : Pipeline) (limit : ℕ) (s : State) (e : Event) → s.stopped ≡ false → AllLegal p s.frames → IsNext p limit s e
    → Allowed p limit s e
next_is_allowed p limit s e going legal (inl n) = by_frame (frame_at s.frames n.0) refl n.1
  where
    by_frame : (o : Option Frame) → frame_at s.frames n.0 ≡ o → event_of_frame p s n.0 o ≡ Some e → Allowed p limit s e
    by_frame None is q = absurd (cc)
    by_frame (Some f) is q = event_is_allowed p limit s n.0 f e going legal is f.status refl q
next_is_allowed p limit s e going legal (inr b) = begin_is_allowed p limit s e going b

pub allowed_events_are_next : AllowedEventsAreNext
allowed_events_are_next p limit events s e r well going apart =
    (allowed_is_next p limit s e apart, next_is_allowed p limit s e going (run_legal well r))
