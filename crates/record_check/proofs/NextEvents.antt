-- An event that is allowed is the event of its turn.
use Rattle.std.proofs.Common.{◌≡◌, ◌≢◌, ◌∙◌, ap, sym, subst, refl, arith, inl, inr, ℕ, ◌+◌, ◌<◌, ◌≤◌, List, [], ◌∷◌, ◌++◌, Bool, true}
use Rattle.std.proofs.Common.{false, Option, Some, None, length, take, get_or}
use Rattle.std.proofs.lemmas.List.{get_or_push, length-append, length-take-le, take_more}
use Rattle.pipe_model.specs.declared.event.Event.{Event}
use Rattle.pipe_model.specs.declared.event.Event.TheVariants.{Begin, Enter, Stop}
use Rattle.pipe_model.specs.declared.access.Access.{Access as Cell_access}
use Rattle.pipe_model.specs.declared.status.Status.{Status}
use Rattle.pipe_model.specs.declared.status.Status.TheVariants.{Running, Pending, Completed}
use Rattle.pipe_model.specs.Pipelines.Behaviour.{Action, Behaviour, Reading, Writing, Staging, Ending, behaviour_after_all}
use Rattle.pipe_model.specs.Pipelines.Pipeline.{Pipeline}
use Rattle.pipe_model.specs.Runs.Allowed.{Allowed}
use Rattle.pipe_model.specs.Runs.NextEvents.{event_if, event_of_behaviour, event_of_frame, event_of_status, may_enter}
use Rattle.pipe_model.specs.Runs.Run.{AllowedFrom, Run, state_from}
use Rattle.pipe_model.specs.Runs.RunLogs.{state_after}
use Rattle.pipe_model.specs.Runs.State.{Frame, State, accesses_of, frame_at, initial_state, next_state}
use Rattle.schedule_laws.proofs.AllowedEvents.{allowed_is_next}
use Rattle.run_laws.proofs.RunStates.FrontAndBack.{runs_from_the_front}
use Rattle.schedule_play.specs.declared.turns.Turn.TheVariants as turns
use Rattle.schedule_play.specs.Turns.{turn_event}
use Rattle.std.specs.Prelude.{is_some}
use Rattle.stage_code.specs.FlatCode.{FlatCode}
use Rattle.pipe_model.specs.Language.ProgramsOfTrees.{pipeline_after_init}
use Rattle.pipe_model.specs.Language.SyntaxTree.{tree_of}
use Rattle.schedule_play.specs.PlayStates.{IsPlay, KeepsProgram, PlayState, pipeline_played, run_state}
use Rattle.record_check.specs.FollowedEvents.{HasFollowed, turn_for}

turn_of_behaviour : (p : Pipeline) (before : List Cell_access) (i : ℕ) (d : Behaviour) → turn_for
    (event_of_behaviour p before i d) ≡ turns.Next i
turn_of_behaviour p before i (Reading c go) = refl
turn_of_behaviour p before i (Writing c v d) = refl
turn_of_behaviour p before i (Staging k n d) = refl
turn_of_behaviour p before i (Ending e) = refl

turn_of_status : (p : Pipeline) (s : State) (i : ℕ) (w : Status) (t : List Action) (e : Event) → event_of_status p s i w t ≡ Some e
    → turn_for e ≡ turns.Next i
turn_of_status p s i Running t e q =
    let d = behaviour_after_all (p.behaviour i) t in
    let same : event_of_behaviour p (p.preamble ++ accesses_of s.accesses) i d ≡ e = cc in
    subst (λ x. turn_for x ≡ turns.Next i) same (turn_of_behaviour p (p.preamble ++ accesses_of s.accesses) i d)
turn_of_status p s i (Pending k n) t e q = by (may_enter s.frames i k n) q
  where
    by : (b : Bool) → event_if b (Enter i) ≡ Some e → turn_for e ≡ turns.Next i
    by true q = let same : Enter i ≡ e = cc in subst (λ x. turn_for x ≡ turns.Next i) same refl
    by false q = absurd (cc)
turn_of_status p s i (Completed x) t e q = absurd (cc)

turn_of_next : (p : Pipeline) (s : State) (i : ℕ) (o : Option Frame) (e : Event) → event_of_frame p s i o ≡ Some e
    → turn_for e ≡ turns.Next i
turn_of_next p s i None e q = absurd (cc)
turn_of_next p s i (Some f) e q = turn_of_status p s i f.status f.trace e q

turn_of_begin : (n : ℕ) (b : Bool) (e : Event) → event_if b (Begin n) ≡ Some e → turn_for e ≡ turns.Begin
turn_of_begin n true e q = let same : Begin n ≡ e = cc in subst (λ x. turn_for x ≡ turns.Begin) same refl
turn_of_begin n false e q = absurd (cc)

-- an allowed event is the event of its turn
pub allowed_in_turn : (p : Pipeline) (limit : ℕ) (s : State) (e : Event) → e ≢ Stop → Allowed p limit s e
    → turn_event p limit s (turn_for e) ≡ Some e
allowed_in_turn p limit s e apart h = elim (allowed_is_next p limit s e apart h) [
  | inl n ↦ ap (turn_event p limit s) (turn_of_next p s n.0 (frame_at s.frames n.0) e n.1) ∙ n.1
  | inr b ↦ ap (turn_event p limit s) (turn_of_begin (length s.frames) _ e b) ∙ b
]

-- the last event of a run is allowed after the others
last_allowed_from : (p : Pipeline) (limit : ℕ) (s : State) (es : List Event) (e : Event) → AllowedFrom p limit s (es ++ e ∷ [])
    → Allowed p limit (state_from s es) e
last_allowed_from p limit s [] e g = g.0
last_allowed_from p limit s (x ∷ es) e g = last_allowed_from p limit (next_state s x) es e g.1

pub last_allowed : (p : Pipeline) (limit : ℕ) (es : List Event) (e : Event) (s : State) → Run p limit (es ++ e ∷ []) s
    → Allowed p limit (state_after es) e
last_allowed p limit es e s r = last_allowed_from p limit initial_state es e ((runs_from_the_front p limit (es ++ e ∷ []) s).0 r).0

-- a run goes on only with the event of a turn
pub refused_at : (p : Pipeline) (limit : ℕ) (events : List Event) (k : ℕ) (e d : Event) → k < length events → e ≡ get_or events k d
    → e ≢ Stop
    → (turn_event p limit (state_after (take k events)) (turn_for e) ≡ Some e → ⊥)
    → (s : State) → Run p limit (take (k + 1) events) s → ⊥
refused_at p limit events k e d l is apart never s r =
    let longer : take (k + 1) events ≡ take k events ++ e ∷ [] = take_more events k d l ∙ ap (λ x. take k events ++ x ∷ []) (sym is) in
    never (allowed_in_turn p limit (state_after (take k events)) e apart
    (last_allowed p limit (take k events) e s (subst (λ es. Run p limit es s) longer r)))

-- ---- players

pub some_event : {X : Type 0} (o : Option X) → is_some o ≡ true → (x : X) × (o ≡ Some x)
some_event None e = absurd (cc)
some_event (Some x) e = (x, refl)

pub none_event : {X : Type 0} (o : Option X) → is_some o ≡ false → o ≡ None
none_event None e = refl
none_event (Some x) e = absurd (cc)

pub keeps_both : (a b c : PlayState) → KeepsProgram a b → KeepsProgram b c → KeepsProgram a c
keeps_both a b c h k = record { program = k.program ∙ h.program; input = k.input ∙ h.input; limit = k.limit ∙ h.limit }

pub same_pipeline : (a b : PlayState) → KeepsProgram a b → pipeline_played b ≡ pipeline_played a
same_pipeline a b h =
    ap (λ t. pipeline_after_init (tree_of t) b.book.input) h.program ∙ ap (pipeline_after_init (tree_of a.book.program)) h.input

pub followed_to : (code : FlatCode) (cells : ℕ) (old v : PlayState) (events : List Event) (k : ℕ) → IsPlay code cells v
    → v.events ≡ take k events → KeepsProgram old v → k ≤ length events
    → (k < length events → (s : State) → Run (pipeline_played v) v.book.limit (take (k + 1) events) s → ⊥)
    → HasFollowed (pipeline_played old) old.book.limit events k
followed_to code cells old v events k play are keeps within never =
    subst (λ p. HasFollowed p old.book.limit events k) (same_pipeline old v keeps)
    (subst (λ n. HasFollowed (pipeline_played v) n events k) keeps.limit (record {
      within = within;
      run = subst (λ es. Run (pipeline_played v) v.book.limit es (state_after es)) are play.run;
      refused = never;
    }))

-- the turn has no event, or another one
pub never_follows : (v : PlayState) (events : List Event) (k : ℕ) (e d : Event) → v.events ≡ take k events → k < length events
    → e ≡ get_or events k d → e ≢ Stop
    → (turn_event (pipeline_played v) v.book.limit (run_state v) (turn_for e) ≡ Some e → ⊥)
    → (s : State) → Run (pipeline_played v) v.book.limit (take (k + 1) events) s → ⊥
never_follows v events k e d are l is apart never =
    refused_at (pipeline_played v) v.book.limit events k e d l is apart
    (subst (λ es. turn_event (pipeline_played v) v.book.limit (state_after es) (turn_for e) ≡ Some e → ⊥) are never)

-- ---- the event that was made

front_length : (before events : List Event) (k : ℕ) → before ≡ take k events → k < length events → length before ≡ k
front_length before events k e l = ap length e ∙ length-take-le k events (omega (arith, l))

pub made_within : (before after shown events : List Event) (k : ℕ) (x : Event) → before ≡ take k events → k < length events
    → after ≡ before ++ x ∷ [] → shown ≡ after → k < length shown
made_within before after shown events k x e l f s =
    let a = front_length before events k e l in
    let b = ap length s ∙ ap length f in
    omega (arith, a, b, length-append before (x ∷ []))

pub made_event : (before after shown events : List Event) (k : ℕ) (x d : Event) → before ≡ take k events → k < length events
    → after ≡ before ++ x ∷ [] → shown ≡ after → get_or shown k d ≡ x
made_event before after shown events k x d e l f s =
    ap (λ es. get_or es k d) (s ∙ f) ∙ get_or_push before x d k (front_length before events k e l)

pub made_front : (before after events : List Event) (k : ℕ) (x d : Event) → before ≡ take k events → k < length events
    → after ≡ before ++ x ∷ [] → get_or events k d ≡ x → after ≡ take (k + 1) events
made_front before after events k x d e l f same =
    f ∙ ap (λ es. es ++ x ∷ []) e ∙ ap (λ y. take k events ++ y ∷ []) (sym same) ∙ sym (take_more events k d l)

-- two events of one turn are the same
pub same_made : (o : Option Event) (x y : Event) → o ≡ Some x → o ≡ Some y → x ≡ y
same_made o x y e f = some_same (sym e ∙ f)
  where
    some_same : {a b : Event} → Some a ≡ Some b → a ≡ b
    some_same g = cc
