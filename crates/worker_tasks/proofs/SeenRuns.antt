-- What was seen of a run stays.
use Rattle.std.proofs.Common.{◌≡◌, ◌∙◌, sym, subst, refl, List, [], ◌∷◌, ◌++◌, true, append-nil}
use Rattle.pipe_frame.specs.HallViews.{BeginsWith, Sees}
use Rattle.pipe_model.specs.declared.event.Event.{Event}
use Rattle.pipe_model.specs.declared.event.Event.TheVariants.{Begin, Access, Advance, Enter, Finish, Stop}
use Rattle.pipe_model.specs.Runs.Run.{state_from}
use Rattle.pipe_model.specs.Runs.RunLogs.{state_after}
use Rattle.pipe_model.specs.Runs.State.{State, initial_state, next_state}
use Rattle.worker_tasks.specs.Tasks.{IsStopSeen}

stays_once : (s : State) (e : Event) → s.stopped ≡ true → (next_state s e).stopped ≡ true
stays_once s (Begin i) h = h
stays_once s (Access i a) h = h
stays_once s (Advance i k n) h = h
stays_once s (Enter i) h = h
stays_once s (Finish i e) h = h
stays_once s Stop h = refl

stays : (s : State) (es : List Event) → s.stopped ≡ true → (state_from s es).stopped ≡ true
stays s [] h = h
stays s (e ∷ es) h = stays (next_state s e) es (stays_once s e h)

state_from-append : (s : State) (xs ys : List Event) → state_from s (xs ++ ys) ≡ state_from (state_from s xs) ys
state_from-append s [] ys = refl
state_from-append s (x ∷ xs) ys = state_from-append (next_state s x) xs ys

stop_stays : (whole part : List Event) → BeginsWith whole part → IsStopSeen part → IsStopSeen whole
stop_stays whole part h stop =
    subst IsStopSeen (sym h.1) (subst (λ (s : State). s.stopped ≡ true) (sym (state_from-append initial_state part h.0))
    (stays (state_after part) h.0 stop))

-- a call that makes no event keeps what was seen
pub keeps_stop : (before after : List Event) (Returns : State → Type 0) → Sees before after [] Returns → IsStopSeen before
    → IsStopSeen after
keeps_stop before after Returns s stop = subst IsStopSeen (sym (s.adds ∙ append-nil s.base)) (stop_stays s.base before s.later stop)
