-- A book without an event that ends an iteration with a trap makes no column that ends with one.
use Rattle.std.proofs.Common.{◌≡◌, ℕ, zero, suc, List, [], ◌∷◌, ◌++◌, false, All, map, refl, arith}
use Rattle.std.proofs.lemmas.Bool.{or_parts}
use Rattle.std.specs.List.{list_any}
use Rattle.pipe_model.specs.declared.column.Column.{Column}
use Rattle.pipe_model.specs.declared.event.Event.{Event}
use Rattle.pipe_model.specs.declared.event.Event.TheVariants.{Access, Advance, Begin, Enter, Finish, Stop}
use Rattle.pipe_model.specs.declared.status.Status.{Status}
use Rattle.pipe_model.specs.declared.status.Status.TheVariants.{Completed, Pending, Running}
use Rattle.pipe_model.specs.declared.ticket.BookEntry.{BookEntry}
use Rattle.pipe_model.specs.Pipelines.Behaviour.{Ended, Staged}
use Rattle.pipe_model.specs.Runs.ControlParts.{control_from, next_control}
use Rattle.pipe_model.specs.Runs.RunLogs.{column_of_frame}
use Rattle.pipe_model.specs.Runs.State.{Frame, State, end_of_status, enter_pending, fresh_frame, initial_state, update_frame, with_action}
use Rattle.run_record.specs.TrappedEvents.{IsUntrapped, ends_trapped}

abbrev IsUntrappedFrame : Frame → Type 0
IsUntrappedFrame f = IsUntrapped (end_of_status f.status)

abbrev AreUntrapped : List Frame → Type 0
AreUntrapped [] = Unit {0}
AreUntrapped (f ∷ fs) = IsUntrappedFrame f × AreUntrapped fs

updated : (fs : List Frame) (i : ℕ) (u : Frame → Frame) → ((f : Frame) → IsUntrappedFrame f → IsUntrappedFrame (u f))
    → AreUntrapped fs → AreUntrapped (update_frame fs i u)
updated [] i u keeps all = tt
updated (f ∷ fs) zero u keeps all = (keeps f all.0, all.1)
updated (f ∷ fs) (suc i) u keeps all = (all.0, updated fs i u keeps all.1)

pushed : (fs : List Frame) → AreUntrapped fs → AreUntrapped (fs ++ fresh_frame ∷ [])
pushed [] all = (tt, tt)
pushed (f ∷ fs) all = (all.0, pushed fs all.1)

entered : (f : Frame) → IsUntrappedFrame f → IsUntrappedFrame (enter_pending f.status f)
entered f h = by f.status refl
  where
    by : (w : Status) → f.status ≡ w → IsUntrappedFrame (enter_pending w f)
    by Running e = h
    by (Pending k n) e = tt
    by (Completed x) e = h

-- one event more
next_untrapped : (s : State) (e : Event) → ends_trapped e ≡ false → AreUntrapped s.frames
    → AreUntrapped (next_control s e).frames
next_untrapped s (Begin i) none all = pushed s.frames all
next_untrapped s (Access i a) none all = all
next_untrapped s (Advance i k n) none all = updated s.frames i (with_action (Staged k n) (Pending k n)) (λ f h. tt) all
next_untrapped s (Enter i) none all = updated s.frames i (λ f. enter_pending f.status f) entered all
next_untrapped s (Finish i x) none all = updated s.frames i (with_action (Ended x) (Completed x)) (λ f h. none) all
next_untrapped s Stop none all = all

-- the events of a book
untrapped_from : (s : State) (book : List BookEntry) → list_any (λ (b : BookEntry). ends_trapped b.event) book ≡ false
    → AreUntrapped s.frames
    → AreUntrapped (control_from s (map (λ (b : BookEntry). b.event) book)).frames
untrapped_from s [] none all = all
untrapped_from s (b ∷ book) none all =
    let both = or_parts (ends_trapped b.event) (list_any (λ (x : BookEntry). ends_trapped x.event) book) none in
    untrapped_from (next_control s b.event) book both.1 (next_untrapped s b.event both.0 all)

columns_untrapped : (fs : List Frame) → AreUntrapped fs → All (λ (c : Column). IsUntrapped c.end) (map column_of_frame fs)
columns_untrapped [] all k d l = absurd (omega (arith, l))
columns_untrapped (f ∷ fs) all zero d l = all.0
columns_untrapped (f ∷ fs) all (suc k) d l = columns_untrapped fs all.1 k d (omega (arith, l))

pub books_without_traps_make_none : (book : List BookEntry) → list_any (λ (b : BookEntry). ends_trapped b.event) book ≡ false
    → All (λ (c : Column). IsUntrapped c.end)
    (map column_of_frame (control_from initial_state (map (λ (b : BookEntry). b.event) book)).frames)
books_without_traps_make_none book none = columns_untrapped _ (untrapped_from initial_state book none tt)
